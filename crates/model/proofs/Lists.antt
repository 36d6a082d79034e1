-- Lists of anything: what holds of every element, that no element stands twice, permutations.
use mathlib.Core.Path.{◌≡◌, refl, sym, ap, ◌∙◌, subst}
use mathlib.Core.List.{List, [], ◌∷◌, ◌++◌, Permᴰ}
use Prim.Native.Nat.{ℕ, zero, suc, ◌<◌}
use native.Mathlib.Omega.{arith}
use lib.ListN.{length, get_or}

module _ {A : Type 0} where
  abbrev pub Every : (A → Type 0) → List A → Type 0
  Every P [] = Unit {0}
  Every P (x ∷ xs) = P x × Every P xs

  pub every-perm : (P : A → Type 0) {a b : List A} → Permᴰ a b → Every P a → Every P b
  every-perm P Permᴰ.nil h = h
  every-perm P (Permᴰ.cons e p) (h, hs) = (rw e at h, every-perm P p hs)
  every-perm P (Permᴰ.swap e f) (h, hs) = (rw f at hs.0, (rw e at h, hs.1))
  every-perm P (Permᴰ.trans p q) h = every-perm P q (every-perm P p h)

  pub every-split : (P : A → Type 0) (a b : List A) → Every P (a ++ b) → Every P a × Every P b
  every-split P [] b h = (tt, h)
  every-split P (x ∷ a) b (h, hs) = let r = every-split P a b hs in ((h, r.0), r.1)

  pub every-at : (P : A → Type 0) (d : A) (xs : List A) → Every P xs → (i : ℕ) → i < length xs → P (get_or xs i d)
  every-at P d [] h i l = absurd (omega arith)
  every-at P d (x ∷ xs) (h, hs) zero l = h
  every-at P d (x ∷ xs) (h, hs) (suc i) l = every-at P d xs hs i (omega arith)

  pub every_map : (P Q : A → Type 0) → ((x : A) → P x → Q x) → (xs : List A) → Every P xs → Every Q xs
  every_map P Q f [] h = tt
  every_map P Q f (x ∷ xs) (h, hs) = (f x h, every_map P Q f xs hs)

  abbrev pub OnceEach : List A → Type 0
  OnceEach [] = Unit {0}
  OnceEach (x ∷ xs) = Every (λ y. ¬ (x ≡ y)) xs × OnceEach xs

  pub once-perm : {a b : List A} → Permᴰ a b → OnceEach a → OnceEach b
  once-perm Permᴰ.nil h = h
  once-perm (Permᴰ.cons {b = b} e p) (h, hs) = (every-perm (λ y. ¬ (b ≡ y)) p (rw e at h), once-perm p hs)
  once-perm (Permᴰ.swap {b = b} {b' = b'} {l = l} e f) ((h, g), (k, ks)) = subst (λ x. OnceEach (x ∷ b' ∷ l)) f (subst (λ y. OnceEach (b ∷ y ∷ l)) e (((λ q. h (sym q)), k), (g, ks)))
  once-perm (Permᴰ.trans p q) h = once-perm q (once-perm p h)

  pub once-split : (a b : List A) → OnceEach (a ++ b) → OnceEach a × OnceEach b × Every (λ x. Every (λ y. ¬ (x ≡ y)) b) a
  once-split [] b h = (tt, h, tt)
  once-split (x ∷ a) b (h, hs) =
      let r = once-split a b hs in
      let s = every-split (λ y. ¬ (x ≡ y)) a b h in
      ((s.0, r.0), r.1, (s.1, r.2))

  pub perm-length : {a b : List A} → Permᴰ a b → length a ≡ length b
  perm-length Permᴰ.nil = refl
  perm-length (Permᴰ.cons e p) = ap suc (perm-length p)
  perm-length (Permᴰ.swap e f) = refl
  perm-length (Permᴰ.trans p q) = perm-length p ∙ perm-length q

  pub every-join : (P : A → Type 0) (a b : List A) → Every P a → Every P b → Every P (a ++ b)
  every-join P [] b g h = h
  every-join P (x ∷ a) b (g, gs) h = (g, every-join P a b gs h)

  pub once_join : (a b : List A) → OnceEach a → OnceEach b → Every (λ x. Every (λ y. ¬ (x ≡ y)) b) a → OnceEach (a ++ b)
  once_join [] b g h k = h
  once_join (x ∷ a) b (g, gs) h (k, ks) = (every-join (λ y. ¬ (x ≡ y)) a b g k, once_join a b gs h ks)

  pub every-both : (P Q R : A → Type 0) → ((x : A) → P x → Q x → R x) → (xs : List A) → Every P xs → Every Q xs → Every R xs
  every-both P Q R f [] g h = tt
  every-both P Q R f (x ∷ xs) (g, gs) (h, hs) = (f x g h, every-both P Q R f xs gs hs)

  pub every-all : (P : A → Type 0) → ((x : A) → P x) → (xs : List A) → Every P xs
  every-all P f [] = tt
  every-all P f (x ∷ xs) = (f x, every-all P f xs)
