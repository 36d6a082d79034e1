-- Sound, both ways: exactly the image of a book in order, and of one only.
use mathlib.Core.Path.{◌≡◌, refl, sym, ap}
use mathlib.Core.List.{List, [], ◌∷◌}
use mathlib.Core.Bool.{Bool, true, false, ◌||◌}
use Prim.Native.Nat.{ℕ, ◌*◌}
use lib.Dec.{eqb, compare_is_eq}
use lib.ListN.{length}
use lib.IntN.{ℤ}
use borrow.Author.Tests.{eqb-true}
use Rattle.model.specs.Ask.{has}
use Rattle.model.specs.Book.{Book, head_of}
use Rattle.model.specs.Demands.{Exact, Image, InOrder}
use Rattle.model.specs.Entry.{Entry, cmp}
use Rattle.model.specs.Pool.{book_of}
use Rattle.model.specs.Rebuild.{listing}
use Rattle.model.proofs.Backs.{is-head, is-sound}
use Rattle.model.proofs.Books.{Valid}
use Rattle.model.proofs.Listings.{all-listing, every-has, listing-all}
use Rattle.model.proofs.Lists.{Every}
use Rattle.model.proofs.Orders.{cmp-refl}
use Rattle.model.proofs.Sounds.{Is, sound-is}
use Rattle.model.proofs.Trees.{balanced-true, both, ordered-true, true-balanced, true-ordered}
use Rattle.model.specs.declared.Head.{Head}

pub has-every : (P : Entry → Type 0) (es : List Entry) → ((e : Entry) → has e es ≡ true → P e) → Every P es
has-every P [] f = tt
has-every P (x ∷ xs) f = (f x (rw (cmp-refl 0 x) refl), has-every P xs (λ e h. f e (rw h (or-true (compare_is_eq (cmp 0 e x))))))
  where
    or-true : (a : Bool) → (a || true) ≡ true
    or-true true = refl
    or-true false = refl

pub valid-in_order : (K C : ℕ) (b : Book) → Valid K C b → InOrder K C b
valid-in_order K C b v =
    record {
      order = true-ordered 0 b.tree v.ordered;
      balance = true-balanced b.tree v.balanced;
      numbers = λ e h. every-has (λ x. length x ≡ K) e (listing b.tree) (listing-all (λ x. length x ≡ K) b.tree v.sized) h;
      slots = v.pool;
    }

pub in_order-valid : (K C : ℕ) (b : Book) → InOrder K C b → Valid K C b
in_order-valid K C b o =
    record {
      ordered = ordered-true 0 b.tree o.order;
      balanced = balanced-true b.tree o.balance;
      sized = all-listing (λ e. length e ≡ K) b.tree (has-every (λ e. length e ≡ K) (listing b.tree) o.numbers);
      pool = o.slots;
    }

image-is : (h : Head) (ks : List ℤ) (ls : List ℕ) (b : Book) → InOrder h.k h.c b → Image h ks ls b → Is h ks ls b
unfolding head_of
image-is h ks ls b o i =
    record {
      valid = in_order-valid h.k h.c b o;
      count = sym (ap (λ x. x.n) i.head);
      root = sym (ap (λ x. x.root) i.head);
      free = sym (ap (λ x. x.free) i.head);
      same_keys = sym i.key_table;
      same_links = sym i.link_table;
    }

pub exact : (h : Head) (ks : List ℤ) (ls : List ℕ) → Exact h ks ls
exact h ks ls =
    record {
      only = λ z e.
          let l = both (eqb (length ks) (h.k * h.c)) (eqb (length ls) (3 * h.c)) z in
          let i = sound-is h ks ls (eqb-true (length ks) (h.k * h.c) l.0) (eqb-true (length ls) (3 * h.c) l.1) e in
          (valid-in_order h.k h.c (book_of h ks ls) i.valid, record { head = is-head h ks ls (book_of h ks ls) i; key_table = sym i.same_keys; link_table = sym i.same_links });
      each = λ b o i. is-sound h ks ls b (image-is h ks ls b o i);
    }
