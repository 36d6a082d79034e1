-- What the proofs of several functions use.
mod Marks
mod Bounds
mod Edges
mod Pass
mod Walk
mod Verdict
