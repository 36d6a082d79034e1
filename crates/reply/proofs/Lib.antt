-- Laws of the gate.
pub mod Gates
pub mod Pools
