-- What the gate cites.
pub mod Gates
