-- What the proofs of functions of src/through.rt share.
pub mod Counting
pub mod Stretches
