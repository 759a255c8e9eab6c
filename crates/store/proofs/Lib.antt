-- Laws that only the proofs of this crate need: of the scans.
pub mod Scans
