-- What a failed read leaves.
pub mod Input
