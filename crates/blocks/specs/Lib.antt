-- Definitions that the contracts of the digests cite: what a reader must believe.
pub mod Blocks
-- What the code promises beyond them.
pub mod Inner
-- Laws, of runs over blocks and of the last blocks.
pub mod Laws
pub mod Tails
