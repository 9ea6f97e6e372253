-- Definitions that the contracts of public calls cite: what a reader must believe.
pub mod Walk
-- The claim: a packet opened in pieces is the packet opened in one call; and what holds of every walk, also one made by hand.
pub mod Pieces
