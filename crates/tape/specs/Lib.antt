-- Definitions that the contracts of public calls cite, and what is claimed of whole tapes and of larger limits: what a reader must believe.
pub mod Tape
pub mod Replay
pub mod Larger
