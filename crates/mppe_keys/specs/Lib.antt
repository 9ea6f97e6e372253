-- Definitions that the contracts of public calls cite: what a reader must believe.
pub mod Keys
pub mod Answers
-- What only private functions promise.
pub mod Inner
