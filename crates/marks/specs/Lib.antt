-- Definitions that the contracts of public calls cite, and what is claimed of a checked mark: what a reader must believe.
pub mod Marks
pub mod Resume
-- What only private functions promise.
pub mod Inner
