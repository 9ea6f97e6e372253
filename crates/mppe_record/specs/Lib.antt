-- what the contracts of the public calls cite
pub mod Record
-- what only private functions promise
pub mod Inner
