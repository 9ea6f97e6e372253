-- Definitions that the contract of the public call cites: what a reader must believe.
pub mod Tables
pub mod Des
-- What only private functions promise.
pub mod Inner
-- Laws, and a known answer.
pub mod Laws
pub mod Vectors
