-- Definitions that the contracts of public calls cite: what a reader must believe.
pub mod Octets
pub mod Words
-- Laws, and a rule over all numbers below a bound by one computed test.
pub mod Laws
pub mod Below
