-- Definitions that the contracts of public calls cite: what a reader must believe.
pub mod Sha256
pub mod Hmac
-- What only private functions promise.
pub mod Inner
-- Laws, for callers.
pub mod Laws
