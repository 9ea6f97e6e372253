-- Definitions that the contracts of public calls cite: what a reader must believe.
pub mod Binding
