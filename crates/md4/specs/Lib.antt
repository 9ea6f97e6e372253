-- Definitions that the contract of the public call cites: what a reader must believe.
pub mod Md4
-- Laws.
pub mod Laws
