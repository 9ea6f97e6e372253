-- what the contracts of the public calls cite
pub mod Walk
-- what follows from it: a walk written and read back, and octets read and written back
pub mod Laws
