-- what the contracts of the public calls cite
pub mod Host
-- demand 3 and M-105 for a program in C: the claims
pub mod Run
-- what follows from the first: calls on a record's octets, and refused calls
pub mod Laws
