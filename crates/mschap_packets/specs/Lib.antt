-- what the contracts of the public calls cite, with all that it is made of: to be believed, line by line against 01
pub mod Packet
