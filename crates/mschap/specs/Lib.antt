-- what the contracts of the public calls cite, with all that it is made of: to be believed, line by line against 01 and RFC 2759
pub mod Lengths
pub mod Name
pub mod Mschap
pub mod Answers
