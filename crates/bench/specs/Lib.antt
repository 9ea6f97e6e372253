-- To be believed: what the public calls leave in a buffer, and the record that they start from.
pub mod Copied
-- What a private function promises: a text fed in pieces.
pub mod Cut
