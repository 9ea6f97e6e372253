-- To be believed, since the contracts of public calls cite them: RC4's definition ..
pub mod Cipher
-- .. and what the calls answer.
pub mod Answers
-- What the contracts of private functions alone say: nothing of a public call rests on reading it.
pub mod Inner
