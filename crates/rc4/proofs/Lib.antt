-- Laws of the definitions in specs/.
pub mod Laws
pub mod Permutation
-- What only the proofs of functions need.
pub mod Boxes
pub mod Draws
pub mod Keys
pub mod Runs
pub mod Texts
pub mod Marks
pub mod Made
