-- The claim about the cases, and that of K4, proved.
pub mod Proved
