-- The table and how a number is picked: what a reader must believe.
pub mod Answer
-- Laws.
pub mod Laws
