-- The laws proved, each in a line or two.
pub mod Laws
-- What is behind the last but one of them: two packets opened one behind the other.
pub mod Reports
-- Packets that meet its conditions, and a record that shows why another law has its.
pub mod Example
