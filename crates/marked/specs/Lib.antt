-- the marked cases, to be read against 01; no contract cites them
pub mod Marked
