-- All three claims of specs/ proved: demand 3 from M-105.
pub mod Line
pub mod AnyOrder
pub mod Demand3
pub mod Stateful
-- Runs that meet their schedules.
pub mod Example
pub mod AtLimit
pub mod AnyOrderExample
pub mod StatefulExample
