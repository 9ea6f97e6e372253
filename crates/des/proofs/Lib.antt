pub mod Selection
pub mod Joining
pub mod Groups
pub mod Iterations
pub mod Holding
