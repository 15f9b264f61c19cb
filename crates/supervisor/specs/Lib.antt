pub mod Limits
pub mod Names
pub mod Phases
pub mod Rules
pub mod Step
