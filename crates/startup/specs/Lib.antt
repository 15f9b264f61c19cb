pub mod Reports
pub mod Attempts
pub mod Stands
pub mod Run
pub mod Scan
pub mod Make
pub mod Agrees
