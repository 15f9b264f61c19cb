pub mod Division
pub mod Errors
pub mod One
pub mod Period
pub mod Quotient
pub mod Start
