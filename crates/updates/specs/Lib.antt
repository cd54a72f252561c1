-- Updates over lent areas: their contracts, and the ways through their functions.
pub mod Clauses
pub mod LaterLaws
pub mod UpdateCases
pub mod ParentCases
pub mod ClimbCases
