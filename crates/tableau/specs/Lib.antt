-- The tableau over lent areas: its contracts, and the cases of its functions.
pub mod Clauses
pub mod PutCases
pub mod JudgeCases
pub mod SmallCases
