-- Expansion: what it relies on and gives (Clauses), the puts of one expansion (PutCases), the ways through each function.
pub mod Clauses
pub mod PutCases
pub mod ChildCases
pub mod SuccessorCases
pub mod ExpandCases
