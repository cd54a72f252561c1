-- The walk of the example over lent areas: its contracts, and the cases of its functions.
pub mod Clauses
pub mod KeptLaws
pub mod ChildCases
pub mod MeetCases
pub mod RowCases
pub mod WalkCases
