-- A catalogue: the places of its rows (RowList), what its functions give (Clauses), the ways through them, and what the listed names give to whoever
-- fills their table.
pub mod RowList
pub mod Clauses
pub mod NameCases
pub mod EntryCases
pub mod FillCases
pub mod ListedLaws
pub mod PageCases
