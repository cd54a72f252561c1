-- The converter's answer as the numbers of the definition, and what its functions ask and give (Clauses), the ways through them (ConvertCases).
pub mod Clauses
pub mod ConvertCases
