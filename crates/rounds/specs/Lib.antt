-- The run of the procedure: what it relies on and gives (Clauses), a round of its loop (RoundCases), its start (RunCases).
pub mod Clauses
pub mod RoundCases
pub mod RunCases
