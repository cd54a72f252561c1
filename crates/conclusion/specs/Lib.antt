-- What a run decides: verdicts, decisions and what each function gives (Clauses), the cases of each function.
pub mod Clauses
pub mod VerdictCases
pub mod ShowCases
pub mod DecideCases
