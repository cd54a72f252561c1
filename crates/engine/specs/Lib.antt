-- The engine's call: what its functions give (Clauses), and the answer (AnswerCases); runs with no example, their laws, and what they say (AskingCases).
pub mod Clauses
pub mod AnswerCases
pub mod Asking
pub mod AskingLaws
pub mod AskingCases
