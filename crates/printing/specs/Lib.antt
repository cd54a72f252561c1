-- The printing of an answer: what its functions ask and give, and the ways through them. Definitions apart from their laws.
pub mod Printing
pub mod PrintingLaws
