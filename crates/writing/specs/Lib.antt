-- The bytes of the example, written from the spare bytes of the records. Definitions apart from their laws.
pub mod Writing
pub mod WritingLaws
