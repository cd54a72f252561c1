-- The marks of the example's walk in the spare bytes of the records. Definitions apart from their laws.
pub mod Marks
pub mod Marked
pub mod MarkLaws
