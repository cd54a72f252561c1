-- The words of a problem, written: rows, masks and inclusions, an accepted file, other wanted rows and other rules. Definitions apart from their laws.
pub mod RowLaws
pub mod FileRows
pub mod Remade
pub mod RemadeLaws
pub mod Marking
pub mod MarkingLaws
pub mod Writing
pub mod WritingLaws
pub mod Chaining
pub mod ChainingLaws
pub mod FileProblem
pub mod Want
pub mod WantLaws
