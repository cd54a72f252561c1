-- The rows of a draft in negation normal form, as the code keeps them: words (Words), shapes (Shapes), what the functions ask and give (Clauses).
-- Definitions apart from their laws.
pub mod Words
pub mod Shapes
pub mod Clauses
pub mod ShapeLaws
pub mod WordLaws
pub mod PutCases
pub mod ListCases
pub mod KeepCases
