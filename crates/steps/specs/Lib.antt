-- The steps of the tableau on the graph in three areas. Definitions apart from their laws.
pub mod Steps
pub mod StepLaws
pub mod Tables
pub mod TableLaws
