-- What an example lists, and how it lies in bytes. Definitions apart from their laws.
pub mod Evaluation
pub mod Layout
pub mod LayoutLaws
