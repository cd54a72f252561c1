-- The graph in three areas of bytes. Definitions apart from their laws.
pub mod Chains
pub mod ChainsLaws
pub mod Graphs
pub mod GraphLaws
pub mod AddLaws
pub mod SearchLaws
pub mod RefineLaws
