-- What the program writes for a draft, and the way to it. Definitions apart from their laws.
pub mod Output
pub mod OutputLaws
