-- Chains of records that share a key. Definitions apart from their laws.
pub mod Chain
pub mod ChainLaws
pub mod Places
pub mod PlaceLaws
