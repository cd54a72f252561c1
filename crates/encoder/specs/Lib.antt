-- The bytes of a rule file, written from its parts. Definitions apart from their laws.
pub mod Encoder
pub mod EncoderLaws
