-- Proofs that several functions share.
pub mod AnyLaws
pub mod RefusalLaws
