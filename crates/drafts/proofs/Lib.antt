-- The normalized draft keeps what the draft says (Normalized); the converter's promise is kept (Kept); verdicts carry over to the draft (Verdict).
pub mod Normalized
pub mod Kept
pub mod Verdict
pub mod EncodingLaws
pub mod InclusionRowLaws
pub mod MeaningLaws
pub mod NeededLaws
pub mod PutLaws
pub mod PutListLaws
pub mod ShareLaws
pub mod SoundLaws
