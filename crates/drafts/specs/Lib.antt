-- Drafts and their conversion into rule files: which rows are written (Normalize), a file in bytes (Encoding), the whole (Conversion), what is promised of it (Promise).
-- Definitions apart from their laws. Some drafts and what becomes of them: KnownConversions.
pub mod Normalize
pub mod Encoding
pub mod Conversion
pub mod Promise
pub mod Sound
pub mod ShapeLaws
pub mod ShapeMeaning
pub mod KnownConversions
pub mod NeededLaws
pub mod ShareLaws
