-- Records in areas of bytes. Definitions apart from their laws.
pub mod Codes
pub mod Areas
pub mod AreaLaws
pub mod Layout
pub mod Records
pub mod RecordLaws
