-- What the reader answers, and the parts of a file.
pub mod Read
pub mod PartLaws
