-- An entry is right of its two names (Entry); the promise is kept (Kept); the table is reflexive and transitive (Order); how large it can be (Most); larger work areas (Stays).
pub mod Entry
pub mod Kept
pub mod Order
pub mod Most
pub mod Stays
pub mod NameCountLaws
pub mod NameLaws
