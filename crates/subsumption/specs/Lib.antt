-- Which names are under which (02, [7]): the names that a catalogue lists (Names), the catalogue from bytes to bytes (Catalogue), what is promised of it (Promise).
-- Definitions apart from their laws.
pub mod Names
pub mod Catalogue
pub mod Promise
