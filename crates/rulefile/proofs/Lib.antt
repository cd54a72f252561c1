-- Theorems on the definitions of specs/ that rest on what a must-fail edit changes (docs/PORT.md, Moved theorems).
pub mod FormatLaws
pub mod FormerLaws
pub mod LiteralRowLaws
pub mod WantedLaws
