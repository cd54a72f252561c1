-- Theorems on the definitions of specs/ that rest on what a must-fail edit changes (docs/PORT.md, Moved theorems).
pub mod FiniteLaws
pub mod GivenLaws
pub mod MeaningLaws
