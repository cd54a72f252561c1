-- The checks of a rule file: what they look for.
pub mod Refusals
pub mod Findings
pub mod FindingLaws
