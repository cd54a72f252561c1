-- The engine's answer as the numbers of the whole run.
pub mod Numbers
