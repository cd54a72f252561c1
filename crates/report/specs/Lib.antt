-- What a report gives, and the way through it.
pub mod Report
pub mod ReportLaws
