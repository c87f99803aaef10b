pub mod Report
pub mod Reports
pub mod Text
