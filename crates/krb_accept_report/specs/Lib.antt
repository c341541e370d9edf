pub mod Texts
pub mod Requests
pub mod Reasons
pub mod Negotiation
pub mod Asked
pub mod Questions
pub mod Reports
