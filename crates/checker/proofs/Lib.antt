pub mod Verdict
pub mod Answers
pub mod Lists
pub mod Refusals
