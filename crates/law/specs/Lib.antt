pub mod Faults
pub mod Checks
pub mod Answers
pub mod Log
pub mod Verdicts
pub mod Law
pub mod Texts
