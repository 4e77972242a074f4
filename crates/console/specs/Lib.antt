pub mod Calls
pub mod Conversation
