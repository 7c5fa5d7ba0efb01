-- what public contracts and laws cite
pub mod Conversation
pub mod Serving
pub mod Closing
pub mod Simulating
pub mod Ends
pub mod Hosts
