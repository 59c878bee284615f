pub mod Lanes
pub mod Launching
pub mod Requests
pub mod Sending
pub mod Turns
pub mod WordLists
