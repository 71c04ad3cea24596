pub mod Calls
pub mod Clients
pub mod HeldClients
pub mod Arguments
pub mod Replies
pub mod Served
pub mod Serving
pub mod Waiting
