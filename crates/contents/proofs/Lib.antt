pub mod Copy
pub mod Laws
pub mod Payload
