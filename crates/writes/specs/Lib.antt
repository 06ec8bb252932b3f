-- nothing to believe: laws, and the code's own definitions
pub mod Code
pub mod CodeDelivery
