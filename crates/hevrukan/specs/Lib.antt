-- definitions
pub mod Interface
-- nothing to believe: laws, and the code's own definitions
pub mod Laws
