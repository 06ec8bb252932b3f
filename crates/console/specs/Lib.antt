-- nothing to believe: laws, and the code's own definitions
pub mod CodePassing
