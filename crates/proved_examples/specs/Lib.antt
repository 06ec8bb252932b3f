-- final statements
pub mod Examples
