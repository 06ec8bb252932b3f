pub mod Shifts
pub mod Zeros
pub mod Ones
pub mod LawfulLayout
