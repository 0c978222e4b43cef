pub mod Messages
pub mod Views
pub mod Rule
pub mod Reached
pub mod Lane
pub mod steps
