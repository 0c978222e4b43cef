pub mod Reading
pub mod RisingProp
