pub mod Inventory
pub mod ScanText
pub mod Scanning
