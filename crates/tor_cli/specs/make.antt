pub mod Attrs
pub mod AttrsText
pub mod CheckAfter
pub mod ChosenFiles
pub mod FileSizes
pub mod PathsText
pub mod Request
