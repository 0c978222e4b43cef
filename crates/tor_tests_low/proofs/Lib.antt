pub mod ListRows
