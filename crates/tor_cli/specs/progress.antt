pub mod ProgressLine
