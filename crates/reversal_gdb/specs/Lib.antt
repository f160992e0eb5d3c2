pub mod CommandLine
pub mod Loading
pub mod OptionValues
