pub mod HelpLemmas
pub mod OperandLemmas
pub mod PlainNames
pub mod ValueLemmas
