mod Answering
mod Comparing
pub mod JudgingBounds
pub mod JudgingLaws
pub mod JudgingNoAnswer
pub mod JudgingVerdict
