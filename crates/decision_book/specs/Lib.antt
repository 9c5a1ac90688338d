pub mod DecisionLaws
pub mod Recorded
pub mod Standing
