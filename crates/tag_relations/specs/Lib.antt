pub mod Planning
pub mod PlanLaws
pub mod Related
pub mod Work
pub mod WorkLaws
