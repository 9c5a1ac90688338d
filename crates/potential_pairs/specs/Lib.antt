pub mod Keeping
pub mod Levels
pub mod Naming
pub mod Pages
pub mod Planning
pub mod Potential
pub mod PotentialLaws
pub mod Tallies
