pub mod Sound
pub mod Causes
pub mod TakingBack
pub mod FarApart
pub mod KeptPairs
pub mod LeastWithin
pub mod Covering
