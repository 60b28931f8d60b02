pub mod Outcomes
pub mod Nodes
pub mod Legal
pub mod Ranges
pub mod EveryNode
pub mod TickCases
pub mod Apartness
pub mod Letters
