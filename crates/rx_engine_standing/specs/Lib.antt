pub mod PlanFits
pub mod TwoPrograms
pub mod RunBegins
pub mod InFront
pub mod EndGives
pub mod Bound
pub mod CallBinds
