pub mod LeastLaws
mod Examples
mod ConstraintsRules
mod Finding
mod Zips
mod Rules
mod Counting
mod Points
mod Solving
mod Seeding
mod Rooting
mod Musts
mod Knowing
mod Ordering
mod Wholes
