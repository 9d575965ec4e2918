pub mod PlainPlan
