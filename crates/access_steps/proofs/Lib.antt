pub mod KeptTouches
pub mod MoreTouches
pub mod OneTouch
pub mod PlanSteps
pub mod ToldTouches
