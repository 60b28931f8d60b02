pub mod StepLine
pub mod Reading
