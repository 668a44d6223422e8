pub mod StepLaws
pub mod EndLaws
