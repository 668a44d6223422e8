pub mod WordLaws
pub mod LineLaws
pub mod LabelLaws
pub mod NumberLaws
pub mod ScriptLaws
pub mod ReadBack
