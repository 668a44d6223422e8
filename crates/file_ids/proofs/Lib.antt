pub mod FreshLaws
pub mod GivenLaws
pub mod KeptLaws
