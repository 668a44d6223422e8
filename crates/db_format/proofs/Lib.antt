pub mod WordLaws
pub mod AttributeLaws
pub mod EntryLaws
pub mod NameLaws
pub mod HeaderLaws
pub mod FieldLaws
pub mod ViewLaws
