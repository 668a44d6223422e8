pub mod Words
pub mod SessionLaws
pub mod TableLaws
pub mod Laws
