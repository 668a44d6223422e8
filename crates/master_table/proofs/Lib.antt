pub mod CountLaws
pub mod TableLaws
pub mod RowLaws
pub mod ChainLaws
pub mod FurtherLaws
pub mod SlotWords
pub mod LentLaws
