pub mod HexLaws
pub mod CountLaws
mod TableLaws
