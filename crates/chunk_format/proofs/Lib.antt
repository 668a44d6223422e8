pub mod HeaderLaws
pub mod WriteLaws
pub mod WalkLaws
pub mod BlankLaws
pub mod SecondLaws
pub mod EmptyLaws
