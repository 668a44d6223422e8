pub mod CallLaws
pub mod LineLaws
pub mod LoanLaws
pub mod RunLaws
