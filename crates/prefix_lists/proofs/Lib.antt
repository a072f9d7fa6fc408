pub mod BigLaws
pub mod HalfLaws
pub mod FitLaws
pub mod JudgeLaws
pub mod ListLaws
pub mod NumberLaws
