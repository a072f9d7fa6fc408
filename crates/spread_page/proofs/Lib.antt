pub mod PageLaws
pub mod FitLaws
