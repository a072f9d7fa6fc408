pub mod NoteLaws
pub mod PairLaws
pub mod MergeLaws
