pub mod PassLaws
pub mod Passing
pub mod Turns
pub mod WidthLaws
pub mod BuildLaws
pub mod CallLaws
