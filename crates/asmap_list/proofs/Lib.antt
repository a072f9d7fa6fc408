pub mod PutLaws
pub mod CallLaws
pub mod Examples
