pub mod InWindow
