pub mod Lists
pub mod Tests
pub mod Determined
