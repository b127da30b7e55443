pub mod Again
pub mod Lists
pub mod Rows
pub mod RowsAgain
