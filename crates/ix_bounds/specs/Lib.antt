pub mod Parts
pub mod Within
pub mod Totals
pub mod Tests
pub mod Names
pub mod Shelving
pub mod Ticked
pub mod LedgerLaws
