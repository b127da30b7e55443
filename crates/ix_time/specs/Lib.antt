pub mod Chosen
pub mod Instants
pub mod Laws
pub mod Scan
pub mod Times
pub mod Window
