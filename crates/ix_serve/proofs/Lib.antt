pub mod Standing
pub mod Answering
pub mod Exporting
pub mod Asking
pub mod Taking
pub mod Behind
pub mod Closing
