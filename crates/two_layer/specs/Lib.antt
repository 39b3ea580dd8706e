pub mod Drawing
pub mod Given
