pub mod Given
pub mod Laying
