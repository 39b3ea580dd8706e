pub mod TrackRows
pub mod Lists
pub mod Laying
