pub mod RunTrails
pub mod SinceEntered
pub mod UseTrails
