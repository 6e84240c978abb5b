-- What the command `serve` answers and leaves.
pub mod Plans
pub mod Serving
pub mod SessionTouches
