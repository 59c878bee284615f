pub mod Frames
pub mod LaneSays
pub use Rattle.wg_control.specs.Silence
