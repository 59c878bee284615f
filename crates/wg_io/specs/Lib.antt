pub mod Causes
pub mod Counts
pub mod MemFiles
pub mod MemSink
pub mod Named
pub mod NoFaultFiles
pub mod RealFiles
