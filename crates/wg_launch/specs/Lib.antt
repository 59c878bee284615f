pub mod ByLanes
pub mod FirstLane
pub mod Launches
