pub mod LaneRuns
pub mod Parts
