pub mod GoodGraphs
