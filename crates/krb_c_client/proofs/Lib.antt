pub mod SuiteLists
pub mod KeyLists
pub mod Results
pub mod Turning
pub mod Keeping
pub mod Counting
pub mod FirstRunning
pub mod FurtherRunning
