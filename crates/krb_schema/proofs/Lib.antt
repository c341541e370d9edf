pub mod Beginnings
mod Composing
mod Contents
mod Determined
mod FirstFaults
mod Headers
mod OneForest
pub mod Refusals
pub mod Walking
pub mod PathSizes
