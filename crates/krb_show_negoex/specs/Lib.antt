pub mod Negoex
pub mod NegoexPlaces
