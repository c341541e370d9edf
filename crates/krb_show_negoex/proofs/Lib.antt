mod Elements
mod NegoexPlaces
mod Several
mod Told
mod WrittenPieces
