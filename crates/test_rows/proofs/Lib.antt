pub mod ToyOpening
