mod PlacesLemmas
mod Plain
mod Reasons
