pub mod Text
pub mod Json
pub mod TextWithPlaces
pub mod JsonWithPlaces
