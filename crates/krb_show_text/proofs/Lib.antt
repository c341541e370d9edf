pub mod JsonTexts
pub mod Lines
pub mod Printable
pub mod PrintableJson
pub mod PrintablePlaces
