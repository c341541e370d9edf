pub mod RequestItems
