pub mod FieldPaths
pub mod TypeLaws
pub mod Places
pub mod Rows
pub mod Paths
pub mod RowLaws
pub mod PathLaws
pub mod Contents
