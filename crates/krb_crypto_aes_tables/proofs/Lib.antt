pub mod WordTables
pub mod WordRounds
pub mod InverseKeys
pub mod Keys
