pub mod Components
mod Kept
pub mod Credentials
pub mod CcacheSteps
pub mod WholeCcache
pub mod CcacheWrites
pub mod Records
pub mod Joined
pub mod KeytabSteps
pub mod WholeKeytab
pub mod KeytabWrites
