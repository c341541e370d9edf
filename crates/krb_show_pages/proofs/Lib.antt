mod CcacheSizes
mod KeytabParts
mod Texts
