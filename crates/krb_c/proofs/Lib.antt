mod RequestItems
mod EncodingItems
mod RequestEncodings
mod RequestStatuses
mod RowChecks
