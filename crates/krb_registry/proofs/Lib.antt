mod Rows
mod Distinct
