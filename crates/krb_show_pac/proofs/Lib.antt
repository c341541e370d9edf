mod Readings
mod Rows
mod Lists
mod Names
mod Results
