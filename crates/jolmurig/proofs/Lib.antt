mod Fronts
mod KeyLists
mod PasswordLists
mod Writes
mod Judging
mod TermLists
