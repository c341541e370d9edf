mod Kvnos
mod Printable
mod Times
mod Negotiations
mod Said
