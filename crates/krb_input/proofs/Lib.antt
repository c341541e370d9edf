mod Rules
mod Machines
