mod Machines
mod Exports
mod Links
