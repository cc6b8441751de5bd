mod Capped
mod Counted
mod Demands
mod Names
mod Needs
