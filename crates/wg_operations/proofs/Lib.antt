mod Worlds
mod Registers
