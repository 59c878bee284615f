mod Flags
mod Orders
mod Rows
