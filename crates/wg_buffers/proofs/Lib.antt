mod Joining
mod Lists
mod Placing
mod Started
