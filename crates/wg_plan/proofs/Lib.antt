mod Greatest
mod Small
mod Sums
mod Good
mod Mosts
