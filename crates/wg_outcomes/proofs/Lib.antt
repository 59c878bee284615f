mod Checked
mod Fits
mod Lengths
