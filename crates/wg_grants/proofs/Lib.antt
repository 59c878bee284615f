mod Parts
mod Tables
