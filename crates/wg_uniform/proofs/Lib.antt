mod Alike
mod Launch
