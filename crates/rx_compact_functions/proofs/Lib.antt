mod Naming
mod Placing
