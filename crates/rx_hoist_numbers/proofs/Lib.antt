pub mod Ways
mod Rows
mod Parts
mod Forms
