mod Faults
mod Finding
mod One
mod Writing
mod Read
