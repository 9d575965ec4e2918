mod Cuts
mod Ending
mod AllFound
mod Writing
