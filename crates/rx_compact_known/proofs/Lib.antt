mod Appending
mod Closing
mod Telling
