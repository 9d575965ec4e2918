mod Examples
mod Unchanged
