mod Accepted
mod SameRuns
