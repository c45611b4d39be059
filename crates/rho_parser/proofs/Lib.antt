mod Ends
mod Wholes
