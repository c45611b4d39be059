mod Tallying
mod Emptying
mod Storing
mod Closing
