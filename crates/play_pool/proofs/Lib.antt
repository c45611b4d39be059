mod Sums
mod Causes
mod Closes
mod Opens
