mod Opened
mod Gathered
