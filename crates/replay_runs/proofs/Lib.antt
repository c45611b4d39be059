mod Channels
mod Closing
mod Answering
mod Forged
mod Starting
mod RacedLogs
