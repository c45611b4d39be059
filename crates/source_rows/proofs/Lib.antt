mod Channels
