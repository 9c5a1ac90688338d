mod Joining
mod Sending
mod Steps
