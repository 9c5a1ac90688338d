mod Cuts
mod OneCut
mod Plays
mod Runs
mod WordLists
mod Feeds
mod Kept
mod Rooms
