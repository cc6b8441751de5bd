mod Entries
mod Apart
