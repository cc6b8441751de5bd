mod Places
mod Effects
