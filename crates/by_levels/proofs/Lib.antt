mod Turns
mod Readings
