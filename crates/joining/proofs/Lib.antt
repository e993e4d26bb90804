mod Pairs
mod Whole
