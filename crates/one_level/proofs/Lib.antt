mod Unfolds
