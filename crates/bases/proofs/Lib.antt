mod Places
mod Valid
