mod Copying
mod Parsing
mod Within
