mod Conversing
mod Making
mod Putting
mod Reading
mod Listing
