mod Checking
mod Rows
mod Answering
