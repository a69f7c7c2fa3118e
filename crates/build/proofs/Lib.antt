mod Adds
mod Answering
pub mod BuildingService
mod Connecting
mod Descending
mod Parts
mod Rounds
mod Rows
mod Searching
mod TableLoading
mod WordEnd
