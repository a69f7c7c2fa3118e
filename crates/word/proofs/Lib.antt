mod Moving
mod Descent
mod Lengths
mod Answering
