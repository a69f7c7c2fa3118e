mod Beginning
mod Identifying
mod Parts
mod Turns
