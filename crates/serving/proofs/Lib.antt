mod Counting
mod Givens
mod Receiving
mod Joining
mod Keeping
mod Rising
