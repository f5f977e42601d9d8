mod Stock
mod Steps
