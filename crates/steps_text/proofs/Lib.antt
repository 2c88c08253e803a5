mod Positions
mod Trims
mod LineCuts
