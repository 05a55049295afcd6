mod Gates
mod Rows
