mod Leaving
mod Depending
mod Counting
mod Grouping
