mod Lines
mod Listings
