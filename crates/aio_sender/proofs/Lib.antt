mod Offering
mod Telling
