mod Answered
mod Back
mod Folds
mod Numerals
mod Parts
mod Transcripts
mod Lines
