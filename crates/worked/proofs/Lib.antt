mod Cases
mod Right
