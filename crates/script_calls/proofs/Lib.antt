pub mod WordLaws
mod Fronts
