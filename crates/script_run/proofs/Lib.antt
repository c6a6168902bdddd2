pub mod Choice
mod Faults
mod Hearing
mod Moments
mod Names
pub mod OneLine
pub mod OwnRuns
pub mod Parts
mod Rising
mod Rounds
mod Searched
mod Texts
mod Turns
mod Whole
pub mod Worlds
