mod Entered
mod Filed
mod LogChanges
mod Logged
mod Named
pub mod Ready
mod Replies
mod Restarted
mod Sampled
mod Starting
mod Still
mod Taken
mod Ticked
mod TreeCounts
