pub mod DiskFile
pub mod Faults
pub mod FileRig
pub mod FileSource
pub mod Folders
pub mod InputSource
