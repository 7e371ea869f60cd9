pub mod OffsetFile
pub mod FileDisk
pub mod Folders
pub mod FileFolder
pub mod FolderFiles
pub mod ProcessSpawner
