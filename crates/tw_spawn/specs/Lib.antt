pub mod Failing
pub mod MemorySpawner
pub mod Spawner
