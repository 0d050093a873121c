pub mod ChunkLaws
pub mod ChunksLaws
pub mod NumberLaws
