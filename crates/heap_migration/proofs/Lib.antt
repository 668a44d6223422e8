pub mod HeadLaws
pub mod ChunkLaws
pub mod MigrationLaws
pub mod StoreLaws
