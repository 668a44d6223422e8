pub mod ChainedImages
pub mod MigratedImages
pub mod Laws
