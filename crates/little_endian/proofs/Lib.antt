pub mod EndianLaws
