pub mod Parts
pub mod Reply
pub mod Bytes
pub mod Said
