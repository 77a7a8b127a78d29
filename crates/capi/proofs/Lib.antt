-- What the proofs of several functions use.
mod Replies
pub mod Places
pub mod Named
pub mod StateBytes
