pub mod Names
pub mod Decimals
mod FirstWords
mod OneForm
mod Paths
mod Cutting
mod Pushing
mod Behind
