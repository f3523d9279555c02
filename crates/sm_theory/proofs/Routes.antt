-- Routes between stable matchings.
pub mod OneMore
pub mod Sets
pub mod Shortest
