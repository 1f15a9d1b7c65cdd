-- Laws of what the yard tells C.
pub mod Laws
