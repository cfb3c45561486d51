-- Laws of the definitions of specs/, and what the proofs of src/ share.
pub mod Progress
pub mod Roles
pub mod RoleSamples
