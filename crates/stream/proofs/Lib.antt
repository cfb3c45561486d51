-- Lemmas of the proofs.
mod Advancing
