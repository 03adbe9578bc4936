pub mod Potentials
