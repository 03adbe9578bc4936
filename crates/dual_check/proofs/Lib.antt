pub mod Duality
pub mod Exchange
pub mod Ints
pub mod SumLaws
pub mod CutLaws
pub mod PriceLaws
pub mod MarkLaws
