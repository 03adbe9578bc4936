mod NumberLaws
mod PairLaws
mod TableLaws
mod OrderLaws
