mod ListLaws
mod RefusalLaws
mod LotteryLaws
mod PublishLaws
mod CommandLaws
pub mod RowLaws
mod FrontLaws
pub mod EditionLaws
