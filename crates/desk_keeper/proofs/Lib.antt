pub mod KeeperLaws
pub mod ReadingLaws
pub mod FieldSpells
pub mod NameLaws
pub mod CommandSpells
pub mod RowLaws
pub mod WritingLaws
