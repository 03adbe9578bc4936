mod CountLaws
mod OrderLaws
mod ReviewerNames
mod TableLaws
mod TextLaws
