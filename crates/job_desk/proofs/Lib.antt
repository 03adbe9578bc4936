mod BroughtLaws
mod DeskLaws
mod LookLaws
mod PublishLaws
mod LettingLaws
mod IndexLaws
