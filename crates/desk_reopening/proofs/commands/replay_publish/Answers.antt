use Rattle.std.proofs.Common.{◌≡◌, ◌∙◌, List, Option, Result, Ok, ap, length, subst, sym}
use Rattle.publication.specs.declared.certificate.Certificate.{Certificate}
use Rattle.desk_keeper.specs.declared.words.Command.TheVariants.{Publish}
use Rattle.desk_keeper.specs.declared.words.Named.{Named}
use Rattle.desk_history.specs.Courses.{history_of}
use Rattle.desk_history.specs.Histories.{History}
use Rattle.desk_history.specs.Rows.{named}
use Rattle.desk_reopening.specs.Replaying.{Finds, IsAcceptedWith, IsTheOne}
use Rattle.desk_reopening.proofs.CommandLaws.{none_damage, published_row, takes_one}
use Rattle.desk_reopening.proofs.commands.replay_publish.Goals as goal

pub note_publish-requires-clause-more : goal.note_publish-requires-clause-more
note_publish-requires-clause-more c =
    let H : History = history_of c.args.entries.now in
    c.requires.more ∙ ap length (sym (published_row H c.args.caller c.args.number c.args.job c.args.text.now c.in-Ok.read (c.in-Ok.ensures H c.requires.kept.are).is.is_read))

pub returns-in-Err-clause-replay : goal.returns-in-Err-clause-replay
returns-in-Err-clause-replay c =
    let H : History = history_of c.args.entries.now in
    none_damage H (named c.args.caller c.args.number (Publish c.args.job)) c.args.text.now c.in-Err.fault H (c.in-Err.ensures H c.requires.kept.are)

pub returns-clause-replay : goal.returns-clause-replay
returns-clause-replay c =
    let H : History = history_of c.args.entries.now in
    takes_one H (named c.args.caller c.args.number (Publish c.args.job)) c.args.text.now c.in-Ok.read (history_of c.note_publish.new.entries) (c.in-Ok.ensures H c.requires.kept.are) c.note_publish.ensures.entry
