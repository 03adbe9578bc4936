use Rattle.edge_io.specs.Told.{told}
use Rattle.matcher_cli.specs.Making.{made_rules}
use Rattle.matcher_cli.proofs.MakingLaws.{makes_taken, makes_unread, memory_exact, memory_makes}
use Rattle.matcher_cli.proofs.making.serve_making.Goals as goal

pub returns-in-Err-clause-makes : goal.returns-in-Err-clause-makes
returns-in-Err-clause-makes g c = memory_makes c.args.seed c.args.size (made_rules c.args.seed c.args.size) (told (g.K.Sink.taken c.args.sink.now)) (g.K.Sink.taken c.args.sink.now)

pub returns-in-Err-clause-exact : goal.returns-in-Err-clause-exact
returns-in-Err-clause-exact g c = memory_exact (made_rules c.args.seed c.args.size)

pub returns-in-Ok-clause-usage : goal.returns-in-Ok-clause-usage
returns-in-Ok-clause-usage g c =
    makes_taken c.make_folder.result c.args.seed c.args.size (made_rules c.args.seed c.args.size) (told (g.K.Sink.taken c.args.sink.now)) (g.K.Sink.taken c.make_folder.new.sink) c.make_folder.ensures.makes

pub returns-in-Ok-clause-unread : goal.returns-in-Ok-clause-unread
returns-in-Ok-clause-unread g c =
    makes_unread c.make_folder.result c.args.seed c.args.size (made_rules c.args.seed c.args.size) (told (g.K.Sink.taken c.args.sink.now)) (g.K.Sink.taken c.make_folder.new.sink) c.make_folder.ensures.makes
