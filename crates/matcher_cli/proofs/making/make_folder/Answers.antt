use Rattle.std.proofs.Common.{refl}
use Rattle.edge_io.specs.Told.{told}
use Rattle.matcher_cli.proofs.MakingLaws.{fault_made_exact, fault_makes, loaded_exact, loaded_makes, never_failed}
use Rattle.matcher_cli.proofs.making.make_folder.Goals as goal

pub returns-in-Ok-clause-makes : goal.returns-in-Ok-clause-makes
returns-in-Ok-clause-makes g c =
    loaded_makes c.make_rules.result c.args.seed c.args.size c.args.files c.in-Ok.edited (told (g.K.Sink.taken c.args.sink.now)) (g.K.Sink.taken c.make_rules.new.sink) c.requires
    (c.in-Ok.ensures.reads.answer refl) c.make_rules.ensures.makes

pub returns-in-Ok-clause-exact : goal.returns-in-Ok-clause-exact
returns-in-Ok-clause-exact g c =
    loaded_exact c.make_rules.result c.args.seed c.args.size c.args.files c.in-Ok.edited c.requires (c.in-Ok.ensures.reads.answer refl) c.make_rules.ensures.exact

pub returns-clause-makes : goal.returns-clause-makes
returns-clause-makes g c =
    fault_makes c.tell_fault.result c.args.seed c.args.size c.args.files c.in-Err.fault (told (g.K.Sink.taken c.args.sink.now)) (g.K.Sink.taken c.tell_fault.new.sink) c.requires
    (c.in-Err.ensures.reads.answer refl) (never_failed c.in-Err.fault c.in-Err.ensures.cause) c.tell_fault.ensures.told

pub returns-clause-exact : goal.returns-clause-exact
returns-clause-exact g c =
    fault_made_exact c.tell_fault.result c.args.seed c.args.size c.args.files c.in-Err.fault (told (g.K.Sink.taken c.args.sink.now)) (g.K.Sink.taken c.tell_fault.new.sink) c.requires
    (c.in-Err.ensures.reads.answer refl) c.tell_fault.ensures.told
