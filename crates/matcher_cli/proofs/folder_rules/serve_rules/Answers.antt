use Rattle.edge_io.specs.Files.{told_files}
use Rattle.edge_io.specs.Told.{told}
use Rattle.matcher_cli.specs.declared.status.Status.TheVariants.{Done}
use Rattle.matcher_cli.proofs.ServingLaws.{loaded_rules, served_exact, told_served}
use Rattle.matcher_cli.proofs.folder_rules.serve_rules.Goals as goal

pub returns-in-Ok-write_rules-clause-served : goal.returns-in-Ok-write_rules-clause-served
returns-in-Ok-write_rules-clause-served g c = λ tells.
    (c.in-Ok.edited.rules, loaded_rules (told_files (g.F.Folder.files c.args.folder.now)) c.in-Ok.edited (c.in-Ok.ensures.reads.answer tells), c.in-Ok-write_rules.ensures.taken.bytes)

pub returns-in-Ok-write_rules-clause-exact : goal.returns-in-Ok-write_rules-clause-exact
returns-in-Ok-write_rules-clause-exact g c = λ tells.
    served_exact Done (told_files (g.F.Folder.files c.args.folder.now)) (told (g.K.Sink.taken c.args.sink.now)) (g.K.Sink.taken c.write_rules.new.sink)
    (c.in-Ok.edited.rules, loaded_rules (told_files (g.F.Folder.files c.args.folder.now)) c.in-Ok.edited (c.in-Ok.ensures.reads.answer tells), c.in-Ok-write_rules.ensures.taken.bytes)

pub returns-clause-served : goal.returns-clause-served
returns-clause-served g c = λ tells.
    told_served c.tell_fault.result (told_files (g.F.Folder.files c.args.folder.now)) c.in-Err.fault (told (g.K.Sink.taken c.args.sink.now)) (g.K.Sink.taken c.tell_fault.new.sink)
    (c.in-Err.ensures.reads.answer tells) c.tell_fault.ensures.told

pub returns-clause-exact : goal.returns-clause-exact
returns-clause-exact g c = λ tells.
    served_exact c.tell_fault.result (told_files (g.F.Folder.files c.args.folder.now)) (told (g.K.Sink.taken c.args.sink.now)) (g.K.Sink.taken c.tell_fault.new.sink)
    (told_served c.tell_fault.result (told_files (g.F.Folder.files c.args.folder.now)) c.in-Err.fault (told (g.K.Sink.taken c.args.sink.now)) (g.K.Sink.taken c.tell_fault.new.sink)
    (c.in-Err.ensures.reads.answer tells) c.tell_fault.ensures.told)

pub returns-in-Ok-clause-served : goal.returns-in-Ok-clause-served
returns-in-Ok-clause-served g c = λ tells.
    rw (loaded_rules (told_files (g.F.Folder.files c.args.folder.now)) c.in-Ok.edited (c.in-Ok.ensures.reads.answer tells)) c.in-Err-write_rules.ensures.taken.bytes
