use Rattle.edge_io.specs.Files.{told_files}
use Rattle.edge_io.specs.Told.{told}
use Rattle.matcher_cli.proofs.ServingLaws.{loaded_rules}
use Rattle.matcher_cli.proofs.SolvingLaws.{rules_solve, told_exact, told_solves}
use Rattle.matcher_cli.proofs.solving.serve_solution.Goals as goal

pub returns-in-Ok-clause-solves : goal.returns-in-Ok-clause-solves
returns-in-Ok-clause-solves g c = λ tells.
    rules_solve c.solve_rules.result (told_files (g.F.Folder.files c.args.folder.now)) c.args.mode c.in-Ok.edited.rules (told (g.K.Sink.taken c.args.sink.now)) (g.K.Sink.taken c.solve_rules.new.sink)
    (loaded_rules (told_files (g.F.Folder.files c.args.folder.now)) c.in-Ok.edited (c.in-Ok.ensures.reads.answer tells)) c.solve_rules.ensures.solves

pub returns-in-Ok-clause-exact : goal.returns-in-Ok-clause-exact
returns-in-Ok-clause-exact g c = λ tells.
    rw (loaded_rules (told_files (g.F.Folder.files c.args.folder.now)) c.in-Ok.edited (c.in-Ok.ensures.reads.answer tells)) c.solve_rules.ensures.exact

pub returns-in-Err-clause-solves : goal.returns-in-Err-clause-solves
returns-in-Err-clause-solves g c = λ tells.
    told_solves c.tell_fault.result (told_files (g.F.Folder.files c.args.folder.now)) c.args.mode c.in-Err.fault (told (g.K.Sink.taken c.args.sink.now)) (g.K.Sink.taken c.tell_fault.new.sink)
    (c.in-Err.ensures.reads.answer tells) c.tell_fault.ensures.told

pub returns-in-Err-clause-exact : goal.returns-in-Err-clause-exact
returns-in-Err-clause-exact g c = λ tells.
    told_exact c.tell_fault.result (told_files (g.F.Folder.files c.args.folder.now)) c.in-Err.fault (told (g.K.Sink.taken c.args.sink.now)) (g.K.Sink.taken c.tell_fault.new.sink)
    (c.in-Err.ensures.reads.answer tells) c.tell_fault.ensures.told
