use Rattle.std.proofs.Common.{◌≡◌, drop}
use Rattle.edge_io.specs.Files.{file_named}
use Rattle.edge_io.proofs.folder.found_in.Given as goal

abbrev pub invariant-loop-file : goal.invariant-loop-file
invariant-loop-file l = file_named l.files l.name ≡ file_named (drop l.file-index l.files) l.name
