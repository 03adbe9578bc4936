-- What an adapter over a reader or a writer of std holds, as its clauses see it.
use Rattle.std.specs.Prelude.{ℕ, ◌≡◌, ◌==◌, Result, Ok, Err, OnOk, OnErr, if◌then◌else◌}
use Rattle.edge_io.specs.declared.traits.Io.{Io}
use Rattle.edge_io.specs.declared.traits.Io.TheVariants.{Failed}
use Rattle.edge_io.specs.Memory.{one_more}

-- the reader or writer, and how often it has failed
pub record Wrapped (Inner : Type 0) : Type 0 where
  pub inner : Inner
  pub faults : ℕ

-- the count rose by one exactly at a fault
pub record CountsFault {T E : Type 0} (before now : ℕ) (result : Result T E) : Type 0 where
  pub same : OnOk result (now ≡ before)
  pub rose : OnErr result (now ≡ one_more before)

-- what a read of std answered, as the answer of a source: it fails exactly where std did
abbrev pub read_answer : {E : Type 0} → Result ℕ E → Result ℕ Io
read_answer (Ok n) = Ok n
read_answer (Err e) = Err Failed

-- what a write of std answered, as the answer of a sink: to take nothing is a fault too
abbrev pub write_answer : {E : Type 0} → Result ℕ E → Result ℕ Io
write_answer (Ok n) = if n == 0 then Err Failed else Ok n
write_answer (Err e) = Err Failed
