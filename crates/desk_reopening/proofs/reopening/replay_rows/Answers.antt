use Rattle.std.proofs.Common.{◌≡◌, ◌∙◌, ℕ, Some, Option, Vec, ap, arith, refl, subst}
use Rattle.std.specs.List.{slice_get}
use Rattle.std.specs.Option.{option_map}
use Rattle.std.specs.declared.alloc.Global.{Global}
use Rattle.desk_keeper.specs.Keepers.{told_rows}
use Rattle.desk_history.specs.Courses.{history_of}
use Rattle.desk_reopening.proofs.FrontLaws.{front_bytes, front_damage, front_limits, front_next, front_same, no_numbers, no_rows, same_again}
use Rattle.desk_reopening.proofs.reopening.replay_rows.Goals as goal

pub loop-place-init : goal.loop-place-init
loop-place-init g c = record {
  kept = c.requires.kept;
  numbers = no_numbers c.new-numbers.result (history_of c.args.entries.now) c.requires.empty c.new-numbers.ensures;
  editions = c.requires.editions;
  front = no_rows (g.P.Keeper.rows c.args.keeper.now) (history_of c.args.entries.now) c.requires.empty;
  same = record { untold = λ some. some; same = λ some. refl };
  later = omega arith;
}

pub replay_at-requires-clause-bytes : goal.replay_at-requires-clause-bytes
replay_at-requires-clause-bytes g c = front_bytes (g.P.Keeper.rows c.loop-place.keeper) c.loop-place.place c.loop-place.entries c.loop-place.tables c.loop-place.invariant.kept c.loop-place.invariant.front

pub returns-in-Err-replay_at-clause-damaged : goal.returns-in-Err-replay_at-clause-damaged
returns-in-Err-replay_at-clause-damaged g c = λ some.
    front_damage (g.P.Keeper.rows c.read_at.new.keeper) c.loop-place.place (history_of c.loop-place.entries) c.as_slice.result.now (history_of c.replay_at.new.entries) c.in-Err-replay_at.fault
    (front_same (g.P.Keeper.rows c.loop-place.keeper) (g.P.Keeper.rows c.read_at.new.keeper) c.loop-place.place (history_of c.loop-place.entries) c.read_at.ensures.same c.loop-place.invariant.front)
    (λ told. ap Some c.as_slice.ensures.value ∙ subst (λ (o : Option (Vec ℕ Global)). option_map (λ (bytes : Vec ℕ Global). bytes.items) o ≡ slice_get (told_rows (g.P.Keeper.rows c.read_at.new.keeper)) c.loop-place.place) c.in-Some.is (c.in-Ok.ensures.found told))
    c.in-Err-replay_at.ensures.replay some

pub loop-place-preserved : goal.loop-place-preserved
loop-place-preserved g c = record {
  kept = c.in-Ok-replay_at.ensures.kept;
  numbers = c.in-Ok-replay_at.ensures.numbers;
  editions = c.in-Ok-replay_at.ensures.editions;
  front = front_next (g.P.Keeper.rows c.read_at.new.keeper) c.loop-place.place (history_of c.loop-place.entries) c.as_slice.result.now (history_of c.replay_at.new.entries)
      (front_same (g.P.Keeper.rows c.loop-place.keeper) (g.P.Keeper.rows c.read_at.new.keeper) c.loop-place.place (history_of c.loop-place.entries) c.read_at.ensures.same c.loop-place.invariant.front)
      (λ told. ap Some c.as_slice.ensures.value ∙ subst (λ (o : Option (Vec ℕ Global)). option_map (λ (bytes : Vec ℕ Global). bytes.items) o ≡ slice_get (told_rows (g.P.Keeper.rows c.read_at.new.keeper)) c.loop-place.place) c.in-Some.is (c.in-Ok.ensures.found told))
      c.in-Ok-replay_at.ensures.replay;
  same = same_again (g.P.Keeper.rows c.args.keeper.now) (g.P.Keeper.rows c.loop-place.keeper) (g.P.Keeper.rows c.read_at.new.keeper) c.loop-place.invariant.same c.read_at.ensures.same;
  later = omega (arith, c.loop-place.invariant.later, c.read_at.ensures.later);
}

pub unreachable-requires : goal.unreachable-requires
unreachable-requires g c =
    let limits = front_limits (g.P.Keeper.rows c.loop-place.keeper) c.loop-place.place (history_of c.loop-place.entries) c.loop-place.invariant.front in
    omega (arith, limits.0, limits.1, c.loop-place-test.false)
