-- The rows of a keeper that were read so far.
use Rattle.std.proofs.Common.{◌≡◌, ◌⊎◌, ◌∷◌, ◌++◌, [], ◌∙◌, ◌+◌, ◌≤◌, ◌<◌, get_or, reverse, vec_len, vec_capacity, inl, inr, ℕ, List, Option, None, Some, IsSome, Vec, false, Result, Ok, Err, add-one, ap, arith, length, refl, subst, suc, sym, take, zero}
use Rattle.std.specs.List.{slice_get}
use Rattle.std.specs.declared.alloc.Global.{Global}
use Rattle.desk_keeper.specs.Keepers.{told_rows}
use Rattle.desk_history.specs.declared.refusals.TheConstants.{MOST_COMMANDS, MOST_ROW_BYTES}
use Rattle.desk_history.specs.declared.entries.Entry.{Entry}
use Rattle.desk_history.specs.declared.tables.Tables.{Tables}
use Rattle.desk_history.specs.Courses.{AreKept, full, history_of}
use Rattle.desk_history.specs.Histories.{History, commands, held}
use Rattle.desk_history.specs.Tables.{AreTables}
use Rattle.desk_reopening.specs.declared.numbers.Numbers.{Numbers}
use Rattle.desk_reopening.specs.Numbers.{AreNumbersOf, is_used}
use Rattle.desk_history.specs.Opened.{IsDamaged, IsLegal, Opens, Replay, Replays}
use Rattle.desk_history.specs.Rows.{bytes, rows}
use Rattle.desk_reopening.specs.declared.faults.OpenFault.{OpenFault}
use Rattle.desk_reopening.specs.declared.faults.OpenFault.TheVariants.{Damaged, Keeper, Memory}
use Rattle.desk_reopening.specs.Reading.{IsFront, IsWhole, LeadsOn, NamesDamage, OpensSoundly, SameRows}
use Rattle.desk_reopening.specs.Replaying.{IsTheOne}
use Rattle.desk_reopening.proofs.ListLaws.{length_next, none_some, or_else, take_end, take_next}
use Rattle.desk_reopening.proofs.RowLaws.{opened_legal, replay_limits, replay_more, replay_rows}

none_soundly : (H : History) → H ≡ [] → OpensSoundly [] H
none_soundly H empty = record {
  one = record { is = empty; only = λ other is. is ∙ sym empty };
  sound = λ place damaged. none_some damaged.row damaged.there;
}

-- the last of the rows leads on from a history of those before it
replay_split : (H : History) (front : List (List ℕ)) (row : List ℕ) (end : History) → Replay H (front ++ row ∷ []) end → (mid : History) × Replay H front mid × Replays mid row end
replay_split H [] row end (next, first, same) = (H, refl, subst (λ (h : History). Replays H row h) (sym same) first)
replay_split H (before ∷ front) row end (next, first, rest) =
    let split = replay_split next front row end rest in
    (split.0, (next, first, split.1), split.2)

-- places of a list with one item more
take_before : (xs : List (List ℕ)) (x : List ℕ) (n : ℕ) (y : List ℕ) → slice_get xs n ≡ Some y → take n (xs ++ x ∷ []) ≡ take n xs
take_before [] x n y e = none_some y e
take_before (z ∷ xs) x zero y e = refl
take_before (z ∷ xs) x (suc n) y e = ap (λ (ys : List (List ℕ)). z ∷ ys) (take_before xs x n y e)

get_before : (xs : List (List ℕ)) (x : List ℕ) (n : ℕ) (y : List ℕ) → slice_get (xs ++ x ∷ []) n ≡ Some y → (slice_get xs n ≡ Some y) ⊎ ((take n (xs ++ x ∷ []) ≡ xs) × (x ≡ y))
get_before [] x zero y e = inr (refl, ap (or_else x) e)
get_before [] x (suc n) y e = none_some y e
get_before (z ∷ xs) x zero y e = inl e
get_before (z ∷ xs) x (suc n) y e = elim (get_before xs x n y e) [
  | inl there ↦ inl there
  | inr last ↦ inr (ap (λ (ys : List (List ℕ)). z ∷ ys) last.0, last.1)
]

damaged_more : (front : List (List ℕ)) (H : History) (row : List ℕ) (next : History) → OpensSoundly front H → Replays H row next → (place : ℕ) → IsDamaged (front ++ row ∷ []) place → ⊥
damaged_more front H row next is r place damaged = elim (get_before front row place damaged.row damaged.there) [
  | inl there ↦ is.sound place (record {
    before = damaged.before;
    row = damaged.row;
    opens = subst (λ (xs : List (List ℕ)). Opens xs damaged.before) (take_before front row place damaged.row there) damaged.opens;
    there = there;
    damaged = damaged.damaged;
  })
  | inr last ↦
      let same : damaged.before ≡ H = is.one.only damaged.before (subst (λ (xs : List (List ℕ)). Opens xs damaged.before) last.0 damaged.opens) in
      damaged.damaged next (subst (λ (x : List ℕ). Replays damaged.before x next) last.1 (subst (λ (h : History). Replays h row next) (sym same) r))
]

soundly_more : (front : List (List ℕ)) (H : History) (row : List ℕ) (next : History) → OpensSoundly front H → IsTheOne (Replays H row) next → OpensSoundly (front ++ row ∷ []) next
soundly_more front H row next is r = record {
  one = record {
    is = replay_more [] front H row next is.one.is r.is;
    only = λ other opens.
        let split = replay_split [] front row other opens in
        r.only other (subst (λ (h : History). Replays h row other) (is.one.only split.0 split.1) split.2);
  };
  sound = damaged_more front H row next is r.is;
}

pub no_rows : (told : Option (List (List ℕ))) (H : History) → H ≡ [] → IsFront told 0 H
no_rows told H empty = record { front = []; counted = refl; opens = none_soundly H empty; tells = λ some. refl }

pub same_again : (first before now : Option (List (List ℕ))) → SameRows first before → SameRows before now → SameRows first now
same_again first before now one other = record {
  untold = λ some. one.untold (other.untold some);
  same = λ some. other.same some ∙ one.same (other.untold some);
}

pub front_same : (before now : Option (List (List ℕ))) (count : ℕ) (H : History) → SameRows before now → IsFront before count H → IsFront now count H
front_same before now count H same is = record {
  front = is.front;
  counted = is.counted;
  opens = is.opens;
  tells = λ some. ap (take count) (same.same some) ∙ is.tells (same.untold some);
}

pub front_next : (told : Option (List (List ℕ))) (count : ℕ) (H : History) (row : List ℕ) (next : History) → IsFront told count H → (IsSome told → Some row ≡ slice_get (told_rows told) count) → IsTheOne (Replays H row) next
    → IsFront told (count + 1) next
front_next told count H row next is found r = record {
  front = is.front ++ row ∷ [];
  counted = length_next is.front row ∙ ap suc is.counted ∙ sym (add-one count);
  opens = soundly_more is.front H row next is.opens r;
  tells = λ some. ap (λ n. take n (told_rows told)) (add-one count) ∙ take_next (told_rows told) count row (sym (found some)) ∙ ap (λ (xs : List (List ℕ)). xs ++ row ∷ []) (is.tells some);
}

pub front_end : (told : Option (List (List ℕ))) (count : ℕ) (H : History) → IsFront told count H → (IsSome told → None ≡ slice_get (told_rows told) count) → IsWhole told H
front_end told count H is found = record {
  rows = is.front;
  opens = is.opens;
  tells = λ some. sym (take_end (told_rows told) count (sym (found some))) ∙ is.tells some;
}

pub front_damage : (told : Option (List (List ℕ))) (count : ℕ) (H : History) (row : List ℕ) (next : History) (fault : OpenFault) → IsFront told count H → (IsSome told → Some row ≡ slice_get (told_rows told) count)
    → LeadsOn H row count (Err fault) next → IsSome told → NamesDamage (told_rows told) fault
front_damage told count H row next Memory is found leads some = tt
front_damage told count H row next Keeper is found leads some = tt
front_damage told count H row next (Damaged at) is found leads some =
    subst (λ n. IsDamaged (told_rows told) n) (sym leads.0) (record {
      before = H;
      row = row;
      opens = subst (λ (xs : List (List ℕ)). Opens xs H) (sym (is.tells some)) is.opens.one.is;
      there = sym (found some);
      damaged = leads.1;
    })

pub front_limits : (told : Option (List (List ℕ))) (count : ℕ) (H : History) → IsFront told count H → (commands H ≡ count) × (commands H ≤ MOST_COMMANDS) × (bytes H ≤ MOST_ROW_BYTES)
front_limits told count H is =
    let limits = replay_limits [] is.front H is.opens.one.is (omega arith, omega arith) in
    (limits.0 ∙ zero_plus (length is.front) ∙ is.counted, limits.1, limits.2)
  where
    zero_plus : (n : ℕ) → 0 + n ≡ n
    zero_plus n = omega arith

pub whole_limits : (told : Option (List (List ℕ))) (H : History) → IsWhole told H → bytes H ≤ MOST_ROW_BYTES
whole_limits told H is = (replay_limits [] is.rows H is.opens.one.is (omega arith, omega arith)).2

pub whole_rows : (told : Option (List (List ℕ))) (H : History) → IsWhole told H → IsSome told → told_rows told ≡ rows H
whole_rows told H is some = is.tells some ∙ sym (replay_rows [] is.rows H is.opens.one.is)

pub whole_opens : (told : Option (List (List ℕ))) (H : History) → IsWhole told H → IsSome told → OpensSoundly (told_rows told) H
whole_opens told H is some = subst (λ (xs : List (List ℕ)). OpensSoundly xs H) (sym (is.tells some)) is.opens

-- no number was used yet
pub no_numbers : (numbers : Numbers) (H : History) → H ≡ [] → ((caller : List ℕ) (number : ℕ) → is_used numbers caller number ≡ false) → AreNumbersOf H numbers
no_numbers numbers H empty none = subst (λ (h : History). AreNumbersOf h numbers) (sym empty) none

pub front_bytes : (told : Option (List (List ℕ))) (count : ℕ) (entries : Vec Entry Global) (tables : Tables) → AreKept entries tables → IsFront told count (history_of entries) → tables.bytes ≤ MOST_ROW_BYTES
front_bytes told count entries tables kept is = subst (λ n. n ≤ MOST_ROW_BYTES) (sym kept.are.bytes) (front_limits told count (history_of entries) is).2

pub whole_bytes : (told : Option (List (List ℕ))) (entries : Vec Entry Global) (tables : Tables) → AreKept entries tables → IsWhole told (history_of entries) → tables.bytes ≤ MOST_ROW_BYTES
whole_bytes told entries tables kept is = subst (λ n. n ≤ MOST_ROW_BYTES) (sym kept.are.bytes) (whole_limits told (history_of entries) is)

pub whole_legal : (told : Option (List (List ℕ))) (chairs : List (List ℕ)) (H : History) → IsWhole told H → IsLegal chairs H
whole_legal told chairs H is = opened_legal chairs is.rows H is.opens.one.is

no_bench : (benches : List (Option ℕ)) → ((bench : ℕ) → bench < length benches → get_or benches bench None ≡ None) → full benches ≡ 0
no_bench [] none = refl
no_bench (None ∷ benches) none = no_bench benches (λ bench lt. none (suc bench) (omega (arith, lt)))
no_bench (Some job ∷ benches) none = none_some job (sym (none 0 (omega arith)))

-- without entries no bench has a job
pub empty_kept : (entries : Vec Entry Global) (tables : Tables) → entries.items ≡ [] → vec_len entries ≡ 0 → AreTables [] tables → AreKept entries tables
empty_kept entries tables empty size are =
    let none : full tables.benches ≡ 0 = no_bench tables.benches (λ bench lt. are.benches bench (subst (λ n. bench < n) are.bench_count lt)) in
    record { are = subst (λ (items : List Entry). AreTables (reverse items) tables) (sym empty) are; room = omega (arith, none, size) }

-- what is read from rows takes no job
replay_benches : (bench : ℕ) (rows : List (List ℕ)) (H end : History) → Replay H rows end → held H bench ≡ None → held end bench ≡ None
replay_benches bench [] H end same none = subst (λ (K : History). held K bench ≡ None) (sym same) none
replay_benches bench (row ∷ rows) H end (next, step, rest) none =
    replay_benches bench rows next end rest (subst (λ (K : History). held K bench ≡ None) (sym step.becomes) none)

pub whole_benches : (told : Option (List (List ℕ))) (H : History) → IsWhole told H → (bench : ℕ) → held H bench ≡ None
whole_benches told H is bench = replay_benches bench is.rows [] H is.opens.one.is refl
