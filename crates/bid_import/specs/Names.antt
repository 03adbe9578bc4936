-- The institutions that one field names.
use Rattle.std.specs.Prelude.{◌≡◌, ℕ, ◌<◌, ◌≤◌, true, false, List, length, map, Result, Ok, Err, Vec, ⊤}
use Rattle.std.specs.Borrow.{Bor}
use Rattle.std.specs.List.{list_all}
use Rattle.std.specs.declared.alloc.Global.{Global}
use Rattle.match_rules.specs.Id.{is_institution}
use Rattle.bid_import.specs.declared.fault.Code.TheVariants.{TooMany, BadId}
use Rattle.bid_import.specs.declared.fault.RowFault.{RowFault}
use Rattle.bid_import.specs.declared.fault.RowFault.TheVariants.{Memory, Wrong}

-- at most 64 names, or more
abbrev pub ReadsNames : Result (Vec (Bor (List ℕ)) Global) RowFault → List (List ℕ) → Type 0
ReadsNames (Ok names) said = (map (λ n. n.now) names.items ≡ said) × (length said ≤ 64)
ReadsNames (Err Memory) said = ⊤
ReadsNames (Err (Wrong code)) said = (code ≡ TooMany) × (64 < length said)

-- each name is an institution, or one isn't
abbrev pub ReadsAll : Result (Vec (List ℕ) Global) RowFault → List (List ℕ) → Type 0
ReadsAll (Ok items) names = (items.items ≡ names) × (list_all is_institution names ≡ true)
ReadsAll (Err Memory) names = ⊤
ReadsAll (Err (Wrong code)) names = (code ≡ BadId) × (list_all is_institution names ≡ false)
