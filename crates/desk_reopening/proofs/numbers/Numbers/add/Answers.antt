use Rattle.std.proofs.Common.{◌≡◌, ◌==◌, ◌&&◌, ◌||◌, ◌∷◌, ◌∙◌, ℕ, Bool, true, false, List, bytes_eq, subst, sym}
use Rattle.std.proofs.lemmas.List.Sorted.{list_any-IsPermutation}
use Rattle.std.specs.Bool.{MatchBool, OnTrue}
use Rattle.std.specs.List.{list_any}
use Rattle.std.specs.List.Sorted.{IsPermutation}
use Rattle.std.specs.String.{string_bytes}
use Rattle.std.specs.declared.alloc.Global.{Global}
use Rattle.std.specs.declared.string.String.{String}
use Rattle.desk_reopening.proofs.numbers.Numbers.add.Goals as goal

abbrev Key : Type 0
Key = String Global × ℕ

-- a key that was added is there beside those of before
used_after : (added : Bool) (key : Key) (old new : List Key) → MatchBool added (IsPermutation (key ∷ old) new) (new ≡ old)
    → OnTrue added ((by : List ℕ) (its : ℕ) → list_any (λ k. bytes_eq (string_bytes k.0) by && k.1 == its) new ≡ (bytes_eq (string_bytes key.0) by && key.1 == its || list_any (λ k. bytes_eq (string_bytes k.0) by && k.1 == its) old))
used_after true key old new same = λ by its. sym (list_any-IsPermutation (λ (k : Key). bytes_eq (string_bytes k.0) by && k.1 == its) (key ∷ old) new same)
used_after false key old new same = tt

pub returns-clause-added : goal.returns-clause-added
returns-clause-added c =
    subst (λ (name : List ℕ). OnTrue c.in_ok-added.added ((by : List ℕ) (its : ℕ) → list_any (λ (k : Key). bytes_eq (string_bytes k.0) by && k.1 == its) c.insert.new.self.keys ≡ (bytes_eq name by && c.args.number == its || list_any (λ (k : Key). bytes_eq (string_bytes k.0) by && k.1 == its) c.args.self.now.used.keys)))
    (c.in_ok-name.ensures.ok ∙ c.as_str.ensures)
    (used_after c.in_ok-added.added _ c.args.self.now.used.keys c.insert.new.self.keys c.in_ok-added.ensures.keys)
