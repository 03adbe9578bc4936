-- What the objects in memory hold, as their clauses see them.
use Rattle.std.specs.Prelude.{ℕ, ◌≡◌, ◌+◌, ◌-◌, ◌^◌, min, List, Option, Bool, ◌==◌, Result, is_err, OnOk, OnErr}
use Rattle.std.specs.List.{list_any}

-- whether the number is in the list
abbrev pub is_listed : ℕ → List ℕ → Bool
is_listed number numbers = list_any (λ listed. listed == number) numbers

-- how many calls were made, how many of them failed, and the numbers of those that are to fail, counted from 1
pub record CallsSoFar : Type 0 where
  pub made : ℕ
  pub faults : ℕ
  pub fails : List ℕ

-- a count of 64 bits after one more
abbrev pub one_more : ℕ → ℕ
one_more count = min (count + 1) (2 ^ 64 - 1)

-- the call was counted; it failed exactly where its number is listed, and then the faults count it too
pub record Counted {T E : Type 0} (old new : CallsSoFar) (result : Result T E) : Type 0 where
  pub failed : is_err result ≡ is_listed (old.made + 1) old.fails
  pub made : new.made ≡ one_more old.made
  pub listed : new.fails ≡ old.fails
  pub same : OnOk result (new.faults ≡ old.faults)
  pub rose : OnErr result (new.faults ≡ one_more old.faults)

-- the bytes that a source gave and those that it has left
pub record SureBytes : Type 0 where
  pub given : List ℕ
  pub left : List ℕ

-- the same with its calls
pub record MemoryBytes : Type 0 where
  pub given : List ℕ
  pub left : List ℕ
  pub calls : CallsSoFar

-- the bytes that a sink took, where it tells them, and those that it holds
pub record SureTaken : Type 0 where
  pub taken : Option (List ℕ)
  pub held : List ℕ

-- the same with its calls
pub record MemoryTaken : Type 0 where
  pub taken : Option (List ℕ)
  pub held : List ℕ
  pub calls : CallsSoFar
