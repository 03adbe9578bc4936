-- How what was taken in one step and in the next adds up.
use Rattle.std.proofs.Common.{◌≡◌, ℕ, ◌+◌, ◌-◌, List, [], ◌++◌, length, take, drop, sym, ◌∙◌, ap, append_assoc}
use Rattle.std.specs.Prelude.{Option, IsSome, Result, Ok, Err, IsErr}
use Rattle.std.proofs.lemmas.List.{take_rest, append-nil, take-append-drop}
use Rattle.std.proofs.Math.Seq.{take-add}
use Rattle.std.proofs.lemmas.Result.{MatchResult-from_err}
use Rattle.edge_io.specs.Told.{told, TellsNoMore, Adds, AddsAll, GrowsByFront, WroteFront}

-- the first `at` bytes of the piece were added
pub record AddsFront (old new : Option (List ℕ)) (piece : List ℕ) (at : ℕ) : Type 0 where
  pub untold : TellsNoMore old new
  pub bytes : IsSome new → told new ≡ told old ++ take at piece

pub front_none : (o : Option (List ℕ)) (piece : List ℕ) → AddsFront o o piece 0
front_none o piece = record { untold = λ t. t; bytes = λ t. sym (append-nil (told o)) }

pub front_more : {E : Type 0} (old mid new : Option (List ℕ)) (piece : List ℕ) (at n : ℕ)
    → AddsFront old mid piece at → Adds {E = E} mid new (Ok n) (take (length piece - at) (drop at piece))
    → AddsFront old new piece (at + n)
front_more old mid new piece at n front adds = record {
  untold = λ t. front.untold (adds.untold t);
  bytes = λ t. rw (adds.bytes t, front.bytes (adds.untold t), take_rest piece at, take-add at n piece)
      (append_assoc (told old) (take at piece) (take n (drop at piece)));
}

-- a fault leaves what the steps before it added
pub front_fails : {T E : Type 0} (old mid new : Option (List ℕ)) (piece rest : List ℕ) (at : ℕ) (e : E) (r : Result T E)
    → AddsFront old mid piece at → Adds mid new (Err e) rest → IsErr r → AddsAll old new r piece
front_fails old mid new piece rest at e r front adds failed = record {
  untold = λ t. front.untold (adds.untold t);
  bytes = λ t. MatchResult-from_err r (λ _. told new ≡ told old ++ piece) (λ _. GrowsByFront (told old) (told new) piece) failed
      (λ _. (take at piece, drop at piece, sym (take-append-drop at piece), adds.bytes t ∙ front.bytes (adds.untold t)));
}

-- What a writer of several steps cites: it begins, goes on after what was added, and ends early at a fault.

pub adds_none : {T E : Type 0} {o : Option (List ℕ)} {v : T} → AddsAll {E = E} o o (Ok v) []
adds_none {o = o} = record { untold = λ t. t; bytes = λ t. sym (append-nil (told o)) }

-- a fault is the same fault under another error
pub adds_failed : {S T E F : Type 0} {old new : Option (List ℕ)} {p : List ℕ} {e : F} {r : Result T E}
    → AddsAll {T = S} old new (Err e) p → IsErr r → AddsAll old new r p
adds_failed {old = old} {new = new} {p = p} {r = r} first failed = record {
  untold = first.untold;
  bytes = λ t. MatchResult-from_err r (λ _. told new ≡ told old ++ p) (λ _. GrowsByFront (told old) (told new) p) failed
      (λ _. first.bytes t);
}

front_longer : (old new p q : List ℕ) → GrowsByFront old new p → GrowsByFront old new (p ++ q)
front_longer old new p q (front, rest, cut, grown) =
    (front, rest ++ q, ap (λ xs. xs ++ q) cut ∙ append_assoc front rest q, grown)

-- at the exit after the first step
pub adds_front : {S T E F : Type 0} {old new : Option (List ℕ)} {p : List ℕ} {e : F} {r : Result T E} (q : List ℕ)
    → AddsAll {T = S} old new (Err e) p → IsErr r → AddsAll old new r (p ++ q)
adds_front {old = old} {new = new} {p = p} {r = r} q first failed = record {
  untold = first.untold;
  bytes = λ t. MatchResult-from_err r (λ _. told new ≡ told old ++ (p ++ q)) (λ _. GrowsByFront (told old) (told new) (p ++ q)) failed
      (λ _. front_longer (told old) (told new) p q (first.bytes t));
}

front_after : (old mid new p q : List ℕ) → mid ≡ old ++ p → GrowsByFront mid new q → GrowsByFront old new (p ++ q)
front_after old mid new p q whole (front, rest, cut, grown) = (
  p ++ front,
  rest,
  ap (λ xs. p ++ xs) cut ∙ sym (append_assoc p front rest),
  grown ∙ ap (λ xs. xs ++ front) whole ∙ append_assoc old p front,
)

-- at the return after the second step, and with `adds_failed` at an exit there
pub adds_then : {S T E F : Type 0} {old mid new : Option (List ℕ)} {p q : List ℕ} {v : S} {r : Result T E}
    → AddsAll {E = F} old mid (Ok v) p → AddsAll mid new r q → AddsAll old new r (p ++ q)
adds_then {old = old} {mid = mid} {new = new} {p = p} {q = q} {r = Ok x} first second = record {
  untold = λ t. first.untold (second.untold t);
  bytes = λ t. second.bytes t ∙ ap (λ xs. xs ++ q) (first.bytes (second.untold t)) ∙ append_assoc (told old) p q;
}
adds_then {old = old} {mid = mid} {new = new} {p = p} {q = q} {r = Err e} first second = record {
  untold = λ t. first.untold (second.untold t);
  bytes = λ t. front_after (told old) (told mid) (told new) p q (first.bytes (second.untold t)) (second.bytes t);
}

-- what a writer that failed left behind
pub wrote_front : {T E : Type 0} {old new : Option (List ℕ)} {p : List ℕ} {e : E} → AddsAll {T = T} old new (Err e) p → WroteFront old new p
wrote_front failed = failed.bytes
