-- How the parts of taking a request fit together.
use Rattle.std.proofs.Common.{◌≡◌, ℕ, ◌+◌, ◌<◌, ◌≤◌, Bool, true, false, List, [], ◌++◌, Option, Result, Ok, Err, append_assoc, refl, sym, ap, subst, ◌∙◌, arith}
use Rattle.std.specs.Prelude.{IfErr, IfOk, length}
use Rattle.edge_io.specs.Told.{told}
use Rattle.http_stream.specs.declared.stop.Stop.{Stop}
use Rattle.http_stream.specs.declared.stop.Stop.TheVariants.{Memory}
use Rattle.http_stream.specs.declared.taking.Asked.{Asked}
use Rattle.http_stream.specs.Intakes.{BodyStep, IsHeaded, Stops, StopsHere, Taken}
use Rattle.http_framing.specs.Heads.{HeadValue}
use Rattle.http_stream.proofs.BodyLaws.{memory_stops}

pub headed_step : {T : Type 0} (left : Option (List ℕ)) (room : ℕ) (bytes : List ℕ) (result : Result T Stop) → IfErr result (λ stop. Stops room false bytes stop false)
    → BodyStep room bytes left result false
headed_step left room bytes (Ok v) h = tt
headed_step left room bytes (Err stop) h = (false, λ e. absurd (cc), h)

-- one read after another
pub grows_on : (old mid new first second : List ℕ) → mid ≡ old ++ first → new ≡ mid ++ second → new ≡ old ++ (first ++ second)
grows_on old mid new first second a b = b ∙ ap (λ (xs : List ℕ). xs ++ second) a ∙ append_assoc old first second

pub taken_here : (room mid last : ℕ) (bytes came new rest : List ℕ) (due : Bool) (result : Result Asked Stop) → mid ≡ room → new ≡ bytes ++ came
    → IfOk result (λ asked. Taken mid new asked.request due asked.closes last rest) → IfOk result (λ asked. Taken room (bytes ++ came) asked.request due asked.closes last rest)
taken_here room mid last bytes came new rest due (Ok asked) same grown taken =
    subst (λ (r : ℕ). Taken r (bytes ++ came) asked.request due asked.closes last rest) same
    (subst (λ (xs : List ℕ). Taken mid xs asked.request due asked.closes last rest) grown taken)
taken_here room mid last bytes came new rest due (Err stop) same grown taken = tt

pub step_here : {T : Type 0} (left : Option (List ℕ)) (room mid : ℕ) (bytes came new : List ℕ) (head : HeadValue) (end count : ℕ) (due : Bool) (result : Result T Stop) → mid ≡ room
    → new ≡ bytes ++ came → IsHeaded mid new head end count due → end + count ≤ length new → IfErr result (λ stop. stop ≡ Memory) → BodyStep room (bytes ++ came) left result due
step_here left room mid bytes came new head end count due (Ok v) same grown headed there memory = tt
step_here left room mid bytes came new head end count due (Err stop) same grown headed there memory =
    subst (λ (r : ℕ). StopsHere r (bytes ++ came) left stop due) same
    (subst (λ (xs : List ℕ). StopsHere mid xs left stop due) grown (memory_stops left mid new head end count due stop headed there memory))

pub stops_same : (left : Option (List ℕ)) (room mid : ℕ) (bytes came new : List ℕ) (stop : Stop) (due : Bool) → mid ≡ room → new ≡ bytes ++ came → StopsHere mid new left stop due
    → StopsHere room (bytes ++ came) left stop due
stops_same left room mid bytes came new stop due same grown stops =
    subst (λ (r : ℕ). StopsHere r (bytes ++ came) left stop due) same
    (subst (λ (xs : List ℕ). StopsHere mid xs left stop due) grown stops)
