-- The row of a publish.
use Rattle.std.proofs.Common.{◌≡◌, ◌+◌, ◌∙◌, ℕ, List, Vec, Option, None, Result, Ok, Err, length, ap, subst, sym}
use Rattle.std.specs.declared.alloc.Global.{Global}
use Rattle.match_rules.specs.First.{first_of_two}
use Rattle.desk_keeper.specs.Rows.{row_of}
use Rattle.desk_keeper.specs.declared.words.Command.{Command}
use Rattle.desk_keeper.specs.declared.words.Command.TheVariants.{Publish}
use Rattle.desk_keeper.specs.declared.words.Named.{Named}
use Rattle.desk_history.specs.declared.refusals.Refusal.{Refusal}
use Rattle.desk_history.specs.Histories.{History, commands, edits, job_of}
use Rattle.desk_history.specs.Refusals.{IsDue, full_refusal, own_refusal, publish_refusal, refusal_of}
use Rattle.desk_history.specs.Rows.{bytes, lottery_of, publishes, row_behind, text_of}
use Rattle.job_desk.specs.Keeping.{AnswersCommand, AnswersRow}

-- what is due for a command that isn't refused itself, with the row that was made
due_full : (H : History) (its : Named) (count size : ℕ) (row : List ℕ) → own_refusal H its.command None ≡ None → count ≡ commands H → size ≡ bytes H → row ≡ row_behind H its None → full_refusal count (size + length row) ≡ refusal_of H its None
due_full H its count size row own counts sizes is =
    ap (λ n. full_refusal n (size + length row)) counts ∙ ap (λ n. full_refusal (commands H) (n + length row)) sizes
    ∙ ap (λ (r : List ℕ). full_refusal (commands H) (bytes H + length r)) is
    ∙ sym (ap (λ (o : Option Refusal). first_of_two o (full_refusal (commands H) (bytes H + length (row_behind H its None)))) own)

answers : (H : History) (its : Named) (count size : ℕ) (row : List ℕ) (result : Result (Vec ℕ Global) Refusal) → full_refusal count (size + length row) ≡ refusal_of H its None → row ≡ row_behind H its None → AnswersRow count size row result → AnswersCommand H its result
answers H its count size row (Ok made) due is so = (so.0 ∙ is, sym due ∙ so.1)
answers H its count size row (Err refusal) due is so = subst (λ (o : Option Refusal). IsDue o refusal) due so

pub publish_row : (H : History) (its : Named) (job count size : ℕ) (lottery : List ℕ) (result : Result (Vec ℕ Global) Refusal) → its.command ≡ Publish job → publish_refusal (edits H) None (job_of H job) ≡ None
    → lottery ≡ text_of (publishes H job None) → count ≡ commands H → size ≡ bytes H → AnswersRow count size (row_of its lottery) result → AnswersCommand H its result
publish_row H its job count size lottery result is right text counts sizes so =
    let own : own_refusal H its.command None ≡ None = ap (λ (c : Command). own_refusal H c None) is ∙ right in
    let row : row_of its lottery ≡ row_behind H its None = ap (row_of its) (text ∙ sym (ap (λ (c : Command). lottery_of H c None) is)) in
    answers H its count size (row_of its lottery) result (due_full H its count size (row_of its lottery) own counts sizes row) row so
