-- An answer without a lottery is read as it is spelled.
use Rattle.std.proofs.Common.{◌≡◌, ℕ, ◌≤◌, List, [], ◌++◌, Ok, refl, ap, subst, ◌∙◌, append_assoc, arith, lit<, lit≤}
use Rattle.std.specs.Prelude.{codes}
use Rattle.match_rules.specs.declared.answer.Blocked.{Blocked}
use Rattle.text_lines.specs.declared.fault.TextFault.{TextFault}
use Rattle.text_lines.specs.declared.number.TheConstants.{MOST_AMOUNT}
use Rattle.text_lines.specs.Forms.{fixed, number_after, count_line}
use Rattle.text_lines.specs.Reading.{◌>>=◌, Cursor, due, following}
use Rattle.text_lines.specs.Texts.{line_of}
use Rattle.text_lines.proofs.FormLaws.{fixed_spells, number_after_spells}
use Rattle.text_lines.proofs.TextLaws.{Spells, IsLine, bind_ok, ok_is, item_takes, item_again}
use Rattle.text_lines.proofs.WordLaws.{ascii_word, ascii_line}
use Rattle.publication.specs.declared.answer_forms.AnswerKind.TheVariants as kinds
use Rattle.match_rules.specs.declared.sizes.Sizes.{Sizes}
use Rattle.publication.specs.AskedForms.{mode_of, mode_line}
use Rattle.publication.specs.Certificates.{IsBlockedFor}
use Rattle.publication.specs.InfeasibleReading.{cut_at, sums_at, blocked_of, infeasible_at}
use Rattle.publication.specs.InfeasibleText.{infeasible_head_text, cut_text, sums_text, infeasible_text}
use Rattle.publication.proofs.AskedLaws.{mode_spells}
use Rattle.publication.proofs.CutLaws.{kind_line}
use Rattle.publication.proofs.CutParts.{AreSmall, cut_takes, cut_again}
use Rattle.publication.proofs.LotteryLaws.{ReadsBehind}
use Rattle.publication.proofs.RulesLaws.{seam}

-- ---- what has to pass the cut and what may

end_line : IsLine (codes "end infeasible")
end_line = ascii_line (codes "end infeasible") refl refl (lit≤ tt)

need_spells : Spells {A = ℕ} (λ before. number_after (codes "need") 0 MOST_AMOUNT) (λ before n. (0 ≤ n) × (n ≤ MOST_AMOUNT)) (count_line (codes "need"))
need_spells = number_after_spells (codes "need") 0 MOST_AMOUNT (ascii_word (codes "need") refl refl refl) (lit≤ tt) (lit< tt)

room_spells : Spells {A = ℕ} (λ before. number_after (codes "room") 0 MOST_AMOUNT) (λ before n. (0 ≤ n) × (n ≤ MOST_AMOUNT)) (count_line (codes "room"))
room_spells = number_after_spells (codes "room") 0 MOST_AMOUNT (ascii_word (codes "room") refl refl refl) (lit≤ tt) (lit< tt)

sums_takes : (at rest : Cursor) (sums : ℕ × ℕ) → sums_at at ≡ Ok (sums, rest) → (sums.0 ≤ MOST_AMOUNT) × (sums.1 ≤ MOST_AMOUNT) × (at.bytes ≡ sums_text sums.0 sums.1 ++ rest.bytes)
unfolding sums_at sums_text
sums_takes at rest sums e =
    let a = bind_ok (due (number_after (codes "need") 0 MOST_AMOUNT) at) (λ need. due (number_after (codes "room") 0 MOST_AMOUNT) need.1 >>= λ room. due (fixed (codes "end infeasible")) room.1 >>= λ end. Ok ((need.0, room.0), end.1)) (sums, rest) e in
    let b = bind_ok (due (number_after (codes "room") 0 MOST_AMOUNT) a.0.1) (λ room. due (fixed (codes "end infeasible")) room.1 >>= λ end. Ok ((a.0.0, room.0), end.1)) (sums, rest) a.2 in
    let c = bind_ok (due (fixed (codes "end infeasible")) b.0.1) (λ end. Ok ((a.0.0, b.0.0), end.1)) (sums, rest) b.2 in
    let need = item_takes _ _ _ need_spells [] at a.0.1 a.0.0 a.1 in
    let room = item_takes _ _ _ room_spells [] a.0.1 b.0.1 b.0.0 b.1 in
    let end = item_takes _ _ _ (fixed_spells (codes "end infeasible") end_line) [] b.0.1 c.0.1 c.0.0 c.1 in
    let text = seam at.bytes a.0.1.bytes c.0.1.bytes (line_of (count_line (codes "need") a.0.0)) _ need.1 (seam a.0.1.bytes b.0.1.bytes c.0.1.bytes (line_of (count_line (codes "room") b.0.0)) _ room.1 end.1) in
    let same = ok_is {E = TextFault} ((a.0.0, b.0.0), c.0.1) (sums, rest) c.2 in
    subst (λ (x : (ℕ × ℕ) × Cursor). (x.0.0 ≤ MOST_AMOUNT) × (x.0.1 ≤ MOST_AMOUNT) × (at.bytes ≡ (line_of (count_line (codes "need") x.0.0) ++ (line_of (count_line (codes "room") x.0.1) ++ line_of (codes "end infeasible"))) ++ x.1.bytes)) same (need.0.1, room.0.1, text)

sums_again : (number need room : ℕ) (rest : List ℕ) → need ≤ MOST_AMOUNT → room ≤ MOST_AMOUNT
    → (m : ℕ) × (sums_at (record { number = number; bytes = sums_text need room ++ rest }) ≡ Ok ((need, room), record { number = m; bytes = rest }))
unfolding sums_at sums_text
sums_again number need room rest few fewer =
    let n = line_of (count_line (codes "need") need) in
    let r = line_of (count_line (codes "room") room) in
    let z = line_of (codes "end infeasible") in
    let first = item_again _ _ _ need_spells [] number (r ++ (z ++ rest)) need (omega arith, few) in
    let second = item_again _ _ _ room_spells [] (following number) (z ++ rest) room (omega arith, fewer) in
    let third = item_again _ _ _ (fixed_spells (codes "end infeasible") end_line) [] (following (following number)) rest tt tt in
    let regrouped : (n ++ (r ++ z)) ++ rest ≡ n ++ (r ++ (z ++ rest)) = append_assoc n (r ++ z) rest ∙ ap (λ (t : List ℕ). n ++ t) (append_assoc r z rest) in
    (following (following (following number)), rw (regrouped, first, second, third) refl)

-- ---- the text, of which the first line was read before

pub infeasible_takes : (sizes : Sizes) (at rest : Cursor) (blocked : Blocked) → AreSmall sizes → infeasible_at sizes at ≡ Ok (blocked, rest)
    → IsBlockedFor sizes blocked × (line_of (kind_line kinds.Infeasible) ++ at.bytes ≡ infeasible_text blocked ++ rest.bytes)
unfolding infeasible_at infeasible_text infeasible_head_text kind_line
infeasible_takes sizes at rest blocked small e =
    let a = bind_ok (due mode_of at) (λ mode. cut_at sizes mode.1 >>= λ cut. sums_at cut.1 >>= λ sums. Ok (blocked_of mode.0 cut.0 sums.0, sums.1)) (blocked, rest) e in
    let b = bind_ok (cut_at sizes a.0.1) (λ cut. sums_at cut.1 >>= λ sums. Ok (blocked_of a.0.0 cut.0 sums.0, sums.1)) (blocked, rest) a.2 in
    let c = bind_ok (sums_at b.0.1) (λ sums. Ok (blocked_of a.0.0 b.0.0 sums.0, sums.1)) (blocked, rest) b.2 in
    let k = line_of (codes "infeasible 1") in
    let mode = item_takes _ _ _ mode_spells [] at a.0.1 a.0.0 a.1 in
    let cut = cut_takes sizes a.0.1 b.0.1 b.0.0 small b.1 in
    let sums = sums_takes b.0.1 c.0.1 c.0.0 c.1 in
    let made = blocked_of a.0.0 b.0.0 c.0.0 in
    let are : IsBlockedFor sizes made = record { marked = cut.0; need = sums.0; room = sums.1 } in
    let head : k ++ at.bytes ≡ (k ++ line_of (mode_line a.0.0)) ++ a.0.1.bytes = seam (k ++ at.bytes) at.bytes a.0.1.bytes k _ refl mode.1 in
    let text = seam (k ++ at.bytes) a.0.1.bytes c.0.1.bytes (k ++ line_of (mode_line a.0.0)) _ head (seam a.0.1.bytes b.0.1.bytes c.0.1.bytes (cut_text b.0.0) _ cut.1 sums.2) in
    let same = ok_is {E = TextFault} (made, c.0.1) (blocked, rest) c.2 in
    subst (λ (x : Blocked × Cursor). IsBlockedFor sizes x.0 × (k ++ at.bytes ≡ ((k ++ line_of (mode_line x.0.mode)) ++ (cut_text x.0.cut ++ sums_text x.0.need x.0.room)) ++ x.1.bytes)) same (are, text)

pub infeasible_again : (sizes : Sizes) (blocked : Blocked) (rest : List ℕ) → AreSmall sizes → IsBlockedFor sizes blocked
    → ReadsBehind kinds.Infeasible (infeasible_at sizes) blocked (infeasible_text blocked ++ rest) rest
unfolding infeasible_at infeasible_text infeasible_head_text kind_line
infeasible_again sizes blocked rest small are =
    let k = line_of (codes "infeasible 1") in
    let m = line_of (mode_line blocked.mode) in
    let c = cut_text blocked.cut in
    let s = sums_text blocked.need blocked.room in
    let regrouped : ((k ++ m) ++ (c ++ s)) ++ rest ≡ k ++ (m ++ (c ++ (s ++ rest))) =
    append_assoc (k ++ m) (c ++ s) rest ∙ append_assoc k m ((c ++ s) ++ rest) ∙ ap (λ (t : List ℕ). k ++ (m ++ t)) (append_assoc c s rest) in (
      m ++ (c ++ (s ++ rest)),
      regrouped,
      λ number.
          let first = item_again _ _ _ mode_spells [] number (c ++ (s ++ rest)) blocked.mode tt in
          let second = cut_again sizes (following number) blocked.cut (s ++ rest) small are.marked in
          let third = sums_again second.0 blocked.need blocked.room rest are.need are.room in
          (third.0, rw (first, second.1, third.1) refl),
    )
