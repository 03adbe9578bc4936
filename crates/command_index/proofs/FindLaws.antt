-- The first entries, the newest first, with one more.
use Rattle.std.proofs.Common.{◌≡◌, ◌<◌, ◌+◌, ◌∷◌, [], ◌∙◌, ℕ, List, ap, get_or, length, reverse, sym, take}
use Rattle.std.proofs.lemmas.List.{reverse-append, take_more}
use Rattle.desk_history.specs.declared.entries.Entry.{Entry}
use Rattle.desk_history.specs.declared.entries.Entry.TheVariants.{Released}

pub one_more : (entries : List Entry) (i : ℕ) (entry : Entry) → i < length entries → entry ≡ get_or entries i (Released 0) → entry ∷ reverse (take i entries) ≡ reverse (take (i + 1) entries)
one_more entries i entry within is =
    ap (λ (e : Entry). e ∷ reverse (take i entries)) is
    ∙ sym (ap reverse (take_more entries i (Released 0) within) ∙ reverse-append (take i entries) (get_or entries i (Released 0) ∷ []))
