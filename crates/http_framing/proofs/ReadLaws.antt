-- What the places in the bytes say of the head that the bytes are.
use Rattle.std.proofs.Common.{◌≡◌, ℕ, ◌≤◌, List, [], ◌∷◌, length, drop, take, subst, ap, sym, ◌∙◌, arith, refl, length-drop}
use Rattle.std.specs.Prelude.{map}
use Rattle.std.proofs.lemmas.List.{drop_all}
use Rattle.httparse.specs.Grammar.{Field, ReadsRequest, RequestHead}
use Rattle.httparse.specs.Spans.{IsRequestAt, header_bytes, name_and_value}
use Rattle.httparse.specs.declared.spans.HeaderSpan.{HeaderSpan}
use Rattle.httparse.specs.declared.spans.RequestSpans.{RequestSpans}
use Rattle.httparse.proofs.GrammarLemmas.{request_unique}
use Rattle.http_messages.specs.Fields.{FieldValue}
use Rattle.http_framing.specs.Heads.{IsHeadText, value_of_field, value_of_head}
use Rattle.http_framing.specs.Parts.{field_at, head_at}

-- a head that ends with the bytes
pub whole_text : (bytes : List ℕ) (headers : List HeaderSpan) (spans : RequestSpans) (h : RequestHead)
    → IsRequestAt bytes headers spans h → spans.len ≡ length bytes → length h.fields ≤ 64 → IsHeadText bytes h
whole_text bytes headers spans h at same few =
    record { reads = subst (ReadsRequest bytes h) (drop_all spans.len bytes (omega arith)) at.reads; few = few }

-- a head that ends before the bytes do
pub other_text : (bytes : List ℕ) (headers : List HeaderSpan) (spans : RequestSpans) (h : RequestHead)
    → IsRequestAt bytes headers spans h → spans.len ≤ length bytes → (spans.len ≡ length bytes → ⊥) → (k : RequestHead) → ¬ (IsHeadText bytes k)
other_text bytes headers spans h at within other k is =
    let same = request_unique bytes h k (drop spans.len bytes) [] at.reads is.reads in
    other (omega (arith, length-drop spans.len bytes, ap length same.1))

field_of : List ℕ × List ℕ → FieldValue
field_of p = record { name = p.0; value = p.1 }

fields_by_places : (bytes : List ℕ) (headers : List HeaderSpan) → map (field_at bytes) headers ≡ map field_of (map (header_bytes bytes) headers)
unfolding field_of
fields_by_places bytes [] = refl
fields_by_places bytes (h ∷ hs) = ap (λ (t : List FieldValue). field_at bytes h ∷ t) (fields_by_places bytes hs)

fields_by_tree : (fields : List Field) → map value_of_field fields ≡ map field_of (map name_and_value fields)
unfolding field_of
fields_by_tree [] = refl
fields_by_tree (f ∷ fs) = ap (λ (t : List FieldValue). value_of_field f ∷ t) (fields_by_tree fs)

-- the places cover the parts of the head
pub parts_of : (bytes : List ℕ) (headers : List HeaderSpan) (spans : RequestSpans) (h : RequestHead)
    → IsRequestAt bytes headers spans h → head_at bytes spans (take spans.headers headers) ≡ value_of_head h
parts_of bytes headers spans h at =
    let fields : map (field_at bytes) (take spans.headers headers) ≡ map value_of_field h.fields = fields_by_places bytes (take spans.headers headers) ∙ ap (map field_of) at.fields ∙ sym (fields_by_tree h.fields) in
    let method = at.method in
    let target = at.path in
    let minor = at.version in
    cc
