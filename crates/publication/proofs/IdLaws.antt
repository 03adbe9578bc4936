-- Ids are words of a line.
use Rattle.std.proofs.Common.{◌≡◌, ℕ, ◌+◌, ◌≤◌, Bool, true, false, ◌&&◌, eqb, leb, List, [], ◌∷◌, length, Option, None, Some, Ok, refl, sym, ap, subst, ◌∙◌, arith, lit<}
use Rattle.std.specs.List.{list_all}
use Rattle.std.specs.Prelude.{option_to_list}
use Rattle.std.specs.Str.{IsUtf8, is_utf8, chars, NonePass, NoCharPasses}
use Rattle.std.proofs.lemmas.Option.{same_Some}
use Rattle.std.proofs.lemmas.Bool.{and_parts, leb-true, eqb-true, false_from_ne_true, false≢true}
use Rattle.std.proofs.lemmas.Str.{IsUtf8-from_is_utf8, encodes-chars}
use Rattle.match_rules.specs.Id.{is_id, is_id_char, is_institution, is_institution_char, is_name}
use Rattle.text_lines.specs.declared.fault.LineCode.{LineCode}
use Rattle.text_lines.specs.declared.fault.LineCode.TheVariants.{Id}
use Rattle.text_lines.specs.Fields.{with_spaces}
use Rattle.text_lines.proofs.TextLaws.{ok_is}
use Rattle.publication.specs.RulesReading.{id_of, institution_of}
use Rattle.text_lines.proofs.WordLaws.{IsWord, AllWords, Lacks-from_chars, length-with_spaces_one, length-with_spaces_more}
use Rattle.text_lines.proofs.FormLaws.{needs_ok}

-- a name of characters that pass a test
record NameParts (test : ℕ → Bool) (id : List ℕ) : Type 0 where
  short : length id ≤ 128
  text : IsUtf8 id
  letters : list_all test (chars id) ≡ true

name_parts : (test : ℕ → Bool) (id : List ℕ) → is_name test id ≡ true → NameParts test id
name_parts test id e =
    let a = and_parts (leb 1 (length id) && leb (length id) 128) (is_utf8 id && list_all test (chars id)) e in
    let b = and_parts (leb 1 (length id)) (leb (length id) 128) a.0 in
    let c = and_parts (is_utf8 id) (list_all test (chars id)) a.1 in
    record { short = leb-true (length id) 128 b.1; text = IsUtf8-from_is_utf8 id c.0; letters = c.1 }

-- a character that doesn't pass the test
none_passes : (test : ℕ → Bool) (b : ℕ) (cs : List ℕ) → test b ≡ false → list_all test cs ≡ true → NonePass (λ d. eqb d b) cs
none_passes test b [] fails all = tt
none_passes test b (c ∷ cs) fails all =
    let parts = and_parts (test c) (list_all test cs) all in
    (false_from_ne_true (eqb c b) (λ same. false≢true (sym fails ∙ ap test (sym (eqb-true c b same)) ∙ parts.0)), none_passes test b cs fails parts.1)

lacks_char : (test : ℕ → Bool) (b : ℕ) (id : List ℕ) → test b ≡ false → NameParts test id → NoCharPasses (λ d. eqb d b) id
lacks_char test b id fails parts = (chars id, encodes-chars id parts.text, none_passes test b (chars id) fails parts.letters)

name_word : (test : ℕ → Bool) (id : List ℕ) → test 32 ≡ false → test 10 ≡ false → NameParts test id → IsWord id
name_word test id space feed parts = record {
  text = parts.text;
  spaces = Lacks-from_chars 32 id (lit< tt) (lacks_char test 32 id space parts);
  feeds = Lacks-from_chars 10 id (lit< tt) (lacks_char test 10 id feed parts);
}

pub id_short : (id : List ℕ) → is_id id ≡ true → length id ≤ 128
unfolding is_id
id_short id e = (name_parts is_id_char id e).short

pub id_word : (id : List ℕ) → is_id id ≡ true → IsWord id
unfolding is_id
id_word id e = name_word is_id_char id refl refl (name_parts is_id_char id e)

-- an id that was read from a field
pub id_of_takes : (field id : List ℕ) → id_of field ≡ Ok id → (is_id id ≡ true) × (field ≡ id)
id_of_takes field id e =
    let a = needs_ok (is_id field) Id (Ok field) id e in
    let same : field ≡ id = ok_is {E = LineCode} field id a.1 in
    (ap is_id (sym same) ∙ a.0, same)

-- ---- institutions

-- the name of an institution, where there is one
abbrev pub IsHome : Option (List ℕ) → Type 0
IsHome home = (name : List ℕ) → home ≡ Some name → is_institution name ≡ true

institution_short : (name : List ℕ) → is_institution name ≡ true → length name ≤ 128
unfolding is_institution
institution_short name e = (name_parts is_institution_char name e).short

institution_word : (name : List ℕ) → is_institution name ≡ true → IsWord name
unfolding is_institution
institution_word name e = name_word is_institution_char name refl refl (name_parts is_institution_char name e)

pub institution_takes : (field home : Option (List ℕ)) → institution_of field ≡ Ok home → IsHome home × (field ≡ home)
institution_takes None home e =
    let same : None ≡ home = ok_is {E = LineCode} None home e in
    (λ name is. absurd (cc (same, is)), same)
institution_takes (Some field) home e =
    let a = needs_ok (is_institution field) Id (Ok (Some field)) home e in
    let same : Some field ≡ home = ok_is {E = LineCode} (Some field) home a.1 in
    (λ name is. subst (λ (n : List ℕ). is_institution n ≡ true) (same_Some field name (same ∙ is)) a.0, same)

pub institution_again : (home : Option (List ℕ)) → IsHome home → institution_of home ≡ Ok home
institution_again None is = refl
institution_again (Some name) is = rw (is name refl) refl

pub home_words : (home : Option (List ℕ)) → IsHome home → AllWords (option_to_list home)
home_words None is = tt
home_words (Some name) is = (institution_word name (is name refl), tt)

pub home_short : (w : List ℕ) (home : Option (List ℕ)) → IsHome home → length (with_spaces (w ∷ option_to_list home)) ≤ length w + 129
home_short w None is = omega (arith, length-with_spaces_one w)
home_short w (Some name) is = omega (arith, length-with_spaces_more w name [], length-with_spaces_one name, institution_short name (is name refl))
