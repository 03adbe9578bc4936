-- A parser with one argument that takes each word finds all words that begin with no hyphen, and takes them.
use Rattle.std.proofs.Common.{◌≡◌, Bool, true, false, not, ◌==◌, List, [], ◌∷◌, ◌++◌, None, Some, refl, ap, ◌∙◌, append_assoc}
use Rattle.std.specs.Prelude.{codes, fold, unwrap_or}
use Rattle.clap.specs.Simple.{Shape, built, is_simple, matches_of}
use Rattle.clap.specs.Takes.{takes, turn_passes, walk_passes}
use Rattle.clap.specs.Walk.{Row, Rule, Text, Walk, all_of, finished, nothing_held, positional, walk_from, walked}
use Rattle.clap.specs.declared.builder.value_parser.ValueParser.TheVariants as vp
use Rattle.clap.specs.declared.parser.matches.ValueSource.TheVariants.{CommandLine}
use Rattle.clap.specs.Values.{reading_of}
use Rattle.std.proofs.lemmas.Bool.{and_parts}
use Rattle.command_words.specs.Hyphens.{is_plain, are_plain}
use Rattle.command_words.specs.Parsers.{words_app}

-- the built parser
abbrev shape : Shape
shape = (built words_app).top

abbrev rules : List Rule
rules = shape.rules

-- the row of words that are settled
abbrev rows : List Text → List Row
rows [] = []
rows (word ∷ words) = record {
  id = codes "word";
  values = word ∷ words;
  count = None;
  source = Some CommandLine;
  reading = reading_of vp.String;
} ∷ []

-- the walk that has settled some words and holds the last one
abbrev at : List Text → Text → Walk
at before last = record {
  held = record { rows = rows before; pending = Some (codes "word", last ∷ []); skip = 0 };
  waiting = positional;
  position = 1;
  is_trailing = false;
  stopped = None;
}

not_true : (b : Bool) → not b ≡ true → b ≡ false
not_true true e = absurd cc
not_true false e = refl

-- a first word is held
first_word : (w : Text) → is_plain w ≡ true → walked rules [] (walk_from nothing_held) w ≡ at [] w
unfolding walked
first_word [] plain = refl
first_word (b ∷ w) plain =
    let e : (b == 45) ≡ false = not_true (b == 45) plain in
    rw e (rw e refl)

-- a further word settles the one before it
next_word : (before : List Text) (last w : Text) → is_plain w ≡ true → walked rules [] (at before last) w ≡ at (before ++ last ∷ []) w
unfolding walked
next_word [] last [] plain = refl
next_word [] last (b ∷ w) plain =
    let e : (b == 45) ≡ false = not_true (b == 45) plain in
    rw e (rw e refl)
next_word (x ∷ before) last [] plain = refl
next_word (x ∷ before) last (b ∷ w) plain =
    let e : (b == 45) ≡ false = not_true (b == 45) plain in
    rw e (rw e refl)

first_passes : (w : Text) → is_plain w ≡ true → turn_passes shape [] (walk_from nothing_held) w ≡ true
first_passes [] plain = refl
first_passes (b ∷ w) plain =
    let e : (b == 45) ≡ false = not_true (b == 45) plain in
    rw e (rw e refl)

next_passes : (before : List Text) (last w : Text) → is_plain w ≡ true → turn_passes shape [] (at before last) w ≡ true
next_passes before last [] plain = refl
next_passes before last (b ∷ w) plain =
    let e : (b == 45) ≡ false = not_true (b == 45) plain in
    rw e (rw e refl)

-- the walk to its end from where words are settled and one is held
walk_to_end : (before : List Text) (last : Text) (words : List Text) → are_plain words ≡ true
    → (settled : List Text) × (held : Text) × (fold (walked rules []) (at before last) words ≡ at settled held) × (settled ++ held ∷ [] ≡ before ++ last ∷ words)
walk_to_end before last [] plain = (before, last, refl, refl)
walk_to_end before last (w ∷ words) plain =
    let parts = and_parts (is_plain w) (are_plain words) plain in
    let more = walk_to_end (before ++ last ∷ []) w words parts.1 in
    (more.0, more.1, rw (next_word before last w parts.0) more.2, more.3 ∙ append_assoc before (last ∷ []) (w ∷ words))

passes_to_end : (before : List Text) (last : Text) (words : List Text) → are_plain words ≡ true → walk_passes shape [] (at before last) words ≡ true
unfolding walk_passes
passes_to_end before last [] plain = refl
passes_to_end before last (w ∷ words) plain =
    let parts = and_parts (is_plain w) (are_plain words) plain in
    rw (next_passes before last w parts.0, next_word before last w parts.0) (passes_to_end (before ++ last ∷ []) w words parts.1)

-- what is found where the walk ends
end_rows : (settled : List Text) (held : Text) → finished rules (at settled held).held ≡ rows (settled ++ held ∷ [])
end_rows [] held = refl
end_rows (x ∷ settled) held = refl

-- all words are found, in their order
pub all_found : (words : List Text) → are_plain words ≡ true → matches_of words_app words ≡ rows words
all_found [] plain = refl
all_found (w ∷ words) plain =
    let parts = and_parts (is_plain w) (are_plain words) plain in
    let end = walk_to_end [] w words parts.1 in
    rw (first_word w parts.0, end.2) (end_rows end.0 end.1 ∙ ap rows end.3)

pub words_of_rows : (words : List Text) → unwrap_or (all_of (codes "word") (rows words)) [] ≡ words
words_of_rows [] = refl
words_of_rows (w ∷ words) = refl

pub is_simple_parser : is_simple words_app ≡ true
is_simple_parser = refl

-- nothing but want of memory keeps the parser from taking them
pub all_taken : (words : List Text) → are_plain words ≡ true → takes words_app words ≡ true
unfolding walk_passes
all_taken [] plain = refl
all_taken (w ∷ words) plain =
    let parts = and_parts (is_plain w) (are_plain words) plain in
    let end = walk_to_end [] w words parts.1 in
    rw (first_word w parts.0, end.2, first_passes w parts.0, passes_to_end [] w words parts.1) refl
