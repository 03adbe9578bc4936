-- Rows are read as the commands that they keep, and each is the row of one command alone.
use Rattle.std.proofs.Common.{◌≡◌, ℕ, ◌+◌, ◌^◌, ◌<◌, Bool, true, false, cond, ltb, List, [], ◌∷◌, ◌++◌, length, get_or, take, drop, Option, None, Some, refl, sym, ap, subst, ◌∙◌, append_assoc, add-one, arith}
use Rattle.std.specs.Prelude.{codes, decimal}
use Rattle.std.specs.List.{position_or_len, before_first, after_first}
use Rattle.std.specs.Str.{IsUtf8, is_utf8}
use Rattle.std.proofs.lemmas.Bool.{ltb-true, lt-ltb, eqb-true}
use Rattle.std.proofs.lemmas.List.{length-append}
use Rattle.std.proofs.lemmas.List.Sums.{split_at_first, passes_at_first}
use Rattle.std.proofs.lemmas.Option.{same_Some, none-some}
use Rattle.std.proofs.lemmas.Str.{is_utf8-from_IsUtf8, IsUtf8-append, IsUtf8-nil}
use Rattle.std.proofs.Math.Seq.{take-append_seam}
use Rattle.match_rules.specs.declared.answer.Mode.{Mode}
use Rattle.match_rules.specs.declared.answer.Mode.TheVariants.{Whole, Fair}
use Rattle.text_lines.specs.Fields.{fields, with_spaces}
use Rattle.text_lines.specs.Reading.{is_feed}
use Rattle.text_lines.specs.Texts.{line_of}
use Rattle.text_lines.proofs.FieldLaws.{with_spaces-fields}
use Rattle.text_lines.proofs.LineLaws.{IsPlain, feed_ahead}
use Rattle.text_lines.proofs.WordLaws.{IsWord, AllWords, Lacks, Lacks-append, fields-with_spaces, plain_from, number_word, ascii_text}
use Rattle.desk_keeper.specs.declared.words.TableWords.{TableWords}
use Rattle.desk_keeper.specs.declared.words.TableWords.TheVariants.{Settings, Papers, Reviewers, Values, Bids, Marks, Caps}
use Rattle.desk_keeper.specs.declared.words.HowWords.{HowWords}
use Rattle.desk_keeper.specs.declared.words.HowWords.TheVariants.{Merge, Replace}
use Rattle.desk_keeper.specs.declared.words.Command.{Command}
use Rattle.desk_keeper.specs.declared.words.Command.TheVariants.{Edit, Submit, Publish, Draw}
use Rattle.desk_keeper.specs.declared.words.Named.{Named}
use Rattle.desk_keeper.specs.declared.words.Kept.{Kept}
use Rattle.desk_keeper.specs.Names.{is_chair_name}
use Rattle.desk_keeper.specs.Rows.{command_word, table_word, how_word, mode_word, own_fields, body_of, are_edit_words, MayHave, IsSmall, IsRow, head_of, row_of}
use Rattle.desk_keeper.specs.Reading.{◌>>=◌, needs, number_in, head_in, HeadFields, line_in, command_in, lottery_in, kept_in}
use Rattle.desk_keeper.proofs.FieldSpells.{bind_some, needs_some, number_spells, number_read, chair_word, source_word, plain_word}
use Rattle.desk_keeper.proofs.CommandSpells.{command_spells, command_read, lottery_read}

-- ---- the head line and the bytes behind it

joined : (a b : List ℕ) (x : ℕ) (c d : List ℕ) → a ≡ b → x ≡ 10 → c ≡ d → a ++ (x ∷ c) ≡ b ++ (10 ∷ d)
joined a b x c d p q r = cc

line_spells : (row line body : List ℕ) → line_in row ≡ Some (line, body) → row ≡ line_of line ++ body
unfolding line_of
line_spells row line body e = by_test (ltb (position_or_len is_feed row) (length row)) refl e
  where
    by_test : (test : Bool) → ltb (position_or_len is_feed row) (length row) ≡ test → cond {A = Option (List ℕ × List ℕ)} test (Some (before_first is_feed row, after_first is_feed row)) None ≡ Some (line, body) → row ≡ (line ++ 10 ∷ []) ++ body
    by_test true there is =
        let lt : position_or_len is_feed row < length row = ltb-true _ _ there in
        let feed : get_or row (position_or_len is_feed row) 0 ≡ 10 = eqb-true _ 10 (passes_at_first is_feed row 0 lt) in
        let parts = same_Some (before_first is_feed row, after_first is_feed row) (line, body) is in
        let line-is : before_first is_feed row ≡ line = ap (λ (p : List ℕ × List ℕ). p.0) parts in
        let body-is : after_first is_feed row ≡ body = ap (λ (p : List ℕ × List ℕ). p.1) parts in
        split_at_first is_feed row 0 lt ∙ joined (before_first is_feed row) line _ (after_first is_feed row) body line-is feed body-is ∙ sym (append_assoc line (10 ∷ []) body)
    by_test false none is = absurd (none-some (line, body) is)

line_read : (line body : List ℕ) → IsPlain line → line_in (line_of line ++ body) ≡ Some (line, body)
unfolding line_of
line_read line body plain =
    let row = line ++ 10 ∷ body in
    let place : position_or_len is_feed row ≡ length line = omega (arith, feed_ahead line (10 ∷ body) plain) in
    let lt : position_or_len is_feed row < length row = omega (arith, place, length-append line (10 ∷ body)) in
    let test : ltb (position_or_len is_feed row) (length row) ≡ true = lt-ltb _ _ lt in
    subst (λ (bytes : List ℕ). line_in bytes ≡ Some (line, body)) (sym (append_assoc line (10 ∷ []) body))
    (chosen _ _ _ line body test (ap (λ (n : ℕ). take n row) place ∙ take-append_seam line (10 ∷ body)) (ap (λ (n : ℕ). drop (n + 1) row) place ∙ drop_behind line 10 body))
  where
    chosen : (test : Bool) (a b c d : List ℕ) → test ≡ true → a ≡ c → b ≡ d → cond {A = Option (List ℕ × List ℕ)} test (Some (a, b)) None ≡ Some (c, d)
    chosen test a b c d p q r = rw (p, q, r) refl

    drop_behind : (line : List ℕ) (x : ℕ) (body : List ℕ) → drop (length line + 1) (line ++ x ∷ body) ≡ body
    drop_behind [] x body = refl
    drop_behind (y ∷ line) x body = rw add-one (rw add-one at (drop_behind line x body))

-- ---- the fields of a head line

record HeadSpells (parts : List (List ℕ)) (head : HeadFields) : Type 0 where
  pub fields : parts ≡ head.word ∷ head.caller ∷ decimal head.number ∷ head.own
  pub caller : is_chair_name head.caller ≡ true
  pub small : head.number < 2 ^ 64

head_spells : (parts : List (List ℕ)) (head : HeadFields) → head_in parts ≡ Some head → HeadSpells parts head
head_spells [] head e = absurd (none-some head e)
head_spells (a ∷ []) head e = absurd (none-some head e)
head_spells (a ∷ b ∷ []) head e = absurd (none-some head e)
head_spells (a ∷ b ∷ c ∷ []) head e = absurd (none-some head e)
head_spells (a ∷ b ∷ c ∷ d ∷ parts) head e =
    let n = needs_some (is_chair_name b) _ head e in
    let m = bind_some (number_in c) _ head n.1 in
    let s = number_spells c m.0 m.1 in
    let made : HeadFields = record { word = a; caller = b; number = m.0; own = d ∷ parts } in
    let same : made ≡ head = same_Some made head m.2 in
    let spelled : HeadSpells (a ∷ b ∷ c ∷ d ∷ parts) made = record { fields = ap (λ (field : List ℕ). a ∷ b ∷ field ∷ d ∷ parts) s.0; caller = n.0; small = s.1 } in
    subst (λ (h : HeadFields). HeadSpells (a ∷ b ∷ c ∷ d ∷ parts) h) same spelled

head_read : (word caller : List ℕ) (number : ℕ) (own : List (List ℕ)) → is_chair_name caller ≡ true → number < 2 ^ 64 → 0 < length own
    → head_in (word ∷ caller ∷ decimal number ∷ own) ≡ Some (record { word = word; caller = caller; number = number; own = own })
head_read word caller number [] named small some = absurd (omega arith)
head_read word caller number (first ∷ others) named small some = rw (named, number_read number small) refl

own_some : (command : Command) (lottery : List ℕ) → 0 < length (own_fields command lottery)
own_some (Edit base edit) lottery = omega arith
own_some (Submit base mode) lottery = omega arith
own_some (Publish job) lottery = omega arith
own_some (Draw publication text) lottery = omega arith

-- ---- the words of a head line

table_is_word : (table : TableWords) (how : HowWords) → are_edit_words table how ≡ true → IsWord (table_word table)
table_is_word Settings how ok = plain_word (codes "settings") refl
table_is_word Papers how ok = plain_word (codes "papers") refl
table_is_word Reviewers how ok = plain_word (codes "reviewers") refl
table_is_word (Values source) how ok = source_word source ok
table_is_word Bids how ok = plain_word (codes "bids") refl
table_is_word Marks how ok = plain_word (codes "marks") refl
table_is_word Caps how ok = plain_word (codes "caps") refl

how_is_word : (how : HowWords) → IsWord (how_word how)
how_is_word Merge = plain_word (codes "merge") refl
how_is_word Replace = plain_word (codes "replace") refl

mode_is_word : (mode : Mode) → IsWord (mode_word mode)
mode_is_word Whole = plain_word (codes "whole") refl
mode_is_word Fair = plain_word (codes "fair") refl

command_is_word : (command : Command) → IsWord (command_word command)
command_is_word (Edit base edit) = plain_word (codes "edit") refl
command_is_word (Submit base mode) = plain_word (codes "submit") refl
command_is_word (Publish job) = plain_word (codes "publish") refl
command_is_word (Draw publication text) = plain_word (codes "draw") refl

own_are_words : (command : Command) (lottery : List ℕ) → MayHave command lottery → IsSmall command → length (body_of command lottery) < 2 ^ 64 → AllWords (own_fields command lottery)
own_are_words (Edit base edit) lottery allowed small short =
    (number_word base small, (table_is_word edit.table edit.how allowed.0, (how_is_word edit.how, (number_word (length edit.body) short, tt))))
own_are_words (Submit base mode) lottery allowed small short = (number_word base small, (mode_is_word mode, tt))
own_are_words (Publish job) lottery allowed small short = (number_word job small, (number_word (length lottery) short, tt))
own_are_words (Draw publication text) lottery allowed small short = (number_word publication small, (number_word (length text) short, tt))

feeds_of : (ws : List (List ℕ)) → AllWords ws → Lacks 10 (with_spaces ws)
unfolding with_spaces
feeds_of [] all = tt
feeds_of (w ∷ []) all = all.0.feeds
feeds_of (w ∷ x ∷ ws) all = Lacks-append 10 w (32 ∷ with_spaces (x ∷ ws)) all.0.feeds (refl, feeds_of (x ∷ ws) all.1)

text_of : (ws : List (List ℕ)) → AllWords ws → IsUtf8 (with_spaces ws)
unfolding with_spaces
text_of [] all = IsUtf8-nil
text_of (w ∷ []) all = all.0.text
text_of (w ∷ x ∷ ws) all = IsUtf8-append w (32 ∷ with_spaces (x ∷ ws)) all.0.text (IsUtf8-append (32 ∷ []) (with_spaces (x ∷ ws)) (ascii_text (32 ∷ []) refl) (text_of (x ∷ ws) all.1))

-- ---- whole rows

-- what was read of a row is what it keeps
pub row_spells : (row : List ℕ) (kept : Kept) → kept_in row ≡ Some kept → IsRow row kept.named kept.lottery
unfolding kept_in head_of row_of
row_spells row kept e =
    let l = bind_some (line_in row) _ kept e in
    let t = needs_some (is_utf8 l.0.0) _ kept l.2 in
    let h = bind_some (head_in (fields l.0.0)) _ kept t.1 in
    let c = bind_some (command_in h.0.word h.0.own l.0.1) _ kept h.2 in
    let head = head_spells (fields l.0.0) h.0 h.1 in
    let own = command_spells h.0.word h.0.own l.0.1 c.0 c.1 in
    let named : Named = record { caller = h.0.caller; number = h.0.number; command = c.0 } in
    let lottery = lottery_in c.0 l.0.1 in
    let made : Kept = record { named = named; lottery = lottery } in
    let same : made ≡ kept = same_Some made kept c.2 in
    let parts : fields l.0.0 ≡ command_word c.0 ∷ h.0.caller ∷ decimal h.0.number ∷ own_fields c.0 lottery =
    head.fields ∙ four h.0.word (command_word c.0) h.0.caller (decimal h.0.number) h.0.own (own_fields c.0 lottery) own.word own.fields in
    let line : l.0.0 ≡ head_of named lottery = sym (with_spaces-fields l.0.0) ∙ ap with_spaces parts in
    let text : row ≡ row_of named lottery = line_spells row l.0.0 l.0.1 l.1 ∙ behind l.0.0 (head_of named lottery) l.0.1 (body_of c.0 lottery) line own.behind in
    let is : IsRow row named lottery = record { kept = record { caller = head.caller; command = own.allowed }; number = head.small; small = own.small; text = text } in
    subst (λ (k : Kept). IsRow row k.named k.lottery) same is
  where
    four : (a b c d : List ℕ) (others same : List (List ℕ)) → a ≡ b → others ≡ same → a ∷ c ∷ d ∷ others ≡ b ∷ c ∷ d ∷ same
    four a b c d others same p q = cc

    behind : (a b c d : List ℕ) → a ≡ b → c ≡ d → line_of a ++ c ≡ line_of b ++ d
    behind a b c d p q = cc

bind_is : {A B : Type 0} (o : Option A) (x : A) (f : A → Option B) → o ≡ Some x → (o >>= f) ≡ f x
bind_is {A} {B} o x f e = ap (λ (p : Option A). p >>= f) e

kept_steps : (row line body : List ℕ) (parts : List (List ℕ)) (head : HeadFields) (command : Command) (lottery : List ℕ) → line_in row ≡ Some (line, body) → is_utf8 line ≡ true → fields line ≡ parts → head_in parts ≡ Some head
    → command_in head.word head.own body ≡ Some command → lottery_in command body ≡ lottery
    → kept_in row ≡ Some (record { named = record { caller = head.caller; number = head.number; command = command }; lottery = lottery })
unfolding kept_in
kept_steps row line body parts head command lottery split text cut found made kept =
    let named : Named = record { caller = head.caller; number = head.number; command = command } in
    bind_is (line_in row) (line, body) _ split
    ∙ bind_is (needs (is_utf8 line)) tt _ (ap needs text)
    ∙ bind_is (head_in (fields line)) head _ (ap head_in cut ∙ found)
    ∙ bind_is (command_in head.word head.own body) command _ made
    ∙ ap (λ (l : List ℕ). Some (kept_with named l)) kept
  where
    kept_with : Named → List ℕ → Kept
    kept_with named lottery = record { named = named; lottery = lottery }

-- what a row keeps is read of it
pub row_read : (row : List ℕ) (named : Named) (lottery : List ℕ) → length row < 2 ^ 64 → IsRow row named lottery → kept_in row ≡ Some (record { named = named; lottery = lottery })
unfolding head_of row_of
row_read row named lottery short is =
    let command = named.command in
    let body = body_of command lottery in
    let own = own_fields command lottery in
    let line = with_spaces (command_word command ∷ named.caller ∷ decimal named.number ∷ own) in
    let few : length body < 2 ^ 64 = omega (arith, short, ap length is.text, length-append (line_of line) body) in
    let words : AllWords (command_word command ∷ named.caller ∷ decimal named.number ∷ own) =
    (command_is_word command, (chair_word named.caller is.kept.caller, (number_word named.number is.number, own_are_words command lottery is.kept.command is.small few))) in
    let split : line_in row ≡ Some (line, body) = ap line_in is.text ∙ line_read line body (plain_from line (feeds_of _ words)) in
    kept_steps row line body (command_word command ∷ named.caller ∷ decimal named.number ∷ own) (record { word = command_word command; caller = named.caller; number = named.number; own = own }) command lottery
    split
    (is_utf8-from_IsUtf8 line (text_of _ words))
    (fields-with_spaces (command_word command) (named.caller ∷ decimal named.number ∷ own) words)
    (head_read (command_word command) named.caller named.number own is.kept.caller is.number (own_some command lottery))
    (command_read command lottery is.kept.command is.small few)
    (lottery_read command lottery is.kept.command)

-- a row is that of one command alone
pub row_only : (row : List ℕ) (kept : Kept) (named : Named) (lottery : List ℕ) → length row < 2 ^ 64 → kept_in row ≡ Some kept → IsRow row named lottery → (named ≡ kept.named) × (lottery ≡ kept.lottery)
row_only row kept named lottery short e is =
    let same = same_Some (record { named = named; lottery = lottery }) kept (sym (row_read row named lottery short is) ∙ e) in
    (ap (λ (k : Kept). k.named) same, ap (λ (k : Kept). k.lottery) same)

pub row_none : (row : List ℕ) (named : Named) (lottery : List ℕ) → length row < 2 ^ 64 → kept_in row ≡ None → IsRow row named lottery → ⊥
row_none row named lottery short none is = none-some (record { named = named; lottery = lottery }) (sym none ∙ row_read row named lottery short is)

-- two commands of one row are the same
pub row_one : (row : List ℕ) (a b : Named) (x y : List ℕ) → length row < 2 ^ 64 → IsRow row a x → IsRow row b y → (a ≡ b) × (x ≡ y)
row_one row a b x y short is other = row_only row (record { named = b; lottery = y }) a x short (row_read row b y short other) is
