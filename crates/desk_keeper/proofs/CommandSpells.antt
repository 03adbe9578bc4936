-- Commands are read as they are spelled, and spelled as they are read.
use Rattle.std.proofs.Common.{◌≡◌, ℕ, ◌^◌, ◌<◌, Bool, true, false, cond, eqb, List, [], ◌∷◌, length, Option, Some, refl, sym, subst, ◌∙◌, arith}
use Rattle.std.specs.Prelude.{codes}
use Rattle.std.specs.Str.{bytes_eq}
use Rattle.std.proofs.lemmas.Bool.{eqb-true}
use Rattle.std.proofs.lemmas.Option.{none-some}
use Rattle.match_rules.specs.declared.answer.Mode.{Mode}
use Rattle.text_lines.specs.Fields.{two_of, four_of}
use Rattle.text_lines.proofs.FormLaws.{same_words}
use Rattle.desk_keeper.specs.declared.words.EditWords.{EditWords}
use Rattle.desk_keeper.specs.declared.words.Command.{Command}
use Rattle.desk_keeper.specs.declared.words.Command.TheVariants.{Edit, Submit, Publish, Draw}
use Rattle.desk_keeper.specs.Rows.{command_word, own_fields, body_of, are_edit_words, MayHave, IsSmall}
use Rattle.desk_keeper.specs.Reading.{number_in, how_in, mode_in, table_in, has_length, edit_in, submit_in, publish_in, draw_in, command_in, lottery_in}
use Rattle.desk_keeper.proofs.FieldSpells.{bind_some, needs_some, number_spells, number_read, length_spells, length_read, how_spells, how_read, mode_spells, mode_read, table_spells, table_read}

two_is : (parts : List (List ℕ)) (f : List ℕ × List ℕ) → two_of parts ≡ Some f → parts ≡ f.0 ∷ f.1 ∷ []
two_is [] f e = absurd cc
two_is (a ∷ []) f e = absurd cc
two_is (a ∷ b ∷ []) f e = cc
two_is (a ∷ b ∷ c ∷ parts) f e = absurd cc

four_is : (parts : List (List ℕ)) (f : List ℕ × List ℕ × List ℕ × List ℕ) → four_of parts ≡ Some f → parts ≡ f.0 ∷ f.1 ∷ f.2 ∷ f.3 ∷ []
four_is [] f e = absurd cc
four_is (a ∷ []) f e = absurd cc
four_is (a ∷ b ∷ []) f e = absurd cc
four_is (a ∷ b ∷ c ∷ []) f e = absurd cc
four_is (a ∷ b ∷ c ∷ d ∷ []) f e = cc
four_is (a ∷ b ∷ c ∷ d ∷ x ∷ parts) f e = absurd cc

two_same : (a b c d : List ℕ) → a ≡ c → b ≡ d → a ∷ b ∷ [] ≡ c ∷ d ∷ []
two_same a b c d p q = cc

four_same : (a b c d e f g h : List ℕ) → a ≡ e → b ≡ f → c ≡ g → d ≡ h → a ∷ b ∷ c ∷ d ∷ [] ≡ e ∷ f ∷ g ∷ h ∷ []
four_same a b c d e f g h p q r s = cc

-- ---- what was read is spelled so

-- the fields and the body are those of the command
pub record Spells (first : List ℕ) (parts : List (List ℕ)) (body : List ℕ) (command : Command) : Type 0 where
  pub word : first ≡ command_word command
  pub fields : parts ≡ own_fields command (lottery_in command body)
  pub behind : body ≡ body_of command (lottery_in command body)
  pub allowed : MayHave command (lottery_in command body)
  pub small : IsSmall command

edit_spells : (parts : List (List ℕ)) (body : List ℕ) (command : Command) → edit_in parts body ≡ Some command → Spells (codes "edit") parts body command
unfolding edit_in
edit_spells parts body command e =
    let a = bind_some (four_of parts) _ command e in
    let b = bind_some (number_in a.0.0) _ command a.2 in
    let t = bind_some (table_in a.0.1) _ command b.2 in
    let h = bind_some (how_in a.0.2) _ command t.2 in
    let w = needs_some (are_edit_words t.0 h.0) _ command h.2 in
    let l = bind_some (has_length a.0.3 body) _ command w.1 in
    let n = number_spells a.0.0 b.0 b.1 in
    let edit : EditWords = record { table = t.0; how = h.0; body = body } in
    let same : Edit b.0 edit ≡ command = cc (l.2) in
    let spelled : parts ≡ own_fields (Edit b.0 edit) [] = four_is parts a.0 a.1 ∙ four_same _ _ _ _ _ _ _ _ n.0 (table_spells a.0.1 t.0 t.1) (how_spells a.0.2 h.0 h.1) (length_spells a.0.3 body l.1) in
    let made : Spells (codes "edit") parts body (Edit b.0 edit) = record { word = refl; fields = spelled; behind = refl; allowed = (w.0, refl); small = n.1 } in
    subst (λ (c : Command). Spells (codes "edit") parts body c) same made

submit_spells : (parts : List (List ℕ)) (body : List ℕ) (command : Command) → submit_in parts body ≡ Some command → Spells (codes "submit") parts body command
unfolding submit_in
submit_spells parts body command e =
    let a = bind_some (two_of parts) _ command e in
    let b = bind_some (number_in a.0.0) _ command a.2 in
    let m = bind_some (mode_in a.0.1) _ command b.2 in
    let l = needs_some (eqb (length body) 0) _ command m.2 in
    let n = number_spells a.0.0 b.0 b.1 in
    let same : Submit b.0 m.0 ≡ command = cc (l.1) in
    let spelled : parts ≡ own_fields (Submit b.0 m.0) [] = two_is parts a.0 a.1 ∙ two_same _ _ _ _ n.0 (mode_spells a.0.1 m.0 m.1) in
    let made : Spells (codes "submit") parts body (Submit b.0 m.0) = record { word = refl; fields = spelled; behind = empty body (eqb-true (length body) 0 l.0); allowed = refl; small = n.1 } in
    subst (λ (c : Command). Spells (codes "submit") parts body c) same made
  where
    empty : (xs : List ℕ) → length xs ≡ 0 → xs ≡ []
    empty [] e = refl
    empty (x ∷ xs) e = absurd (omega (arith, e))

publish_spells : (parts : List (List ℕ)) (body : List ℕ) (command : Command) → publish_in parts body ≡ Some command → Spells (codes "publish") parts body command
unfolding publish_in
publish_spells parts body command e =
    let a = bind_some (two_of parts) _ command e in
    let b = bind_some (number_in a.0.0) _ command a.2 in
    let l = bind_some (has_length a.0.1 body) _ command b.2 in
    let n = number_spells a.0.0 b.0 b.1 in
    let same : Publish b.0 ≡ command = cc (l.2) in
    let spelled : parts ≡ own_fields (Publish b.0) body = two_is parts a.0 a.1 ∙ two_same _ _ _ _ n.0 (length_spells a.0.1 body l.1) in
    let made : Spells (codes "publish") parts body (Publish b.0) = record { word = refl; fields = spelled; behind = refl; allowed = tt; small = n.1 } in
    subst (λ (c : Command). Spells (codes "publish") parts body c) same made

draw_spells : (parts : List (List ℕ)) (body : List ℕ) (command : Command) → draw_in parts body ≡ Some command → Spells (codes "draw") parts body command
unfolding draw_in
draw_spells parts body command e =
    let a = bind_some (two_of parts) _ command e in
    let b = bind_some (number_in a.0.0) _ command a.2 in
    let l = bind_some (has_length a.0.1 body) _ command b.2 in
    let n = number_spells a.0.0 b.0 b.1 in
    let same : Draw b.0 body ≡ command = cc (l.2) in
    let spelled : parts ≡ own_fields (Draw b.0 body) [] = two_is parts a.0 a.1 ∙ two_same _ _ _ _ n.0 (length_spells a.0.1 body l.1) in
    let made : Spells (codes "draw") parts body (Draw b.0 body) = record { word = refl; fields = spelled; behind = refl; allowed = refl; small = n.1 } in
    subst (λ (c : Command). Spells (codes "draw") parts body c) same made

pub command_spells : (first : List ℕ) (parts : List (List ℕ)) (body : List ℕ) (command : Command) → command_in first parts body ≡ Some command → Spells first parts body command
command_spells first parts body command e =
    by_word first (codes "edit") parts body command _ _ (edit_spells parts body command) e
    (λ e. by_word first (codes "submit") parts body command _ _ (submit_spells parts body command) e
    (λ e. by_word first (codes "publish") parts body command _ _ (publish_spells parts body command) e
    (λ e. by_word first (codes "draw") parts body command _ _ (draw_spells parts body command) e (λ e. absurd (none-some command e)))))
  where
    by_word : (first word : List ℕ) (parts : List (List ℕ)) (body : List ℕ) (command : Command) (read others : Option Command) → (read ≡ Some command → Spells word parts body command)
        → cond (bytes_eq first word) read others ≡ Some command → (others ≡ Some command → Spells first parts body command) → Spells first parts body command
    by_word first word parts body command read others spells e rest = by_test (bytes_eq first word) refl e
      where
        by_test : (test : Bool) → bytes_eq first word ≡ test → cond test read others ≡ Some command → Spells first parts body command
        by_test true same is = subst (λ (w : List ℕ). Spells w parts body command) (sym (same_words first word same)) (spells is)
        by_test false other is = rest is

-- ---- what is spelled so is read

edit_read : (base : ℕ) (edit : EditWords) → base < 2 ^ 64 → length edit.body < 2 ^ 64 → are_edit_words edit.table edit.how ≡ true → edit_in (own_fields (Edit base edit) []) edit.body ≡ Some (Edit base edit)
unfolding edit_in
edit_read base edit small short allowed = rw (number_read base small, table_read edit.table, how_read edit.how, allowed, length_read edit.body short) refl

submit_read : (base : ℕ) (mode : Mode) → base < 2 ^ 64 → submit_in (own_fields (Submit base mode) []) [] ≡ Some (Submit base mode)
unfolding submit_in
submit_read base mode small = rw (number_read base small, mode_read mode) refl

publish_read : (job : ℕ) (lottery : List ℕ) → job < 2 ^ 64 → length lottery < 2 ^ 64 → publish_in (own_fields (Publish job) lottery) lottery ≡ Some (Publish job)
unfolding publish_in
publish_read job lottery small short = rw (number_read job small, length_read lottery short) refl

draw_read : (publication : ℕ) (text : List ℕ) → publication < 2 ^ 64 → length text < 2 ^ 64 → draw_in (own_fields (Draw publication text) []) text ≡ Some (Draw publication text)
unfolding draw_in
draw_read publication text small short = rw (number_read publication small, length_read text short) refl

pub command_read : (command : Command) (lottery : List ℕ) → MayHave command lottery → IsSmall command → length (body_of command lottery) < 2 ^ 64
    → command_in (command_word command) (own_fields command lottery) (body_of command lottery) ≡ Some command
command_read (Edit base edit) lottery allowed small short = edit_read base edit small short allowed.0
command_read (Submit base mode) lottery allowed small short = submit_read base mode small
command_read (Publish job) lottery allowed small short = publish_read job lottery small short
command_read (Draw publication text) lottery allowed small short = draw_read publication text small short

pub lottery_read : (command : Command) (lottery : List ℕ) → MayHave command lottery → lottery_in command (body_of command lottery) ≡ lottery
lottery_read (Edit base edit) lottery allowed = sym allowed.1
lottery_read (Submit base mode) lottery allowed = sym allowed
lottery_read (Publish job) lottery allowed = refl
lottery_read (Draw publication text) lottery allowed = sym allowed
