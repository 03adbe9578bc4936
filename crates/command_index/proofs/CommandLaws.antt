-- Whether two commands are the same in what they say is whether they are equal.
use Rattle.std.proofs.Common.{◌≡◌, ◌&&◌, ◌==◌, Bool, true, List, ℕ, ap, refl, subst, bytes_eq, ◌∙◌}
use Rattle.std.specs.Bool.{Decides}
use Rattle.std.proofs.lemmas.Bool.{false≢true}
use Rattle.std.proofs.lemmas.Bool.Decides.{Decides-and, Decides-eqb}
use Rattle.std.proofs.lemmas.Slice.Eq.{bytes_eq-Decides}
use Rattle.match_rules.specs.declared.answer.Mode.{Mode}
use Rattle.match_rules.specs.declared.answer.Mode.TheVariants.{Whole, Fair}
use Rattle.desk_keeper.specs.declared.words.Command.{Command}
use Rattle.desk_keeper.specs.declared.words.Command.TheVariants.{Edit, Submit, Publish, Draw}
use Rattle.desk_keeper.specs.declared.words.EditWords.{EditWords}
use Rattle.desk_keeper.specs.declared.words.HowWords.{HowWords}
use Rattle.desk_keeper.specs.declared.words.HowWords.TheVariants.{Merge, Replace}
use Rattle.desk_keeper.specs.declared.words.TableWords.{TableWords}
use Rattle.desk_keeper.specs.declared.words.TableWords.TheVariants.{Settings, Papers, Reviewers, Values, Bids, Marks, Caps}
use Rattle.desk_history.specs.SameCommands.{is_same_command, is_same_edit, is_same_how, is_same_mode, is_same_table}

-- a test that holds of each value with itself, and only of equal ones, decides whether they are equal
decides : {A : Type 0} (same : A → A → Bool) → ((a : A) → same a a ≡ true) → ((a b : A) → same a b ≡ true → a ≡ b) → (a b : A) → Decides (same a b) (a ≡ b)
decides same self equal a b = (equal a b, λ e. subst (λ x. same a x ≡ true) e (self a))

eq_self : (n : ℕ) → (n == n) ≡ true
eq_self n = (Decides-eqb n n).1 refl

bytes_self : (text : List ℕ) → bytes_eq text text ≡ true
bytes_self text = (bytes_eq-Decides text text).1 refl

mode_self : (a : Mode) → is_same_mode a a ≡ true
mode_self Whole = refl
mode_self Fair = refl

mode_equal : (a b : Mode) → is_same_mode a b ≡ true → a ≡ b
mode_equal Whole Whole e = refl
mode_equal Whole Fair e = absurd (false≢true e)
mode_equal Fair Whole e = absurd (false≢true e)
mode_equal Fair Fair e = refl

how_self : (a : HowWords) → is_same_how a a ≡ true
how_self Merge = refl
how_self Replace = refl

how_equal : (a b : HowWords) → is_same_how a b ≡ true → a ≡ b
how_equal Merge Merge e = refl
how_equal Merge Replace e = absurd (false≢true e)
how_equal Replace Merge e = absurd (false≢true e)
how_equal Replace Replace e = refl

table_self : (a : TableWords) → is_same_table a a ≡ true
table_self Settings = refl
table_self Papers = refl
table_self Reviewers = refl
table_self (Values source) = bytes_self source
table_self Bids = refl
table_self Marks = refl
table_self Caps = refl

table_equal : (a b : TableWords) → is_same_table a b ≡ true → a ≡ b
table_equal Settings Settings e = refl
table_equal Settings Papers e = absurd (false≢true e)
table_equal Settings Reviewers e = absurd (false≢true e)
table_equal Settings (Values other_source) e = absurd (false≢true e)
table_equal Settings Bids e = absurd (false≢true e)
table_equal Settings Marks e = absurd (false≢true e)
table_equal Settings Caps e = absurd (false≢true e)
table_equal Papers Settings e = absurd (false≢true e)
table_equal Papers Papers e = refl
table_equal Papers Reviewers e = absurd (false≢true e)
table_equal Papers (Values other_source) e = absurd (false≢true e)
table_equal Papers Bids e = absurd (false≢true e)
table_equal Papers Marks e = absurd (false≢true e)
table_equal Papers Caps e = absurd (false≢true e)
table_equal Reviewers Settings e = absurd (false≢true e)
table_equal Reviewers Papers e = absurd (false≢true e)
table_equal Reviewers Reviewers e = refl
table_equal Reviewers (Values other_source) e = absurd (false≢true e)
table_equal Reviewers Bids e = absurd (false≢true e)
table_equal Reviewers Marks e = absurd (false≢true e)
table_equal Reviewers Caps e = absurd (false≢true e)
table_equal (Values source) Settings e = absurd (false≢true e)
table_equal (Values source) Papers e = absurd (false≢true e)
table_equal (Values source) Reviewers e = absurd (false≢true e)
table_equal (Values source) (Values other_source) e = ap Values ((bytes_eq-Decides source other_source).0 e)
table_equal (Values source) Bids e = absurd (false≢true e)
table_equal (Values source) Marks e = absurd (false≢true e)
table_equal (Values source) Caps e = absurd (false≢true e)
table_equal Bids Settings e = absurd (false≢true e)
table_equal Bids Papers e = absurd (false≢true e)
table_equal Bids Reviewers e = absurd (false≢true e)
table_equal Bids (Values other_source) e = absurd (false≢true e)
table_equal Bids Bids e = refl
table_equal Bids Marks e = absurd (false≢true e)
table_equal Bids Caps e = absurd (false≢true e)
table_equal Marks Settings e = absurd (false≢true e)
table_equal Marks Papers e = absurd (false≢true e)
table_equal Marks Reviewers e = absurd (false≢true e)
table_equal Marks (Values other_source) e = absurd (false≢true e)
table_equal Marks Bids e = absurd (false≢true e)
table_equal Marks Marks e = refl
table_equal Marks Caps e = absurd (false≢true e)
table_equal Caps Settings e = absurd (false≢true e)
table_equal Caps Papers e = absurd (false≢true e)
table_equal Caps Reviewers e = absurd (false≢true e)
table_equal Caps (Values other_source) e = absurd (false≢true e)
table_equal Caps Bids e = absurd (false≢true e)
table_equal Caps Marks e = absurd (false≢true e)
table_equal Caps Caps e = refl

edit_parts : (a b : EditWords) → Decides (is_same_edit a b) (((a.table ≡ b.table) × (a.how ≡ b.how)) × (a.body ≡ b.body))
edit_parts a b =
    Decides-and (is_same_table a.table b.table && is_same_how a.how b.how) (bytes_eq a.body b.body)
    (Decides-and (is_same_table a.table b.table) (is_same_how a.how b.how) (decides is_same_table table_self table_equal a.table b.table) (decides is_same_how how_self how_equal a.how b.how))
    (bytes_eq-Decides a.body b.body)

abbrev made : TableWords → HowWords → List ℕ → EditWords
made table how body = record { table = table; how = how; body = body }

edit_equal : (a b : EditWords) → is_same_edit a b ≡ true → a ≡ b
edit_equal a b e =
    let parts = (edit_parts a b).0 e in
    ap (λ (t : TableWords). made t a.how a.body) parts.0.0 ∙ ap (λ (h : HowWords). made b.table h a.body) parts.0.1 ∙ ap (made b.table b.how) parts.1

edit_self : (a : EditWords) → is_same_edit a a ≡ true
edit_self a = (edit_parts a a).1 ((refl, refl), refl)

numbers : (n m : ℕ) {A : Type 0} (same : A → A → Bool) → ((a : A) → same a a ≡ true) → ((a b : A) → same a b ≡ true → a ≡ b) → (a b : A) → Decides (n == m && same a b) ((n ≡ m) × (a ≡ b))
numbers n m same self equal a b = Decides-and (n == m) (same a b) (Decides-eqb n m) (decides same self equal a b)

text_equal : (a b : List ℕ) → bytes_eq a b ≡ true → a ≡ b
text_equal a b e = (bytes_eq-Decides a b).0 e

command_self : (a : Command) → is_same_command a a ≡ true
command_self (Edit base edit) = (numbers base base is_same_edit edit_self edit_equal edit edit).1 (refl, refl)
command_self (Submit base mode) = (numbers base base is_same_mode mode_self mode_equal mode mode).1 (refl, refl)
command_self (Publish job) = eq_self job
command_self (Draw publication text) = (numbers publication publication bytes_eq bytes_self text_equal text text).1 (refl, refl)

command_equal : (a b : Command) → is_same_command a b ≡ true → a ≡ b
command_equal (Edit base edit) (Edit other_base other_edit) e = let parts = (numbers base other_base is_same_edit edit_self edit_equal edit other_edit).0 e in ap (λ n. Edit n edit) parts.0 ∙ ap (Edit other_base) parts.1
command_equal (Edit base edit) (Submit other_base other_mode) e = absurd (false≢true e)
command_equal (Edit base edit) (Publish other_job) e = absurd (false≢true e)
command_equal (Edit base edit) (Draw other_publication other_text) e = absurd (false≢true e)
command_equal (Submit base mode) (Edit other_base other_edit) e = absurd (false≢true e)
command_equal (Submit base mode) (Submit other_base other_mode) e = let parts = (numbers base other_base is_same_mode mode_self mode_equal mode other_mode).0 e in ap (λ n. Submit n mode) parts.0 ∙ ap (Submit other_base) parts.1
command_equal (Submit base mode) (Publish other_job) e = absurd (false≢true e)
command_equal (Submit base mode) (Draw other_publication other_text) e = absurd (false≢true e)
command_equal (Publish job) (Edit other_base other_edit) e = absurd (false≢true e)
command_equal (Publish job) (Submit other_base other_mode) e = absurd (false≢true e)
command_equal (Publish job) (Publish other_job) e = ap Publish ((Decides-eqb job other_job).0 e)
command_equal (Publish job) (Draw other_publication other_text) e = absurd (false≢true e)
command_equal (Draw publication text) (Edit other_base other_edit) e = absurd (false≢true e)
command_equal (Draw publication text) (Submit other_base other_mode) e = absurd (false≢true e)
command_equal (Draw publication text) (Publish other_job) e = absurd (false≢true e)
command_equal (Draw publication text) (Draw other_publication other_text) e = let parts = (numbers publication other_publication bytes_eq bytes_self text_equal text other_text).0 e in ap (λ n. Draw n text) parts.0 ∙ ap (Draw other_publication) parts.1

pub same_command : (a b : Command) → Decides (is_same_command a b) (a ≡ b)
same_command a b = decides is_same_command command_self command_equal a b
