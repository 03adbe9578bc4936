-- What comes back of a history when a desk is opened again from its rows.
use Rattle.std.specs.Prelude.{◌≡◌, ℕ, true, List, [], ◌∷◌, All, Option, None}
use Rattle.publication.specs.declared.certificate.Certificate.{Certificate}
use Rattle.desk_keeper.specs.Names.{is_chair_name}
use Rattle.desk_keeper.specs.declared.words.Command.{Command}
use Rattle.desk_keeper.specs.declared.words.Command.TheVariants.{Edit, Submit, Publish, Draw}
use Rattle.desk_history.specs.declared.entries.Entry.TheVariants.{Accepted}
use Rattle.desk_history.specs.Histories.{History}
use Rattle.desk_history.specs.Rows.{publishes}

-- names such as chairs have
abbrev pub AreNames : List (List ℕ) → Type 0
AreNames chairs = All (λ name. is_chair_name name ≡ true) chairs

-- what is read back with a command from its row: a publish brings the rules and the lottery that it published
abbrev pub read_back : History → Command → Option Certificate → Option Certificate
read_back H (Publish job) read = publishes H job read
read_back H (Edit base edit) read = None
read_back H (Submit base mode) read = None
read_back H (Draw publication text) read = None

-- the history that comes back from the rows of another: its accepted commands, each with what its row brings
abbrev pub reopened : History → History
reopened [] = []
reopened (Accepted caller number command reply read ∷ H) = Accepted caller number command reply (read_back H command read) ∷ reopened H
reopened (entry ∷ H) = reopened H
