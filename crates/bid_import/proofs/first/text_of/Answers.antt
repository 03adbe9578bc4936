-- A record is text exactly where each of its fields passes the test.
use Rattle.std.proofs.Common.{inl, inr, subst}
use Rattle.std.specs.List.{list_all}
use Rattle.std.specs.Str.{is_utf8}
use Rattle.std.proofs.lemmas.Bool.{cases_Bool, false≢true}
use Rattle.csv.specs.Records.{fields_of, AllText}
use Rattle.bid_import.proofs.Texts.{all-text, texts-all}
use Rattle.bid_import.proofs.first.text_of.Goals as goal

pub returns-in-Ok : goal.returns-in-Ok
returns-in-Ok c = (c.in-Ok.ensures.same, all-text (fields_of c.args.raw) (subst AllText c.in-Ok.ensures.same c.in-Ok.ensures.text))

pub returns : goal.returns
returns c =
    elim (cases_Bool (list_all is_utf8 (fields_of c.args.raw))) [
      | inl e ↦ absurd (false≢true (c.in-Err.ensures.refused (texts-all (fields_of c.args.raw) e)))
      | inr e ↦ e
    ]
