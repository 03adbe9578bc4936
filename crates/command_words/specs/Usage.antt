-- The usage text.
use Rattle.std.specs.Prelude.{ℕ, List, codes}

unfoldable pub usage_text : List ℕ
usage_text = codes "usage: matcher check\n       matcher rules\n       matcher solve whole|fair\n       matcher session CHAIR...\n       matcher report shares|loads|papers|institutions\n       matcher report ticket NUMBER\n       matcher make SEED SIZE\n"
