-- The text of a refusal that has a word alone.
use Rattle.std.proofs.Common.{◌≡◌, ℕ, ◌+◌, Bool, List, ◌++◌, length, sym, ap, ◌∙◌, arith, append_assoc, append-nil, length-append}
use Rattle.std.specs.Prelude.{codes, decimal}
use Rattle.http_messages.specs.Replies.{allow_line, close_line, head_text, refusal, refused_body, reply_text, status_lines}
use Rattle.http_messages.specs.declared.replies.MediaType.TheVariants.{Json}

length-body : (word : List ℕ) → length word + 14 ≡ length (refused_body word)
unfolding refused_body
length-body word = simp length-append (omega arith)

-- the head and the parts of the body, one behind the other
refusal_parts : (head word : List ℕ) → ((head ++ codes "{\"refused\":\"") ++ word) ++ codes "\"}" ≡ head ++ refused_body word
unfolding refused_body
refusal_parts head word = append_assoc _ word _ ∙ append_assoc head _ _ ∙ ap (λ (t : List ℕ). head ++ t) (sym (append_assoc (codes "{\"refused\":\"") word (codes "\"}")))

pub refusal_is : (status : ℕ) (word : List ℕ) (closes : Bool)
    → (((((((status_lines status Json ++ codes "Content-Length: ") ++ decimal (length word + 14)) ++ codes "\r\n") ++ close_line closes) ++ codes "\r\n") ++ codes "{\"refused\":\"") ++ word) ++ codes "\"}"
    ≡ reply_text (refusal status word) closes
unfolding head_text allow_line
refusal_is status word closes =
    let here = (status_lines status Json ++ codes "Content-Length: ") ++ decimal (length (refused_body word)) in
    ap (λ (n : ℕ). ((((((((status_lines status Json ++ codes "Content-Length: ") ++ decimal n) ++ codes "\r\n") ++ close_line closes) ++ codes "\r\n") ++ codes "{\"refused\":\"") ++ word) ++ codes "\"}")) (length-body word)
    ∙ refusal_parts _ word
    ∙ ap (λ (t : List ℕ). ((t ++ close_line closes) ++ codes "\r\n") ++ refused_body word) (sym (append-nil (here ++ codes "\r\n")))
