-- What stands at the front stays there when bytes come behind.
use Rattle.std.proofs.Common.{◌≡◌, ℕ, ◌+◌, ◌-◌, ◌<◌, ◌≤◌, ◌&&◌, Bool, true, false, List, [], ◌∷◌, ◌++◌, length, take, drop, Option, None, Some, Result, Ok, Err, refl, ap, sym, subst, ◌∙◌, arith, length-append, length-drop}
use Rattle.std.specs.Prelude.{nat_le, nat_lt}
use Rattle.std.proofs.lemmas.Bool.{false≢true, leb-true, le-leb}
use Rattle.std.proofs.lemmas.List.{take-append-le, drop-append-le, drop-drop}
use Rattle.http_messages.specs.Requests.{RequestValue}
use Rattle.httparse.proofs.GrammarLemmas.{request_unique}
use Rattle.http_framing.specs.declared.blanks.TheConstants.{MOST_HEAD_BYTES}
use Rattle.http_framing.specs.declared.fault.FrameFault.{FrameFault}
use Rattle.http_framing.specs.declared.fault.FrameFault.TheVariants.{HeadTooLarge, StreamTooLarge, Truncated}
use Rattle.http_framing.specs.Heads.{HeadValue, IsRead, blank_length, head_bytes, head_end, skip_blank, value_of_head}
use Rattle.http_framing.specs.HeadTests.{asks_continue, body_length, ends_stream}
use Rattle.http_framing.specs.Fronts.{Front, refused, whole, HasFront, behind_head, between, continues, front_at, front_of, in_body, in_head, is_settled, partly, request_of, tested}
use Rattle.http_framing.proofs.StayLaws.{bytes_stay, end_stays, no_bytes_stay, no_end_stays, skip_stays}

-- ---- one reading, one front

pub one_reading : (bytes : List ℕ) (a b : Option HeadValue) → IsRead bytes a → IsRead bytes b → a ≡ b
one_reading bytes None None x y = refl
one_reading bytes None (Some b) x (k, y, e) = absurd (x k y)
one_reading bytes (Some a) None (h, x, e) y = absurd (y h x)
one_reading bytes (Some a) (Some b) (h, x, e) (k, y, f) =
    let same = (request_unique bytes h k [] [] x.reads y.reads).0 in
    ap Some (e ∙ ap value_of_head same ∙ sym f)

pub one_front : (room : ℕ) (over : Bool) (bytes : List ℕ) (a b : Front) → HasFront room over bytes a → HasFront room over bytes b → a ≡ b
one_front room over bytes a b (r, x, e) (s, y, f) =
    e ∙ ap (λ (o : Option HeadValue). front_of room over bytes o) (one_reading (head_bytes bytes) r s x y) ∙ sym f

-- ---- where a head has ended

ended : (room : ℕ) (over : Bool) (bytes rest : List ℕ) (byte end : ℕ) (read : Option HeadValue) → skip_blank bytes ≡ byte ∷ rest → head_end (byte ∷ rest) ≡ Some end
    → front_of room over bytes read ≡ behind_head (nat_le room (length bytes)) over (nat_lt (blank_length bytes + end) room) read (drop end (byte ∷ rest))
ended room over bytes rest byte end read s e =
    ap (λ (r : List ℕ). front_at room over bytes read r (head_end r)) s ∙ ap (λ (o : Option ℕ). front_at room over bytes read (byte ∷ rest) o) e

ended_more : (room : ℕ) (over : Bool) (bytes more rest : List ℕ) (byte end : ℕ) (read : Option HeadValue) → skip_blank bytes ≡ byte ∷ rest → head_end (byte ∷ rest) ≡ Some end
    → front_of room over (bytes ++ more) read ≡ behind_head (nat_le room (length (bytes ++ more))) over (nat_lt (blank_length bytes + end) room) read (drop end (byte ∷ rest) ++ more)
ended_more room over bytes more rest byte end read s e =
    let skipped = skip_stays bytes more rest byte s in
    let same = end_stays (byte ∷ rest) more end e in
    ended room over (bytes ++ more) (rest ++ more) byte end read skipped.1 same.0
    ∙ ap (λ (n : ℕ). behind_head (nat_le room (length (bytes ++ more))) over (nat_lt (n + end) room) read (drop end (byte ∷ (rest ++ more)))) skipped.0
    ∙ ap (λ (t : List ℕ). behind_head (nat_le room (length (bytes ++ more))) over (nat_lt (blank_length bytes + end) room) read t) (drop-append-le end (byte ∷ rest) more same.2)

-- ---- requests

partly_not_whole : (f o c : Bool) (q : RequestValue) (due ends : Bool) (rest : List ℕ) → partly f o c ≡ whole q due ends rest → ⊥
partly_not_whole true o c q due ends rest e = cc
partly_not_whole false true c q due ends rest e = cc
partly_not_whole false false c q due ends rest e = cc

between_not_whole : (f o : Bool) (q : RequestValue) (due ends : Bool) (rest : List ℕ) → between f o ≡ whole q due ends rest → ⊥
between_not_whole true o q due ends rest e = cc
between_not_whole false true q due ends rest e = cc
between_not_whole false false q due ends rest e = cc

in_head_not_whole : (f o : Bool) (count : ℕ) (q : RequestValue) (due ends : Bool) (rest : List ℕ) → in_head f o count ≡ whole q due ends rest → ⊥
in_head_not_whole f o count q due ends rest e = by_size (nat_le MOST_HEAD_BYTES count) refl
  where
    by_size : (z : Bool) → nat_le MOST_HEAD_BYTES count ≡ z → ⊥
    by_size true t =
        let found : refused HeadTooLarge false ≡ whole q due ends rest = rw t at e in
        cc
    by_size false t =
        let found : partly f o false ≡ whole q due ends rest = rw t at e in
        partly_not_whole f o false q due ends rest found

in_body_whole : (f o g p c : Bool) (head : HeadValue) (count : ℕ) (behind more : List ℕ) (q : RequestValue) (due ends : Bool) (rest : List ℕ)
    → in_body f o c head count behind ≡ whole q due ends rest → (in_body g p c head count (behind ++ more) ≡ whole q due ends (rest ++ more)) × (rest ≡ drop count behind) × (count ≤ length behind)
in_body_whole f o g p c head count behind more q due ends rest e = by_room (nat_le count (length behind)) refl
  where
    by_room : (z : Bool) → nat_le count (length behind) ≡ z → (in_body g p c head count (behind ++ more) ≡ whole q due ends (rest ++ more)) × (rest ≡ drop count behind) × (count ≤ length behind)
    by_room true t =
        let found : whole (request_of head (take count behind)) c (ends_stream head) (drop count behind) ≡ whole q due ends rest = rw t at e in
        let le : count ≤ length behind = leb-true _ _ t in
        let fits : nat_le count (length (behind ++ more)) ≡ true = le-leb _ _ (omega (arith, le, length-append behind more)) in
        let taken = take-append-le count behind more le in
        let left = drop-append-le count behind more le in
        let last : drop count behind ≡ rest = cc in
        (rw (fits, taken, left) (cc), sym last, le)
    by_room false t =
        let found : partly f o c ≡ whole q due ends rest = rw t at e in
        absurd (partly_not_whole f o c q due ends rest found)

-- the front of the body is `count` bytes
abbrev Whole : Bool → Bool → Bool → Option HeadValue → List ℕ → List ℕ → RequestValue → Bool → Bool → List ℕ → Type 0
Whole g p m read behind more q due ends rest =
    (behind_head g p m read (behind ++ more) ≡ whole q due ends (rest ++ more)) × ((count : ℕ) × (rest ≡ drop count behind) × (count ≤ length behind))

tested_whole : (f o g p c : Bool) (head : HeadValue) (r : Result ℕ FrameFault) (behind more : List ℕ) (q : RequestValue) (due ends : Bool) (rest : List ℕ)
    → tested f o c head r behind ≡ whole q due ends rest → (tested g p c head r (behind ++ more) ≡ whole q due ends (rest ++ more)) × ((count : ℕ) × (rest ≡ drop count behind) × (count ≤ length behind))
tested_whole f o g p c head (Err fault) behind more q due ends rest e = absurd cc
tested_whole f o g p c head (Ok count) behind more q due ends rest e =
    let found = in_body_whole f o g p c head count behind more q due ends rest e in
    (found.0, (count, found.1, found.2))

behind_whole : (f o g p m : Bool) (read : Option HeadValue) (behind more : List ℕ) (q : RequestValue) (due ends : Bool) (rest : List ℕ)
    → behind_head f o m read behind ≡ whole q due ends rest → Whole g p m read behind more q due ends rest
behind_whole f o g p m None behind more q due ends rest e = absurd cc
behind_whole f o g p m (Some head) behind more q due ends rest e =
    tested_whole f o g p (asks_continue head && m) head (body_length head) behind more q due ends rest e

-- a request has a head that has ended
ended_if_whole : (room : ℕ) (over : Bool) (bytes : List ℕ) (read : Option HeadValue) (r : List ℕ) (o : Option ℕ) (q : RequestValue) (due ends : Bool) (rest : List ℕ)
    → front_at room over bytes read r o ≡ whole q due ends rest → (byte : ℕ) × (rs : List ℕ) × (end : ℕ) × (r ≡ byte ∷ rs) × (o ≡ Some end)
ended_if_whole room over bytes read [] o q due ends rest e = absurd (between_not_whole _ over q due ends rest e)
ended_if_whole room over bytes read (byte ∷ rs) None q due ends rest e = absurd (in_head_not_whole _ over _ q due ends rest e)
ended_if_whole room over bytes read (byte ∷ rs) (Some end) q due ends rest e = (byte, rs, end, refl, refl)

pub request_stays : (room : ℕ) (over later : Bool) (bytes more : List ℕ) (q : RequestValue) (due ends : Bool) (rest : List ℕ)
    → HasFront room over bytes (whole q due ends rest) → HasFront room later (bytes ++ more) (whole q due ends (rest ++ more))
request_stays room over later bytes more q due ends rest (read, is, e) =
    let at = ended_if_whole room over bytes read (skip_blank bytes) (head_end (skip_blank bytes)) q due ends rest (sym e) in
    let here : head_end (at.0 ∷ at.1) ≡ Some at.2 = ap head_end (sym at.3) ∙ at.4 in
    let found = behind_whole _ over (nat_le room (length (bytes ++ more))) later _ read (drop at.2 (at.0 ∷ at.1)) more q due ends rest (sym (ended room over bytes at.1 at.0 at.2 read at.3 here) ∙ sym e) in
    (read, subst (λ (t : List ℕ). IsRead t read) (sym (bytes_stay bytes more at.1 at.0 at.2 at.3 here)) is, sym (ended_more room later bytes more at.1 at.0 at.2 read at.3 here ∙ found.0))

-- a request takes bytes from the front
pub request_takes : (room : ℕ) (over : Bool) (bytes : List ℕ) (q : RequestValue) (due ends : Bool) (rest : List ℕ)
    → HasFront room over bytes (whole q due ends rest) → (used : ℕ) × (0 < used) × (used ≤ length bytes) × (rest ≡ drop used bytes)
request_takes room over bytes q due ends rest (read, is, e) =
    let at = ended_if_whole room over bytes read (skip_blank bytes) (head_end (skip_blank bytes)) q due ends rest (sym e) in
    let here : head_end (at.0 ∷ at.1) ≡ Some at.2 = ap head_end (sym at.3) ∙ at.4 in
    let size = end_stays (at.0 ∷ at.1) [] at.2 here in
    let found = behind_whole _ over false over _ read (drop at.2 (at.0 ∷ at.1)) [] q due ends rest (sym (ended room over bytes at.1 at.0 at.2 read at.3 here) ∙ sym e) in
    let count = found.1.0 in
    let all : rest ≡ drop (blank_length bytes + at.2 + count) bytes =
    found.1.1 ∙ ap (λ (t : List ℕ). drop count (drop at.2 t)) (sym at.3) ∙ ap (drop count) (drop-drop at.2 (blank_length bytes) bytes) ∙ drop-drop count (blank_length bytes + at.2) bytes in
    let skipped : length (at.0 ∷ at.1) ≡ length bytes - blank_length bytes = ap length (sym at.3) ∙ length-drop (blank_length bytes) bytes in
    (blank_length bytes + at.2 + count, omega (arith, size.1), omega (arith, size.1, size.2, found.1.2, skipped, length-drop at.2 (at.0 ∷ at.1)), all)

-- ---- refusals

partly_not_settled : (f o c : Bool) (fault : FrameFault) (due : Bool) → partly f o c ≡ refused fault due → is_settled fault ≡ true → ⊥
partly_not_settled true o c fault due e s =
    let same : StreamTooLarge ≡ fault = cc in
    false≢true (ap is_settled same ∙ s)
partly_not_settled false true c fault due e s =
    let same : Truncated ≡ fault = cc in
    false≢true (ap is_settled same ∙ s)
partly_not_settled false false c fault due e s = cc

between_not_settled : (f o : Bool) (fault : FrameFault) (due : Bool) → between f o ≡ refused fault due → is_settled fault ≡ true → ⊥
between_not_settled true o fault due e s =
    let same : StreamTooLarge ≡ fault = cc in
    false≢true (ap is_settled same ∙ s)
between_not_settled false true fault due e s = cc
between_not_settled false false fault due e s = cc

in_head_refused : (f o g p : Bool) (count more : ℕ) (fault : FrameFault) (due : Bool) → count ≤ more → in_head f o count ≡ refused fault due → is_settled fault ≡ true
    → (in_head g p more ≡ refused fault due) × (MOST_HEAD_BYTES ≤ count)
in_head_refused f o g p count more fault due le e s = by_size (nat_le MOST_HEAD_BYTES count) refl
  where
    by_size : (z : Bool) → nat_le MOST_HEAD_BYTES count ≡ z → (in_head g p more ≡ refused fault due) × (MOST_HEAD_BYTES ≤ count)
    by_size true t =
        let found : refused HeadTooLarge false ≡ refused fault due = rw t at e in
        let all : MOST_HEAD_BYTES ≤ count = leb-true _ _ t in
        let then : nat_le MOST_HEAD_BYTES more ≡ true = le-leb _ _ (omega (arith, all, le)) in
        (rw then found, all)
    by_size false t =
        let found : partly f o false ≡ refused fault due = rw t at e in
        absurd (partly_not_settled f o false fault due found s)

in_body_not_settled : (f o c : Bool) (head : HeadValue) (count : ℕ) (behind : List ℕ) (fault : FrameFault) (due : Bool) → in_body f o c head count behind ≡ refused fault due → is_settled fault ≡ true → ⊥
in_body_not_settled f o c head count behind fault due e s = by_room (nat_le count (length behind)) refl
  where
    by_room : (z : Bool) → nat_le count (length behind) ≡ z → ⊥
    by_room true t =
        let found : whole (request_of head (take count behind)) c (ends_stream head) (drop count behind) ≡ refused fault due = rw t at e in
        cc
    by_room false t =
        let found : partly f o c ≡ refused fault due = rw t at e in
        partly_not_settled f o c fault due found s

tested_refused : (f o g p c : Bool) (head : HeadValue) (r : Result ℕ FrameFault) (behind more : List ℕ) (fault : FrameFault) (due : Bool)
    → tested f o c head r behind ≡ refused fault due → is_settled fault ≡ true → tested g p c head r (behind ++ more) ≡ refused fault due
tested_refused f o g p c head (Err wrong) behind more fault due e s = e
tested_refused f o g p c head (Ok count) behind more fault due e s = absurd (in_body_not_settled f o c head count behind fault due e s)

behind_refused : (f o g p m : Bool) (read : Option HeadValue) (behind more : List ℕ) (fault : FrameFault) (due : Bool)
    → behind_head f o m read behind ≡ refused fault due → is_settled fault ≡ true → behind_head g p m read (behind ++ more) ≡ refused fault due
behind_refused f o g p m None behind more fault due e s = e
behind_refused f o g p m (Some head) behind more fault due e s = tested_refused f o g p (asks_continue head && m) head (body_length head) behind more fault due e s

refused_at : (room : ℕ) (over later : Bool) (bytes more : List ℕ) (read : Option HeadValue) (r : List ℕ) (o : Option ℕ) (fault : FrameFault) (due : Bool)
    → skip_blank bytes ≡ r → head_end r ≡ o → front_at room over bytes read r o ≡ refused fault due → is_settled fault ≡ true
    → (front_of room later (bytes ++ more) read ≡ refused fault due) × (head_bytes (bytes ++ more) ≡ head_bytes bytes)
refused_at room over later bytes more read [] o fault due s h e settled = absurd (between_not_settled _ over fault due e settled)
refused_at room over later bytes more read (byte ∷ rs) None fault due s h e settled =
    let found = in_head_refused _ over (nat_le room (length (bytes ++ more))) later (length (byte ∷ rs)) (length (byte ∷ (rs ++ more))) fault due (omega (arith, length-append rs more)) e settled in
    let skipped = skip_stays bytes more rs byte s in
    let none : head_end (byte ∷ (rs ++ more)) ≡ None = no_end_stays (byte ∷ rs) more found.1 ∙ h in
    (ap (λ (t : List ℕ). front_at room later (bytes ++ more) read t (head_end t)) skipped.1 ∙ ap (λ (o : Option ℕ). front_at room later (bytes ++ more) read (byte ∷ (rs ++ more)) o) none ∙ found.0, no_bytes_stay bytes more rs byte s h found.1)
refused_at room over later bytes more read (byte ∷ rs) (Some end) fault due s h e settled =
    (ended_more room later bytes more rs byte end read s h ∙ behind_refused _ over _ later _ read (drop end (byte ∷ rs)) more fault due e settled, bytes_stay bytes more rs byte end s h)

pub refusal_stays : (room : ℕ) (over later : Bool) (bytes more : List ℕ) (fault : FrameFault) (due : Bool)
    → HasFront room over bytes (refused fault due) → is_settled fault ≡ true → HasFront room later (bytes ++ more) (refused fault due)
refusal_stays room over later bytes more fault due (read, is, e) settled =
    let found = refused_at room over later bytes more read (skip_blank bytes) (head_end (skip_blank bytes)) fault due refl refl (sym e) settled in
    (read, subst (λ (t : List ℕ). IsRead t read) (sym found.1) is, sym found.0)

-- ---- the continue

continues_partly : (f o c : Bool) → continues (partly f o c) ≡ c
continues_partly true o c = refl
continues_partly false true c = refl
continues_partly false false c = refl

continues_in_body : (f o c : Bool) (head : HeadValue) (count : ℕ) (behind : List ℕ) → continues (in_body f o c head count behind) ≡ c
continues_in_body f o c head count behind = by_room (nat_le count (length behind)) refl
  where
    by_room : (z : Bool) → nat_le count (length behind) ≡ z → continues (in_body f o c head count behind) ≡ c
    by_room true t = rw t refl
    by_room false t = rw t (continues_partly f o c)

continues_tested : (f o g p c : Bool) (head : HeadValue) (r : Result ℕ FrameFault) (behind other : List ℕ) → continues (tested f o c head r behind) ≡ continues (tested g p c head r other)
continues_tested f o g p c head (Err fault) behind other = refl
continues_tested f o g p c head (Ok count) behind other = continues_in_body f o c head count behind ∙ sym (continues_in_body g p c head count other)

continues_behind : (f o g p m : Bool) (read : Option HeadValue) (behind other : List ℕ) → continues (behind_head f o m read behind) ≡ continues (behind_head g p m read other)
continues_behind f o g p m None behind other = refl
continues_behind f o g p m (Some head) behind other = continues_tested f o g p (asks_continue head && m) head (body_length head) behind other

continue_at : (room : ℕ) (over later : Bool) (bytes more : List ℕ) (read : Option HeadValue) (r : List ℕ) (end : ℕ)
    → skip_blank bytes ≡ r → head_end r ≡ Some end → (continues (front_of room over bytes read) ≡ continues (front_of room later (bytes ++ more) read)) × (head_bytes (bytes ++ more) ≡ head_bytes bytes)
continue_at room over later bytes more read [] end s h = absurd cc
continue_at room over later bytes more read (byte ∷ rs) end s h =
    (ap continues (ended room over bytes rs byte end read s h) ∙ continues_behind _ over _ later _ read _ _ ∙ ap continues (sym (ended_more room later bytes more rs byte end read s h)), bytes_stay bytes more rs byte end s h)

pub continue_stays : (room : ℕ) (over later : Bool) (bytes more : List ℕ) (end : ℕ) (a b : Front)
    → head_end (skip_blank bytes) ≡ Some end → HasFront room over bytes a → HasFront room later (bytes ++ more) b → continues a ≡ continues b
continue_stays room over later bytes more end a b h (r, x, e) (s, y, f) =
    let found = continue_at room over later bytes more r (skip_blank bytes) end refl h in
    let same : s ≡ r = one_reading (head_bytes bytes) s r (subst (λ (t : List ℕ). IsRead t s) found.1 y) x in
    ap continues e ∙ found.0 ∙ ap (λ (o : Option HeadValue). continues (front_of room later (bytes ++ more) o)) (sym same) ∙ ap continues (sym f)

-- the bytes of a head that has ended
pub head_stays : (bytes more : List ℕ) (end : ℕ) → head_end (skip_blank bytes) ≡ Some end
    → (blank_length (bytes ++ more) ≡ blank_length bytes) × (head_end (skip_blank (bytes ++ more)) ≡ Some end) × (head_bytes (bytes ++ more) ≡ head_bytes bytes)
head_stays bytes more end h = by_rest (skip_blank bytes) refl h
  where
    by_rest : (r : List ℕ) → skip_blank bytes ≡ r → head_end r ≡ Some end
        → (blank_length (bytes ++ more) ≡ blank_length bytes) × (head_end (skip_blank (bytes ++ more)) ≡ Some end) × (head_bytes (bytes ++ more) ≡ head_bytes bytes)
    by_rest [] s e = absurd cc
    by_rest (byte ∷ rs) s e =
        let skipped = skip_stays bytes more rs byte s in
        (skipped.0, ap head_end skipped.1 ∙ (end_stays (byte ∷ rs) more end e).0, bytes_stay bytes more rs byte end s e)
