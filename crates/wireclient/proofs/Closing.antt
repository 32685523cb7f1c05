-- Where a bad byte was emitted, or the end, nothing more is.
use Rattle.std.proofs.Common.{◌≡◌, ℕ, ◌-◌, Bool, true, false, cond, leb, ltb, List, [], ◌∷◌, ◌++◌, length, Option, Some, None, refl, sym, ap, ap₂, ◌∙◌}
use Rattle.std.specs.Prelude.{◌&&◌, ◌||◌, ◌==◌, ◌+◌}
use Rattle.std.specs.Char.{is_ascii_hexdigit, digit_value}
use Rattle.std.specs.List.{list_any}
use Rattle.wireclient.specs.Reads.{Reaches, has_malformed, has_closed}
use Rattle.wire.specs.declared.place.ScanState.{ScanState}
use Rattle.wire.specs.Heads.{max_head, place_after}
use Rattle.wireclient.specs.Reply.{by_length, by_chunks, HeadCheck, ReplyItem, head, whole, line, end, malformed, is_malformed, is_last, State, heading, body, size, size_lf, data_in, data_cr, data_lf, last_cr, last_lf, ended, broken, max_line, Next, fails, goes_to, begun, headed, data_after, digit_onto, step}
use Rattle.wireclient.proofs.Lengthened.{after_broken, after_end}

-- after a bad byte; or, where e, after that or the end
abbrev pub is_after : Bool → State → Bool
is_after e ended = e
is_after e broken = true
is_after e _ = false

abbrev emits : Bool → ReplyItem → Bool
emits e end = e
emits e malformed = true
emits e _ = false

abbrev any : Bool → List ReplyItem → Bool
any e items = list_any (emits e) items

abbrev Agrees : Bool → Next → Type 0
Agrees e n = is_after e n.0 ≡ any e n.1

or_false : (a : Bool) → a ≡ (a || false)
or_false true = refl
or_false false = refl

or_assoc : (a b c : Bool) → ((a || b) || c) ≡ (a || (b || c))
or_assoc true b c = refl
or_assoc false b c = refl

any_append : (e : Bool) (xs ys : List ReplyItem) → any e (xs ++ ys) ≡ (any e xs || any e ys)
any_append e [] ys = refl
any_append e (x ∷ xs) ys = ap (λ (t : Bool). emits e x || t) (any_append e xs ys) ∙ sym (or_assoc (emits e x) (any e xs) (any e ys))

either : (e t : Bool) (n m : Next) → Agrees e n → Agrees e m → Agrees e (cond t n m)
either e true n m one other = one
either e false n m one other = other

-- ---- one byte

begun_emitted : (e : Bool) (j : HeadCheck) → Agrees e (begun j)
begun_emitted e None = refl
begun_emitted e (Some (status, by_length n)) = either e (n == 0) (ended, head status ∷ whole [] ∷ end ∷ []) (body n [], head status ∷ []) (or_false e) refl
begun_emitted e (Some (status, by_chunks)) = refl

headed_emitted : (e : Bool) (j : HeadCheck) (bytes : List ℕ) (o : Option ScanState) → Agrees e (headed j bytes o)
headed_emitted e j bytes None = begun_emitted e j
headed_emitted e j bytes (Some p) = refl

data_open : (e t : Bool) (left : ℕ) (text : List ℕ) → is_after e (cond t (data_cr text) (data_in left text)) ≡ false
data_open e true left text = refl
data_open e false left text = refl

sized_open : (e t : Bool) (value : ℕ) (text : List ℕ) → is_after e (cond t (last_cr text) (data_in value text)) ≡ false
sized_open e true value text = refl
sized_open e false value text = refl

step_emitted : (e : Bool) (s : State) (j : HeadCheck) (b : ℕ) → is_after e (step j s b).0 ≡ (is_after e s || any e (step j s b).1)
step_emitted e (heading bytes p) j b = either e (leb max_head (length bytes)) fails (headed j (bytes ++ b ∷ []) (place_after p b)) refl (headed_emitted e j (bytes ++ b ∷ []) (place_after p b))
step_emitted e (body left bytes) j b = either e (leb left 1) (ended, whole (bytes ++ b ∷ []) ∷ end ∷ []) (goes_to (body (left - 1) (bytes ++ b ∷ []))) (or_false e) refl
step_emitted e (size count value text) j b =
    either e (is_ascii_hexdigit b && ltb count 16) (goes_to (size (count + 1) (digit_onto value (digit_value b)) text)) (cond (b == 13 && ltb 0 count) (goes_to (size_lf value text)) fails) refl
    (either e (b == 13 && ltb 0 count) (goes_to (size_lf value text)) fails refl refl)
step_emitted e (size_lf value text) j b = either e (b == 10) (goes_to (cond (value == 0) (last_cr text) (data_in value text))) fails (sized_open e (value == 0) value text) refl
step_emitted e (data_in left text) j b =
    either e (leb max_line (length text)) fails (cond (b == 10) (data_after (left - 1) [], line text ∷ []) (goes_to (data_after (left - 1) (text ++ b ∷ [])))) refl
    (either e (b == 10) (data_after (left - 1) [], line text ∷ []) (goes_to (data_after (left - 1) (text ++ b ∷ []))) (data_open e (left - 1 == 0) (left - 1) []) (data_open e (left - 1 == 0) (left - 1) (text ++ b ∷ [])))
step_emitted e (data_cr text) j b = either e (b == 13) (goes_to (data_lf text)) fails refl refl
step_emitted e (data_lf text) j b = either e (b == 10) (goes_to (size 0 0 text)) fails refl refl
step_emitted e (last_cr text) j b = either e (b == 13) (goes_to (last_lf text)) fails refl refl
step_emitted e (last_lf text) j b = either e (b == 10 && length text == 0) (ended, end ∷ []) fails (or_false e) refl
step_emitted e ended j b = or_false e
step_emitted e broken j b = refl

-- ---- many

reaches_emitted : (e : Bool) (s t : State) (bytes : List ℕ) (items : List ReplyItem) → Reaches s bytes t items → is_after e t ≡ (is_after e s || any e items)
reaches_emitted e s t [] items reaches = ap (is_after e) reaches.0 ∙ or_false (is_after e s) ∙ ap (λ (emitted : List ReplyItem). is_after e s || any e emitted) (sym reaches.1)
reaches_emitted e s t (b ∷ bytes) items reaches =
    reaches_emitted e (step reaches.0 s b).0 t bytes reaches.1 reaches.3
    ∙ ap (λ (a : Bool). a || any e reaches.1) (step_emitted e s reaches.0 b)
    ∙ or_assoc (is_after e s) (any e (step reaches.0 s b).1) (any e reaches.1)
    ∙ ap (λ (a : Bool). is_after e s || a) (sym (any_append e (step reaches.0 s b).1 reaches.1))
    ∙ ap (λ (emitted : List ReplyItem). is_after e s || any e emitted) (sym reaches.4)

same_any : (e : Bool) (p : ReplyItem → Bool) → ((x : ReplyItem) → emits e x ≡ p x) → (items : List ReplyItem) → any e items ≡ list_any p items
same_any e p same [] = refl
same_any e p same (x ∷ items) = ap₂ (λ (a c : Bool). a || c) (same x) (same_any e p same items)

malformed_emits : (x : ReplyItem) → emits false x ≡ is_malformed x
malformed_emits (head n) = refl
malformed_emits (whole bytes) = refl
malformed_emits (line text) = refl
malformed_emits end = refl
malformed_emits malformed = refl

last_emits : (x : ReplyItem) → emits true x ≡ is_last x
last_emits (head n) = refl
last_emits (whole bytes) = refl
last_emits (line text) = refl
last_emits end = refl
last_emits malformed = refl

-- a bad byte was emitted just where the reading is broken
pub broken_emitted : (s t : State) (bytes : List ℕ) (items : List ReplyItem) → Reaches s bytes t items → is_after false t ≡ (is_after false s || has_malformed items)
broken_emitted s t bytes items reaches = reaches_emitted false s t bytes items reaches ∙ ap (λ (a : Bool). is_after false s || a) (same_any false is_malformed malformed_emits items)

pub closed_emitted : (s t : State) (bytes : List ℕ) (items : List ReplyItem) → Reaches s bytes t items → is_after true t ≡ (is_after true s || has_closed items)
closed_emitted s t bytes items reaches = reaches_emitted true s t bytes items reaches ∙ ap (λ (a : Bool). is_after true s || a) (same_any true is_last last_emits items)

pub after_last : (s : State) (bytes : List ℕ) → is_after true s ≡ true → Reaches s bytes s []
after_last ended bytes is = after_end bytes
after_last broken bytes is = after_broken bytes
after_last (heading xs p) bytes is = absurd cc
after_last (body left xs) bytes is = absurd cc
after_last (size count value text) bytes is = absurd cc
after_last (size_lf value text) bytes is = absurd cc
after_last (data_in left text) bytes is = absurd cc
after_last (data_cr text) bytes is = absurd cc
after_last (data_lf text) bytes is = absurd cc
after_last (last_cr text) bytes is = absurd cc
after_last (last_lf text) bytes is = absurd cc
