-- Objects that a text writer is given member by member.
use Rattle.std.proofs.Common.{◌≡◌, ℕ, Bool, true, false, ◌||◌, List, [], ◌∷◌, ◌++◌, refl, sym, ap, ◌∙◌, append_assoc, true≢false}
use Rattle.json.specs.Print.{quoted}
use Rattle.serde_json.specs.Data.{Data, Members, no_members, member, object}
use Rattle.serde_json.specs.Written.{comma_if, compact_text, has_float, members_have_float, members_text}
use Rattle.json_texts.specs.Writing.{Writing, with_closing, with_name, with_opening, with_text}

-- what is there, with these members and the closing brace, is what was there with this value behind it
abbrev pub AreLeft : Members → Writing → Data → Writing → Type 0
AreLeft ms now d old = now.text ++ members_text now.later ms ≡ old.text ++ (comma_if old.later ++ compact_text d)

-- behind the opening brace all are left
pub opened : (ms : Members) (old now : Writing) → now ≡ with_opening 123 old → AreLeft ms now (object ms) old
opened ms old now is =
    ap (λ w. w.text ++ members_text w.later ms) is ∙ append_assoc old.text (comma_if old.later ++ 123 ∷ []) (members_text false ms)
    ∙ ap (λ x. old.text ++ x) (append_assoc (comma_if old.later) (123 ∷ []) (members_text false ms))

-- old text, comma, quoted name, text and rest
regroup : (o c q t r : List ℕ) → ((o ++ (c ++ (q ++ 58 ∷ []))) ++ t) ++ r ≡ o ++ (c ++ (q ++ 58 ∷ (t ++ r)))
regroup o c q t r =
    append_assoc (o ++ (c ++ (q ++ 58 ∷ []))) t r ∙ append_assoc o (c ++ (q ++ 58 ∷ [])) (t ++ r)
    ∙ ap (λ x. o ++ x) (append_assoc c (q ++ 58 ∷ []) (t ++ r) ∙ ap (λ x. c ++ x) (append_assoc q (58 ∷ []) (t ++ r)))

-- a name and a value behind it are one member less
pub one_member : (k : List ℕ) (d : Data) (ms : Members) (now named new : Writing) (whole : Data) (old : Writing) → AreLeft (member k d ms) now whole old → named ≡ with_name k now → new ≡ with_text (compact_text d) named
    → AreLeft ms new whole old
one_member k d ms now named new whole old before name value =
    ap (λ w. w.text ++ members_text w.later ms) (value ∙ ap (with_text (compact_text d)) name) ∙ regroup now.text (comma_if now.later) (quoted k) (compact_text d) (members_text true ms) ∙ before

-- with none left, the closing brace ends the value
pub closed : (now new : Writing) (d : Data) (old : Writing) → AreLeft no_members now d old → new ≡ with_closing 125 now → new ≡ with_text (compact_text d) old
closed now new d old before is = is ∙ (λ i. record { text = before i; later = true })

-- ---- none of which has a float

abbrev IsClean : Members → Type 0
IsClean ms = members_have_float ms ≡ false

neither : (a b : Bool) → (a || b) ≡ false → (a ≡ false) × (b ≡ false)
neither true b h = absurd (true≢false h)
neither false b h = (refl, h)

abbrev pub AreLeftClean : Members → Writing → Members → Writing → Type 0
AreLeftClean left now ms old = IsClean ms → IsClean left × AreLeft left now (object ms) old

pub opened_clean : (ms it : Members) (old now : Writing) → it ≡ ms → now ≡ with_opening 123 old → AreLeftClean it now ms old
opened_clean ms it old now whole is clean = (ap members_have_float whole ∙ clean, ap (λ l. now.text ++ members_text now.later l) whole ∙ opened ms old now is)

pub value_written : (it : Members) (k : List ℕ) (d : Data) (left : Members) → it ≡ member k d left → (now named new : Writing) (ms : Members) (old : Writing) → AreLeftClean it now ms old
    → named ≡ with_name k now → (has_float d ≡ false → new ≡ with_text (compact_text d) named) → AreLeftClean left new ms old
value_written it k d left steps now named new ms old before name value clean =
    let so_far = before clean in
    let both = neither (has_float d) (members_have_float left) (sym (ap members_have_float steps) ∙ so_far.0) in
    (both.1, one_member k d left now named new (object ms) old (sym (ap (λ l. now.text ++ members_text now.later l) steps) ∙ so_far.1) name (value both.0))

pub closed_clean : (it : Members) (now new : Writing) (ms : Members) (old : Writing) → it ≡ no_members → AreLeftClean it now ms old → IsClean ms → new ≡ with_closing 125 now → new ≡ with_text (compact_text (object ms)) old
closed_clean it now new ms old none before clean is = closed now new (object ms) old (sym (ap (λ l. now.text ++ members_text now.later l) none) ∙ (before clean).1) is
