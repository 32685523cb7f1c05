-- What a line asks, and the answer to it.
use Rattle.std.proofs.Common.{◌≡◌, ◌≢◌, ◌∙◌, ℕ, Bool, true, false, cond, ap, sym, refl, inl, inr, List, [], ◌∷◌, ◌++◌, codes, Option, Some, None, append-nil}
use Rattle.std.specs.List.{flat_map}
use Rattle.std.specs.Str.{IsUtf8, is_utf8}
use Rattle.std.proofs.lemmas.Grind.{flat_map-append}
use Rattle.std.proofs.lemmas.Str.{IsUtf8-from_is_utf8, is_utf8-from_IsUtf8}
use Rattle.world_laws.specs.Tasks.{Task}
use Rattle.world_laws.specs.World.{World}
use Rattle.scripts.specs.Asking.{Question, asked_of, asked_on}
use Rattle.scripts.specs.Piped.{Answered, IsBad, Part, bad_text, done, number_text, other_by, other_parts, part_text}

pub asked_text : (line : List ℕ) → IsUtf8 line → asked_on line ≡ asked_of line
asked_text line text = ap (λ (b : Bool). cond b (asked_of line) None) (is_utf8-from_IsUtf8 line text)

pub asked_nothing : (line : List ℕ) → (IsUtf8 line → ⊥) → asked_on line ≡ None
asked_nothing line none = go (is_utf8 line) (λ is. none (IsUtf8-from_is_utf8 line is))
  where
    go : (b : Bool) → (b ≡ true → ⊥) → cond b (asked_of line) None ≡ None
    go true isnt = absurd (isnt refl)
    go false isnt = refl

pub asked_emitted : (parts : List Part) (n : ℕ) → flat_map part_text parts ++ number_text (codes "done") n ≡ flat_map part_text (parts ++ done n ∷ [])
asked_emitted parts n =
    let last : List ℕ = number_text (codes "done") n in
    sym (flat_map-append part_text parts (done n ∷ []) ∙ ap (λ (t : List ℕ). flat_map part_text parts ++ t) (append-nil last))

-- a line of no event is answered by what it asks
pub other_answered : (task : Task) (n : ℕ) (w : World) (line why : List ℕ) (o : Option Question) → asked_on line ≡ o → line ≢ [] → IsBad line → Answered task n w line (other_by o n w why) n w
other_answered task n w line why None is filled bad = inr (inl (record { filled = filled; is_bad = bad; unasked = is; why = why; emitted = refl; count = refl; same = refl }))
other_answered task n w line why (Some question) is filled bad =
    inr (inr (inl (record { filled = filled; is_bad = bad; question = question; asked = is; emitted = refl; count = refl; same = refl })))

pub other_bad : (n : ℕ) (w : World) (line why : List ℕ) → asked_on line ≡ None → bad_text n why ≡ flat_map part_text (other_parts n w line why)
other_bad n w line why is = sym (append-nil (bad_text n why)) ∙ ap (λ (o : Option Question). flat_map part_text (other_by o n w why)) (sym is)

pub other_asked : (n : ℕ) (w : World) (line why text : List ℕ) (o : Option Question) → IsUtf8 line → text ≡ line → o ≡ asked_of text → flat_map part_text (other_by o n w why) ≡ flat_map part_text (other_parts n w line why)
other_asked n w line why text o utf8 same is =
    ap (λ (x : Option Question). flat_map part_text (other_by x n w why)) (is ∙ ap asked_of same ∙ sym (asked_text line utf8))
