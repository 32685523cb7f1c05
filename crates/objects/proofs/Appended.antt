-- JSON texts that go on by members or items.
use Rattle.std.proofs.Common.{◌≡◌, ℕ, true, false, List, [], ◌∷◌, ◌++◌, refl, ap, ◌∙◌, append_assoc}
use Rattle.json.specs.Print.{quoted}
use Rattle.serde_json.specs.Data.{Data, array, object, Items, no_items, item, Members, no_members, member}
use Rattle.serde_json.specs.Written.{comma_if, compact_text, items_text, members_text}
use Rattle.json_texts.specs.Writing.{AppendsMembers, Writing, with_closing, with_name, with_opening, with_text}
use Rattle.typed.proofs.Writes.{braced}
use Rattle.objects.specs.Appended.{with_items}

-- old text, comma, quoted name, text and rest
regroup : (o c q t r : List ℕ) → ((o ++ (c ++ (q ++ 58 ∷ []))) ++ t) ++ r ≡ o ++ (c ++ (q ++ 58 ∷ (t ++ r)))
regroup o c q t r =
    append_assoc (o ++ (c ++ (q ++ 58 ∷ []))) t r ∙ append_assoc o (c ++ (q ++ 58 ∷ [])) (t ++ r) ∙ ap (λ x. o ++ x) (append_assoc c (q ++ 58 ∷ []) (t ++ r))
    ∙ ap (λ x. o ++ (c ++ x)) (append_assoc q (58 ∷ []) (t ++ r))

-- old text, comma, bracket and rest
bracketed : (o c r : List ℕ) (b : ℕ) → (o ++ (c ++ b ∷ [])) ++ r ≡ o ++ (c ++ b ∷ r)
bracketed o c r b = append_assoc o (c ++ b ∷ []) r ∙ ap (λ x. o ++ x) (append_assoc c (b ∷ []) r)

module _ (k : List ℕ) (d : Data) (old : Writing) where
  named : AppendsMembers (member k d) old (with_text (compact_text d) (with_name k old))
  named rest = regroup old.text (comma_if old.later) (quoted k) (compact_text d) (members_text true rest)

  -- a name and a value are a member
  pub member_appended : (one new : Writing) → one ≡ with_name k old → new ≡ with_text (compact_text d) one → AppendsMembers (member k d) old new
  member_appended one new name value rest = ap (λ w. w.text ++ members_text w.later rest) (value ∙ ap (with_text (compact_text d)) name) ∙ named rest

-- members in braces are an object
pub object_written : (prefix : Members → Members) (old one two new : Writing) → one ≡ with_opening 123 old → AppendsMembers prefix one two → new ≡ with_closing 125 two → new ≡ with_text (compact_text (object (prefix no_members))) old
object_written prefix old one two new opened members closed =
    closed ∙ braced (prefix no_members) old two (members no_members ∙ ap (λ w. w.text ++ members_text w.later (prefix no_members)) opened)

-- ---- items

items_appended : (ds : Items) (w : Writing) → (with_items ds w).text ++ 93 ∷ [] ≡ w.text ++ items_text w.later ds
items_appended no_items w = refl
items_appended (item d ds) w =
    items_appended ds (with_text (compact_text d) w) ∙ append_assoc w.text (comma_if w.later ++ compact_text d) (items_text true ds)
    ∙ ap (λ x. w.text ++ x) (append_assoc (comma_if w.later) (compact_text d) (items_text true ds))

-- items in brackets are an array
pub array_written : (ds : Items) (old one two new : Writing) → one ≡ with_opening 91 old → two ≡ with_items ds one → new ≡ with_closing 93 two → new ≡ with_text (compact_text (array ds)) old
array_written ds old one two new opened items closed =
    let text = items_appended ds (with_opening 91 old) ∙ bracketed old.text (comma_if old.later) (items_text false ds) 91 in
    closed ∙ ap (with_closing 93) (items ∙ ap (with_items ds) opened) ∙ (λ i. record { text = text i; later = true })
