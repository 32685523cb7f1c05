-- The texts of entries, member by member.
use Rattle.std.proofs.Common.{◌≡◌, ℕ, suc, arith, eqb-true, ◌+◌, ◌<◌, ◌≤◌, true, false, true≢false, ◌==◌, List, [], ◌∷◌, drop, get_or, length, refl, sym, ap, ◌∙◌}
use Rattle.std.specs.Prelude.{codes}
use Rattle.std.proofs.lemmas.List.{drop_all, drop_more}
use Rattle.serde_json.specs.Data.{Data, object, string, Members, member, no_members, put}
use Rattle.serde_json.specs.Written.{compact_text}
use Rattle.json_texts.specs.Writing.{AppendsMembers, Writing, with_closing, with_opening, with_text}
use Rattle.schema.specs.Shape.{Shape}
use Rattle.objects.specs.Appended.{with_items}
use Rattle.objects.specs.EntryTexts.{then_filled, then_prefix, then_manager}
use Rattle.objects.specs.Managers.{pair, pairs}
use Rattle.objects.specs.ObjectText.{entry_items, entry_value, members_with, put_filled}
use Rattle.objects.specs.Owners.{Manager, operation_text, subresource_text}
use Rattle.objects.specs.declared.managers.Entry.{Entry}
use Rattle.objects.proofs.Appended.{object_written}

-- ---- one entry

pub none_long : (n : ℕ) → (suc n == 0) ≡ true → ⊥
none_long n h = let e : suc n ≡ 0 = eqb-true (suc n) 0 h in omega (arith, e)

pub filled_none : (k t : List ℕ) (rest : Members) → (length t == 0) ≡ true → then_filled k t rest ≡ rest
filled_none k [] rest none = refl
filled_none k (b ∷ bs) rest none = absurd (none_long (length bs) none)

pub filled_some : (k t : List ℕ) (rest : Members) → (length t == 0) ≡ false → then_filled k t rest ≡ member k (string t) rest
filled_some k [] rest some = absurd (true≢false some)
filled_some k (b ∷ bs) rest some = refl

entry_row : (a name operation sub : List ℕ) (d : Data)
    → put (codes "apiVersion") (string a) (put (codes "fieldsType") (string (codes "FieldsV1")) (put (codes "fieldsV1") d (put (codes "manager") (string name) (put (codes "operation") (string operation) (put_filled (codes "subresource") sub no_members)))))
    ≡ then_prefix a d (member (codes "manager") (string name) (member (codes "operation") (string operation) (then_filled (codes "subresource") sub no_members)))
entry_row a name operation [] d = refl
entry_row a name operation (b ∷ bs) d = refl

pub entry_written : (a : List ℕ) (m : Manager) (d : Data) (old one two three new : Writing) → one ≡ with_opening 123 old → AppendsMembers (then_prefix a d) one two → AppendsMembers (then_manager m) two three → new ≡ with_closing 125 three
    → new ≡ with_text (compact_text (object (members_with a m d))) old
entry_written a m d old one two three new opened prefix manager closed =
    object_written (λ rest. then_prefix a d (then_manager m rest)) old one three new opened (λ rest. manager rest ∙ prefix (then_manager m rest)) closed
    ∙ ap (λ ms. with_text (compact_text (object ms)) old) (sym (entry_row a m.name (operation_text m.operation) (subresource_text m.subresource) d))

-- ---- entry after entry

module _ (s : Shape) (a : List ℕ) (all : List Entry) (i : ℕ) (old whole : Writing) (before : with_items (entry_items s a (pairs (drop i all))) old ≡ whole) where
  pub next_written : (e : Entry) → i < length all → e ≡ get_or all i e → (new : Writing) → new ≡ with_text (compact_text (entry_value s a (pair e).0 (pair e).1)) old → with_items (entry_items s a (pairs (drop (i + 1) all))) new ≡ whole
  next_written e lt is new value =
      ap (with_items (entry_items s a (pairs (drop (i + 1) all)))) value
      ∙ sym (ap (λ es. with_items (entry_items s a (pairs es)) old) (drop_more all i e lt ∙ ap (λ x. x ∷ drop (i + 1) all) (sym is))) ∙ before

  pub all_written : length all ≤ i → old ≡ whole
  all_written past = sym (ap (λ es. with_items (entry_items s a (pairs es)) old) (drop_all i all past)) ∙ before
