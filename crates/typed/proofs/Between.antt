-- Fields whose names lie between two others, and a member that is put among those of the fields.
use Rattle.std.proofs.Common.{◌≡◌, ℕ, Bool, true, false, cond, List, Option, Some, None, Ordering, Less, Equal, Greater, nat_cmp, refl, sym, ap, ap₂, ◌∙◌, subst, true≢false}
use Rattle.std.specs.Prelude.{◌&&◌}
use Rattle.std.specs.Cmp.Lexicographic.{slice_cmp, bytes_decides}
use Rattle.std.specs.Ordering.{is_eq, is_lt, match_ordering, ordering_reverse}
use Rattle.std.specs.Str.{bytes_eq}
use Rattle.std.proofs.lemmas.Cmp.{nat_list_cmp_total}
use Rattle.serde_json.specs.Data.{Data, Members, no_members, member, put}
use Rattle.fieldpath.specs.Elements.{name_text}
use Rattle.pathmap.specs.Contents.{Content, nothing}
use Rattle.pathmap.specs.Insides.{inside}
use Rattle.pathmap.proofs.Heads.{all_above}
use Rattle.pathmap.proofs.Trees.{ties}
use Rattle.schema.proofs.Members.{put_turned}
use Rattle.schema.specs.Lawful.{names_of}
use Rattle.schema.specs.Shape.{Shape, Fields, no_fields, field}
use Rattle.typed.specs.Between.{fields_between, then_fields, then_member}
use Rattle.typed.specs.Printing.{print as printed, print_fields, with_member}
use Rattle.typed.proofs.KeyFields.{AreRising}
use Rattle.typed.proofs.Prints.{print-nothing}
use Rattle.typed.proofs.Rows.{AllAbove, IsPrefix, fields_prefix, fields_row, put_prefix, then_prefix}

-- ---- which lie between

pub all_between : (fs : Fields) → fields_between None None fs ≡ fs
all_between no_fields = refl
all_between (field f s more) = ap (field f s) (all_between more)

abbrev below : List ℕ → Fields → Fields
below k = fields_between None (Some k)

abbrev above : List ℕ → Fields → Fields
above k = fields_between (Some k) None

turned : (k f : List ℕ) (o : Ordering) → slice_cmp nat_cmp k f ≡ o → slice_cmp nat_cmp f k ≡ ordering_reverse o
turned k f o is = nat_list_cmp_total.antisymm f k ∙ ap ordering_reverse is

below_none : (k : List ℕ) (fs : Fields) → AllAbove k (names_of fs) → below k fs ≡ no_fields
below_none k no_fields all = refl
below_none k (field f s more) all = ap (λ o. cond (is_lt o) (field f s (below k more)) (below k more)) (turned k f Less all.0) ∙ below_none k more all.1

above_all : (k : List ℕ) (fs : Fields) → AllAbove k (names_of fs) → above k fs ≡ fs
above_all k no_fields all = refl
above_all k (field f s more) all = ap (λ o. cond (is_lt o && true) (field f s (above k more)) (above k more)) all.0 ∙ ap (field f s) (above_all k more all.1)

-- ---- a member put among others

module _ (k f : List ℕ) (d : Data) where
  put_behind : (o : Option Data) (ms : Members) → slice_cmp nat_cmp k f ≡ Greater → put k d (then_member f o ms) ≡ then_member f o (put k d ms)
  put_behind None ms is = refl
  put_behind (Some e) ms is = ap (λ o. match_ordering o (member k d (member f e ms)) (member f d ms) (member f e (put k d ms))) is

  put_over : (o : Option Data) (ms : Members) → slice_cmp nat_cmp k f ≡ Equal → IsPrefix k ms → put k d (then_member f o ms) ≡ member k d ms
  put_over None ms is prefix = put_prefix k d ms prefix
  put_over (Some e) ms is prefix =
      ap (λ o. match_ordering o (member k d (member f e ms)) (member f d ms) (member f e (put k d ms))) is ∙ ap (λ l. member l d ms) (sym (ties k f (ap is_eq is)))

  put_before : (o : Option Data) (ms : Members) → slice_cmp nat_cmp k f ≡ Less → IsPrefix k ms → put k d (then_member f o ms) ≡ member k d (then_member f o ms)
  put_before o ms is prefix = put_prefix k d (then_member f o ms) (then_prefix k f o ms is prefix)

module _ (k : List ℕ) (d : Data) (c : Content) (rest : Members) (prefix : IsPrefix k rest) where
  -- the member among the fields
  abbrev among : Fields → Members
  among fs = then_fields (below k fs) c (member k d (then_fields (above k fs) c rest))

  all_behind : (fs : Fields) → AllAbove k (names_of fs) → among fs ≡ member k d (then_fields fs c rest)
  all_behind fs all = ap₂ (λ b a. then_fields b c (member k d (then_fields a c rest))) (below_none k fs all) (above_all k fs all)

  by_order : (f : List ℕ) (s : Shape) (more : Fields) (o : Ordering) → slice_cmp nat_cmp k f ≡ o → AllAbove f (names_of more) → put k d (then_fields more c rest) ≡ among more
      → put k d (then_fields (field f s more) c rest)
      ≡ then_fields (cond (is_lt (ordering_reverse o)) (field f s (below k more)) (below k more)) c (member k d (then_fields (cond (is_lt o && true) (field f s (above k more)) (above k more)) c rest))
  by_order f s more Less is all later =
      let behind = all_above k f (names_of more) is all in
      put_before k f d (printed s (inside (name_text f) c)) (then_fields more c rest) is (fields_prefix more c k rest behind prefix)
      ∙ sym (ap₂ (λ b a. then_fields b c (member k d (then_fields (field f s a) c rest))) (below_none k more behind) (above_all k more behind))
  by_order f s more Equal is all later =
      let behind = subst (λ g. AllAbove g (names_of more)) (sym (ties k f (ap is_eq is))) all in
      put_over k f d (printed s (inside (name_text f) c)) (then_fields more c rest) is (fields_prefix more c k rest behind prefix) ∙ sym (all_behind more behind)
  by_order f s more Greater is all later =
      let o = printed s (inside (name_text f) c) in put_behind k f d o (then_fields more c rest) is ∙ ap (then_member f o) later

  -- the fields below the name, the member, the fields above the name
  pub put_between : (fs : Fields) → AreRising (names_of fs) → put k d (then_fields fs c rest) ≡ then_fields (fields_between None (Some k) fs) c (member k d (then_fields (fields_between (Some k) None fs) c rest))
  put_between no_fields rise = put_prefix k d rest prefix
  put_between (field f s more) rise =
      by_order f s more (slice_cmp nat_cmp k f) refl rise.0 (put_between more rise.1)
      ∙ sym (ap (λ o. then_fields (cond (is_lt o) (field f s (below k more)) (below k more)) c (member k d (then_fields (above k (field f s more)) c rest))) (turned k f (slice_cmp nat_cmp k f) refl))

-- ---- a member beside a field of its name that holds nothing

module _ (k : List ℕ) (d : Data) (c : Content) (bare : inside (name_text k) c ≡ nothing) where
  past_one : (f : List ℕ) (s : Shape) (ms : Members) → (b : Bool) → bytes_eq f k ≡ b → let o = printed s (inside (name_text f) c) in with_member f o (put k d ms) ≡ put k d (with_member f o ms)
  past_one f s ms true same = ap (λ o. with_member f o (put k d ms)) none ∙ sym (ap (λ o. put k d (with_member f o ms)) none)
    where
      none : printed s (inside (name_text f) c) ≡ None
      none = ap (λ g. printed s (inside (name_text g) c)) ((bytes_decides f k).0 same) ∙ ap (printed s) bare ∙ print-nothing s
  past_one f s ms false other = by_printed (printed s (inside (name_text f) c))
    where
      by_printed : (o : Option Data) → with_member f o (put k d ms) ≡ put k d (with_member f o ms)
      by_printed None = refl
      by_printed (Some e) = sym (put_turned k f d e ms (λ same. absurd (true≢false (sym ((bytes_decides f k).1 (sym same)) ∙ other))))

  past_all : (fs : Fields) (ms : Members) → print_fields fs c (put k d ms) ≡ put k d (print_fields fs c ms)
  past_all no_fields ms = refl
  past_all (field f s more) ms =
      ap (print_fields more c) (past_one f s ms (bytes_eq f k) refl) ∙ past_all more (with_member f (printed s (inside (name_text f) c)) ms)

  pub beside_key : (fs : Fields) → AreRising (names_of fs)
      → print_fields fs c (member k d no_members) ≡ then_fields (fields_between None (Some k) fs) c (member k d (then_fields (fields_between (Some k) None fs) c no_members))
  beside_key fs rise = past_all fs no_members ∙ ap (put k d) (fields_row fs c rise) ∙ put_between k d c no_members tt fs rise
