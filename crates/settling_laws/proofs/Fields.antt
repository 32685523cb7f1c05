-- The fields that an apply of counts gives: what stands at the path of the label, the total and each count.
use Rattle.std.proofs.Common.{◌≡◌, ℕ, ◌≤◌, ◌^◌, pos, Bool, true, false, cond, List, [], ◌∷◌, Option, Some, None, Ok, refl, sym, ap, ap₂, ◌∙◌, arith, lt-ltb}
use Rattle.std.specs.Prelude.{codes, option_map}
use Rattle.std.specs.Cmp.Lexicographic.{slice_cmp}
use Rattle.std.specs.FinMap as fin
use Rattle.std.specs.FinMap.{find}
use Rattle.std.specs.List.{AllByRecursion}
use Rattle.std.specs.Ordering.{is_eq, nat_cmp}
use Rattle.serde_json.specs.Data.{object, member, no_members, number, unsigned}
use Rattle.fieldpath.specs.Elements.{name_text}
use Rattle.fieldpath.specs.Paths.{PathTexts}
use Rattle.pathmap.specs.Contents.{Content, LeafValue, here, nothing, over, text, under, whole}
use Rattle.pathmap.proofs.Contents.{either, either-None, get-nothing, get-over, get-under, nothing-over}
use Rattle.pathmap.proofs.Levels.{get-here-top, under-nothing}
use Rattle.schema.specs.Shape as shape
use Rattle.typed.specs.declared.fault.Cause.TheVariants.{WrongType}
use Rattle.typed.specs.Faults.{Read, below, some_or}
use Rattle.typed.specs.Reading.{at_field, content_of, joined}
use Rattle.api_types.specs.Subresources.{is_apart}
use Rattle.objects.specs.declared.manager.Subresource.TheVariants.{Main}
use Rattle.ownership.specs.Sides.{own_part, writes}
use Rattle.ownership.proofs.Sides.{get-own}
use Rattle.summary.specs.Apply.{count_members, spec_of}
use Rattle.summary.specs.Counts.{Summed}
use Rattle.settling_laws.specs.Said.{IsSayable, IsSayableCount, applied_fields, count_path, count_value, counted_at, label_path, max_whole, read_or_nothing, spec_path, total_path}
use Rattle.settling_laws.specs.SummaryType.{spec_shape, summary_shape, summary_type}

abbrev Text : Type 0
Text = List ℕ

-- ---- what is read

-- a whole number within 64 bits
whole_read : (n : ℕ) → n ≤ max_whole → content_of shape.whole (number (unsigned n)) ≡ Ok (here (count_value n))
whole_read n low =
    ap (λ (b : Bool). below [] (λ z. here (whole z)) (some_or WrongType (cond b (Some (pos n)) None))) (lt-ltb n (2 ^ 63) (omega (arith, low)))

abbrev count_fields : List (Text × ℕ) → Content
count_fields [] = nothing
count_fields (e ∷ es) = over (under (name_text e.0) (here (count_value e.1))) (count_fields es)

counts_read : (es : List (Text × ℕ)) → AllByRecursion IsSayableCount es → content_of (shape.map_of shape.whole false) (object (count_members es)) ≡ Ok (count_fields es)
counts_read [] all = refl
counts_read (e ∷ es) all = ap₂ (λ a b. joined (at_field e.0 a) b) (whole_read e.1 all.0.1) (counts_read es all.1)

module _ (s : Summed) where
  abbrev label_field : Content
  label_field = under (name_text (codes "label")) (here (text s.label))

  abbrev total_field : Content
  total_field = under (name_text (codes "total")) (here (count_value s.total))

  abbrev spec_fields : Content
  spec_fields = over (under (name_text (codes "counts")) (count_fields (fin.entries s.counts))) (over label_field (over total_field nothing))

  abbrev pub fields : Content
  fields = over (under (name_text (codes "spec")) spec_fields) nothing

  module _ (is : IsSayable s) where
    spec_read : content_of spec_shape (spec_of s) ≡ Ok spec_fields
    spec_read =
        ap₂ (λ (a b : Read Content). joined (at_field (codes "counts") a) (joined (Ok label_field) (joined (at_field (codes "total") b) (Ok nothing))))
        (counts_read (fin.entries s.counts) is.counts) (whole_read s.total is.total)

    pub fields_read : content_of summary_shape (object (member (codes "spec") (spec_of s) no_members)) ≡ Ok fields
    fields_read = ap (λ (r : Read Content). joined (at_field (codes "spec") r) (Ok nothing)) spec_read

    pub applied_is : applied_fields s ≡ own_part (is_apart summary_type) Main fields
    applied_is = ap (λ (r : Read Content). own_part (is_apart summary_type) Main (read_or_nothing r)) fields_read

    -- an empty `metadata` beside them gives no field
    pub body_read : content_of summary_shape (object (member (codes "metadata") (object no_members) (member (codes "spec") (spec_of s) no_members))) ≡ Ok fields
    body_read =
        ap (λ (r : Read Content). joined (Ok (under (name_text (codes "metadata")) nothing)) r) fields_read
        ∙ ap Ok (ap (λ c. over c fields) (under-nothing (name_text (codes "metadata"))) ∙ nothing-over fields)

-- ---- what stands at a path

at_name : (f g : Text) (c : Content) (rest : PathTexts) (b : Bool) → is_eq (slice_cmp nat_cmp g f) ≡ b → fin.get (under f c) (g ∷ rest) ≡ cond b (fin.get c rest) None
at_name f g c rest b is = get-under f c g rest ∙ ap (λ (t : Bool). cond t (fin.get c rest) None) is

-- the count of a value among counts
count_found : (es : List (Text × ℕ)) (value : Text) → fin.get (count_fields es) (name_text value ∷ []) ≡ option_map count_value (find (slice_cmp nat_cmp) value es)
unfolding name_text
count_found [] value = get-nothing _
count_found (e ∷ es) value =
    get-over (under (name_text e.0) (here (count_value e.1))) (count_fields es) (name_text value ∷ [])
    ∙ ap₂ either (get-under (name_text e.0) (here (count_value e.1)) (name_text value) [] ∙ ap (λ (o : Option LeafValue). cond (is_eq (slice_cmp nat_cmp value e.0)) o None) (get-here-top (count_value e.1)))
    (count_found es value)
    ∙ by_test (is_eq (slice_cmp nat_cmp value e.0)) (find (slice_cmp nat_cmp) value es)
  where
    by_test : (b : Bool) (o : Option ℕ) → either (cond b (Some (count_value e.1)) None) (option_map count_value o) ≡ option_map count_value (cond b (Some e.1) o)
    by_test true o = refl
    by_test false o = refl

-- of three fields side by side
beside : (a b c : Content) (p : PathTexts) (x y z : Option LeafValue) → fin.get a p ≡ x → fin.get b p ≡ y → fin.get c p ≡ z → fin.get (over a (over b (over c nothing))) p ≡ either x (either y z)
beside a b c p x y z is_x is_y is_z =
    get-over a (over b (over c nothing)) p
    ∙ ap₂ either is_x (get-over b (over c nothing) p ∙ ap₂ either is_y (get-over c nothing p ∙ ap₂ either is_z (get-nothing p) ∙ either-None z))

module _ (s : Summed) where
  in_spec : (p : PathTexts) → fin.get (fields s) (name_text (codes "spec") ∷ p) ≡ fin.get (spec_fields s) p
  unfolding name_text
  in_spec p =
      get-over (under (name_text (codes "spec")) (spec_fields s)) nothing (name_text (codes "spec") ∷ p)
      ∙ ap₂ either (at_name (name_text (codes "spec")) (name_text (codes "spec")) (spec_fields s) p true refl) (get-nothing (name_text (codes "spec") ∷ p)) ∙ either-None _

  -- the main resource writes them, whether the status is apart or not
  main_writes : (name : Text) (rest : PathTexts) → fin.get (own_part (is_apart summary_type) Main (fields s)) (spec_path name rest) ≡ fin.get (fields s) (spec_path name rest)
  unfolding name_text
  main_writes name rest =
      get-own (is_apart summary_type) Main (fields s) (spec_path name rest) ∙ ap (λ (b : Bool). cond b (fin.get (fields s) (spec_path name rest)) None) (in_part (is_apart summary_type))
    where
      in_part : (b : Bool) → writes b Main (spec_path name rest) ≡ true
      in_part true = refl
      in_part false = refl

  at_spec : IsSayable s → (name : Text) (rest : PathTexts) → fin.get (applied_fields s) (spec_path name rest) ≡ fin.get (spec_fields s) (name_text name ∷ rest)
  at_spec is name rest = ap (λ (c : Content). fin.get c (spec_path name rest)) (applied_is s is) ∙ main_writes name rest ∙ in_spec (name_text name ∷ rest)

  spec_label : fin.get (spec_fields s) (name_text (codes "label") ∷ []) ≡ Some (text s.label)
  unfolding name_text
  spec_label =
      beside _ _ _ (name_text (codes "label") ∷ []) None (Some (text s.label)) None (at_name _ _ _ [] false refl) (at_name _ _ _ [] true refl ∙ get-here-top (text s.label)) (at_name _ _ _ [] false refl)

  spec_total : fin.get (spec_fields s) (name_text (codes "total") ∷ []) ≡ Some (count_value s.total)
  unfolding name_text
  spec_total =
      beside _ _ _ (name_text (codes "total") ∷ []) None None (Some (count_value s.total)) (at_name _ _ _ [] false refl) (at_name _ _ _ [] false refl) (at_name _ _ _ [] true refl ∙ get-here-top (count_value s.total))

  spec_count : (value : Text) → fin.get (spec_fields s) (name_text (codes "counts") ∷ name_text value ∷ []) ≡ counted_at s value
  unfolding name_text
  spec_count value =
      let p : PathTexts = name_text value ∷ [] in
      beside _ _ _ (name_text (codes "counts") ∷ p) (counted_at s value) None None
      (at_name _ _ _ p true refl ∙ count_found (fin.entries s.counts) value ∙ ap (option_map count_value) (sym (fin.get-entries s.counts value)))
      (at_name _ _ _ p false refl) (at_name _ _ _ p false refl) ∙ either-None (counted_at s value)

  pub field_label : IsSayable s → fin.get (applied_fields s) label_path ≡ Some (text s.label)
  field_label is = at_spec is (codes "label") [] ∙ spec_label

  pub field_total : IsSayable s → fin.get (applied_fields s) total_path ≡ Some (count_value s.total)
  field_total is = at_spec is (codes "total") [] ∙ spec_total

  pub field_count : IsSayable s → (value : Text) → fin.get (applied_fields s) (count_path value) ≡ counted_at s value
  field_count is value = at_spec is (codes "counts") (name_text value ∷ []) ∙ spec_count value
