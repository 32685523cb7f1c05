-- The body of an apply of counts is a value that a JSON text spells.
use Rattle.std.proofs.Common.{◌≡◌, ℕ, suc, ◌<◌, ◌≤◌, ◌^◌, ◌||◌, Bool, true, false, List, [], ◌∷◌, refl, sym, ap, subst, ◌∙◌, arith, T}
use Rattle.std.proofs.lemmas.Bool.{and_parts}
use Rattle.std.specs.Prelude.{codes, ◌&&◌, max}
use Rattle.std.specs.Cmp.Lexicographic.{slice_cmp}
use Rattle.std.specs.FinMap as fin
use Rattle.std.specs.FinMap.Entries.{below_all, is_sorted}
use Rattle.std.specs.List.{AllByRecursion}
use Rattle.std.specs.Ordering.{is_lt, nat_cmp}
use Rattle.serde_json.specs.Data.{Data, object, member, no_members, depth, members_depth}
use Rattle.serde_json.specs.Read.{max_depth}
use Rattle.serde_json.specs.Written.{has_float, members_have_float}
use Rattle.fieldpath.specs.Encodable.{IsEncodable, MembersAreEncodable, member_names}
use Rattle.fieldpath.specs.Scalars.{ascend, ascend_from}
use Rattle.summary.specs.Apply.{count_members, spec_of, summary_of}
use Rattle.summary.specs.Counts.{Summed}
use Rattle.settling_laws.specs.Said.{IsSayable, IsSayableCount, max_whole}

abbrev Counted : Type 0
Counted = List (List ℕ × ℕ)

-- ---- the counts

T_true : (b : Bool) → T b → b ≡ true
T_true true h = refl
T_true false h = absurd h

-- sorted entries ascend
names_from : (n : List ℕ) (es : Counted) → T (below_all (slice_cmp nat_cmp) n es) → T (is_sorted (slice_cmp nat_cmp) es) → ascend_from n (member_names (count_members es)) ≡ true
names_from n [] below sorted = refl
names_from n (e ∷ es) below sorted =
    let first = and_parts (is_lt (slice_cmp nat_cmp n e.0)) (below_all (slice_cmp nat_cmp) n es) (T_true _ below) in
    let rest = and_parts (below_all (slice_cmp nat_cmp) e.0 es) (is_sorted (slice_cmp nat_cmp) es) (T_true _ sorted) in
    ap (λ (b : Bool). b && ascend_from e.0 (member_names (count_members es))) first.0 ∙ names_from e.0 es (subst T (sym rest.0) tt) (subst T (sym rest.1) tt)

names_ascend : (es : Counted) → T (is_sorted (slice_cmp nat_cmp) es) → ascend (member_names (count_members es)) ≡ true
names_ascend [] sorted = refl
names_ascend (e ∷ es) sorted =
    let rest = and_parts (below_all (slice_cmp nat_cmp) e.0 es) (is_sorted (slice_cmp nat_cmp) es) (T_true _ sorted) in
    names_from e.0 es (subst T (sym rest.0) tt) (subst T (sym rest.1) tt)

pub within : (n : ℕ) → n ≤ max_whole → n < 2 ^ 64
within n low = omega (arith, low)

counts_encodable : (es : Counted) → AllByRecursion IsSayableCount es → MembersAreEncodable (count_members es)
counts_encodable [] all = tt
counts_encodable (e ∷ es) all = (within e.1 all.0.1, counts_encodable es all.1)

counts_clean : (es : Counted) → members_have_float (count_members es) ≡ false
counts_clean [] = refl
counts_clean (e ∷ es) = counts_clean es

counts_flat : (es : Counted) → members_depth (count_members es) ≡ 0
counts_flat [] = refl
counts_flat (e ∷ es) = ap (max 0) (counts_flat es)

-- ---- the whole

module _ (s : Summed) (is : IsSayable s) where
  spec_encodable : IsEncodable (spec_of s)
  spec_encodable = (
    refl,
    ((names_ascend (fin.entries s.counts) (fin.entries_sorted s.counts), counts_encodable (fin.entries s.counts) is.counts), (tt, (within s.total is.total, tt))),
  )

  -- what is read as fields
  pub fields_encodable : IsEncodable (object (member (codes "spec") (spec_of s) no_members))
  fields_encodable = (refl, (spec_encodable, tt))

  pub fields_shallow : depth (object (member (codes "spec") (spec_of s) no_members)) ≤ max_depth
  fields_shallow = subst (λ (n : ℕ). suc (max (suc (max (suc n) (max 0 (max 0 0)))) 0) ≤ max_depth) (sym (counts_flat (fin.entries s.counts))) (omega arith)

module _ (s : Summed) (namespace name : List ℕ) (is : IsSayable s) where
  abbrev body : Data
  body = summary_of s namespace name

  pub encodable : IsEncodable body
  encodable = (refl, (tt, (tt, ((refl, (tt, (tt, tt))), (spec_encodable s is, tt)))))

  pub clean : has_float body ≡ false
  clean = ap (λ (b : Bool). (b || false) || false) (counts_clean (fin.entries s.counts))

  pub shallow : depth body ≤ max_depth
  shallow =
      subst (λ (n : ℕ). suc (max 0 (max 0 (max (suc (max 0 (max 0 0))) (max (suc (max (suc n) (max 0 (max 0 0)))) 0)))) ≤ max_depth)
      (sym (counts_flat (fin.entries s.counts))) (omega arith)
