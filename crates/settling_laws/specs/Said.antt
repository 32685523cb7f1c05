-- What an object says of counts: at which of its paths they stand, and what an apply of them makes of it.
use Rattle.std.specs.Prelude.{◌≡◌, ◌⊎◌, ◌≤◌, ℕ, pos, List, [], ◌∷◌, Option, Some, None, IsUtf8, codes, option_map}
use Rattle.std.specs.declared.result.Result.TheVariants.{Ok, Err}
use Rattle.std.specs.FinMap as fin
use Rattle.std.specs.List.{AllByRecursion}
use Rattle.serde_json.specs.Data.{object, member, no_members}
use Rattle.fieldpath.specs.Elements.{name_text}
use Rattle.fieldpath.specs.Paths.{PathTexts}
use Rattle.pathmap.specs.Contents.{Content, LeafValue, nothing, text, whole}
use Rattle.typed.specs.Faults.{Read}
use Rattle.typed.specs.Reading.{content_of}
use Rattle.api_types.specs.Subresources.{is_apart}
use Rattle.objects.specs.declared.manager.Subresource.TheVariants.{Main}
use Rattle.objects.specs.Owners.{Manager, apply_operation, manager_by}
use Rattle.objects.specs.State.{State}
use Rattle.objects.specs.WellTyped.{IsPresent, Owns}
use Rattle.ownership.specs.Apply.{applied}
use Rattle.ownership.specs.Sides.{own_part}
use Rattle.summary.specs.Apply.{spec_of}
use Rattle.summary.specs.Counts.{Summed}
use Rattle.settling_laws.specs.SummaryType.{summary_shape, summary_type}

-- ---- paths

-- a field of the object's `spec`
abbrev pub spec_path : List ℕ → PathTexts → PathTexts
spec_path name rest = name_text (codes "spec") ∷ name_text name ∷ rest

abbrev pub label_path : PathTexts
label_path = spec_path (codes "label") []

abbrev pub total_path : PathTexts
total_path = spec_path (codes "total") []

-- where the count of a value stands
abbrev pub count_path : List ℕ → PathTexts
count_path value = spec_path (codes "counts") (name_text value ∷ [])

-- ---- an apply of counts

-- who applies them
abbrev pub label_summary : Manager
label_summary = manager_by (codes "label-summary") apply_operation Main

abbrev pub read_or_nothing : Read Content → Content
read_or_nothing (Ok c) = c
read_or_nothing (Err e) = nothing

-- the fields that are applied: what their value spells under the type's schema
abbrev pub applied_fields : Summed → Content
applied_fields s = own_part (is_apart summary_type) Main (read_or_nothing (content_of summary_shape (object (member (codes "spec") (spec_of s) no_members))))

-- the object after the apply: the fields over what stood there, less those that were the controller's alone and are no more
abbrev pub with_counts : Summed → State → State
with_counts s old = applied old (applied_fields s) label_summary

-- ---- what the object then says

abbrev pub count_value : ℕ → LeafValue
count_value n = whole (pos n)

abbrev pub counted_at : Summed → List ℕ → Option LeafValue
counted_at s value = option_map count_value (fin.get s.counts value)

-- what stands at the path isn't the controller's alone: another manager owns it, or the controller doesn't
abbrev pub IsShared : State → PathTexts → Type 0
IsShared state p = IsPresent state.content p × (((k : Manager) × ¬ (k ≡ label_summary) × Owns state k p) ⊎ ¬ (Owns state label_summary p))

-- the label, how many objects have it, and of each value how many have it. A value that no object has has no count, but one that
-- others wrote beside the controller's, which stays as it was
pub record Says (s : Summed) (old new : State) : Type 0 where
  pub label : fin.get new.content label_path ≡ Some (text s.label)
  pub total : fin.get new.content total_path ≡ Some (count_value s.total)
  pub counted : (value : List ℕ) (n : ℕ) → fin.get s.counts value ≡ Some n → fin.get new.content (count_path value) ≡ Some (count_value n)
  pub uncounted : (value : List ℕ) → fin.get s.counts value ≡ None
      → (fin.get new.content (count_path value) ≡ None) ⊎ (IsShared old (count_path value) × (fin.get new.content (count_path value) ≡ fin.get old.content (count_path value)))

-- each count that stands is the controller's alone
abbrev pub CountsAreOwn : State → Type 0
CountsAreOwn state =
    (value : List ℕ) → IsPresent state.content (count_path value) → Owns state label_summary (count_path value) × ((k : Manager) → Owns state k (count_path value) → k ≡ label_summary)

-- it says these counts and no others
pub record SaysExactly (s : Summed) (state : State) : Type 0 where
  pub label : fin.get state.content label_path ≡ Some (text s.label)
  pub total : fin.get state.content total_path ≡ Some (count_value s.total)
  pub counts : (value : List ℕ) → fin.get state.content (count_path value) ≡ counted_at s value

-- ---- counts that can be said

-- the highest whole number that a field has
abbrev pub max_whole : ℕ
max_whole = 9223372036854775807

-- a count has a text as its value, and is a whole number within 64 bits
abbrev pub IsSayableCount : List ℕ × ℕ → Type 0
IsSayableCount e = IsUtf8 e.0 × (e.1 ≤ max_whole)

pub record IsSayable (s : Summed) : Type 0 where
  pub label : IsUtf8 s.label
  pub counts : AllByRecursion IsSayableCount (fin.entries s.counts)
  pub total : s.total ≤ max_whole

-- ---- the law

-- After an apply of counts another of the same would leave content and owners as they are.
abbrev pub AppliedStay : Type 0
AppliedStay = (s : Summed) (old : State) → with_counts s (with_counts s old) ≡ with_counts s old
