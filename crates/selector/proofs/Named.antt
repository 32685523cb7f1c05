-- What selectors see of an object: its labels, and its name.
use Rattle.std.proofs.Common.{◌≡◌, ℕ, Bool, true, false, not, ◌&&◌, ◌||◌, ◌<◌, List, [], ◌∷◌, length, get_or, map, Option, Some, None, refl, sym, ap, ap₂, subst, ◌∙◌, true≢false}
use Rattle.std.specs.Cmp.Lexicographic.{bytes_decides}
use Rattle.std.specs.List.{list_all, list_any}
use Rattle.std.specs.Str.{bytes_eq}
use Rattle.std.proofs.lemmas.List.{get_or-map, length-map}
use Rattle.std.proofs.lemmas.List.Sums.{AllPass-from_list_all}
use Rattle.selector.specs.Fields.{AsksFor, LabelsDecide, NameDecides, about_name, asks_name, attributes, name_key, refuses}
use Rattle.selector.specs.Labels.{Labels, value_at}
use Rattle.selector.specs.Requirement.{Requirement, equals, meets, selects}
use Rattle.selector.specs.Views.{requirement_of}
use Rattle.selector.specs.declared.requirement.Requirement.{Requirement as TheRequirement}

-- under another key there stands what the labels have
other_key : (key : List ℕ) (name : Option (List ℕ)) (labels : Labels) → bytes_eq key name_key ≡ false → value_at key (attributes name labels) ≡ value_at key labels
other_key key None labels is = refl
other_key key (Some n) labels is = rw is refl

apart : (r : Requirement) (rs : List Requirement) (name : Option (List ℕ)) (labels : Labels) (b : Bool) → bytes_eq r.key name_key ≡ b → (b || asks_name rs) ≡ false
    → (asks_name rs ≡ false → selects rs (attributes name labels) ≡ selects rs labels) → selects (r ∷ rs) (attributes name labels) ≡ selects (r ∷ rs) labels
apart r rs name labels true is none rest = absurd (true≢false none)
apart r rs name labels false is none rest = ap₂ (λ v b. meets r.condition v && b) (other_key r.key name labels is) (rest none)

pub labels_decide : (requirements : List Requirement) → asks_name requirements ≡ false → LabelsDecide requirements
labels_decide [] none name labels = refl
labels_decide (r ∷ rs) none name labels = apart r rs name labels (bytes_eq r.key name_key) refl none (λ h. labels_decide rs h name labels)

-- ---- what the name decides

-- under its own key there stands the name
own_key : (key name : List ℕ) (labels : Labels) → bytes_eq key name_key ≡ true → value_at key (attributes (Some name) labels) ≡ Some name
own_key key name labels is = rw is refl

never : (b : Bool) → (b && false) ≡ false
never true = refl
never false = refl

refused_by : (r : Requirement) (rs : List Requirement) (name : List ℕ) (labels : Labels) (on met : Bool) → bytes_eq r.key name_key ≡ on → meets r.condition (Some name) ≡ met
    → ((on && not met) || list_any (refuses name) rs) ≡ true → (list_any (refuses name) rs ≡ true → selects rs (attributes (Some name) labels) ≡ false) → selects (r ∷ rs) (attributes (Some name) labels) ≡ false
refused_by r rs name labels false met is is_met h rest = ap (λ (b : Bool). meets r.condition (value_at r.key (attributes (Some name) labels)) && b) (rest h) ∙ never _
refused_by r rs name labels true true is is_met h rest = ap (λ (b : Bool). meets r.condition (value_at r.key (attributes (Some name) labels)) && b) (rest h) ∙ never _
refused_by r rs name labels true false is is_met h rest = ap (λ (b : Bool). b && selects rs (attributes (Some name) labels)) (ap (meets r.condition) (own_key r.key name labels is) ∙ is_met)

-- one requirement refuses the name
pub refused : (rs : List Requirement) (name : List ℕ) → list_any (refuses name) rs ≡ true → NameDecides rs name false
refused [] name h labels = absurd (true≢false (sym h))
refused (r ∷ rs) name h labels = refused_by r rs name labels (bytes_eq r.key name_key) (meets r.condition (Some name)) refl refl h (λ more. refused rs name more labels)

taken_by : (r : Requirement) (rs : List Requirement) (name : List ℕ) (labels : Labels) (on met : Bool) → bytes_eq r.key name_key ≡ on → meets r.condition (Some name) ≡ met
    → ((on && not met) || list_any (refuses name) rs) ≡ false → (on && list_all (λ q. bytes_eq q.key name_key) rs) ≡ true
    → (list_any (refuses name) rs ≡ false → list_all (λ q. bytes_eq q.key name_key) rs ≡ true → selects rs (attributes (Some name) labels) ≡ true) → selects (r ∷ rs) (attributes (Some name) labels) ≡ true
taken_by r rs name labels false met is is_met none all rest = absurd (true≢false (sym all))
taken_by r rs name labels true false is is_met none all rest = absurd (true≢false none)
taken_by r rs name labels true true is is_met none all rest = ap₂ (λ (a b : Bool). a && b) (ap (meets r.condition) (own_key r.key name labels is) ∙ is_met) (rest none all)

-- none refuses it, and all are on it
pub taken : (rs : List Requirement) (name : List ℕ) → list_any (refuses name) rs ≡ false → list_all (λ r. bytes_eq r.key name_key) rs ≡ true → NameDecides rs name true
taken [] name none all labels = refl
taken (r ∷ rs) name none all labels = taken_by r rs name labels (bytes_eq r.key name_key) (meets r.condition (Some name)) refl refl none all (λ n a. taken rs name n a labels)

-- one of the requirements asks for a name
asks_for : (rs : List Requirement) (i : ℕ) (r : Requirement) (wanted : List ℕ) → i < length rs → r ≡ get_or rs i r → r ≡ about_name (equals wanted) → AsksFor rs wanted
asks_for rs i r wanted within at is name labels selected =
    let met = AllPass-from_list_all (λ q. meets q.condition (value_at q.key (attributes (Some name) labels))) rs selected i r within in
    (bytes_decides name wanted).0 (sym (ap (λ (q : Requirement). meets q.condition (value_at q.key (attributes (Some name) labels))) (sym at ∙ is)) ∙ met)

pub asks_at : (rs : List TheRequirement) (i : ℕ) (r : TheRequirement) (wanted : List ℕ) → i < length rs → r ≡ get_or rs i r → requirement_of r ≡ about_name (equals wanted) → AsksFor (map requirement_of rs) wanted
asks_at rs i r wanted within at is =
    asks_for (map requirement_of rs) i (requirement_of r) wanted (subst (λ n. i < n) (sym (length-map rs requirement_of)) within)
    (ap requirement_of at ∙ sym (get_or-map requirement_of rs i r (requirement_of r) within)) is
