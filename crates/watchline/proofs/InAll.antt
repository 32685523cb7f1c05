-- What is seen of a change where the name decides.
use Rattle.std.proofs.Common.{◌≡◌, ℕ, Bool, true, false, cond, List, [], Option, Some, None, is_some, option_map, refl, sym, ap, ap₂}
use Rattle.std.specs.FinMap as fin
use Rattle.selector.specs.Fields.{NameDecides}
use Rattle.selector.specs.Requirement.{Requirement}
use Rattle.history.specs.History.{Change, Key, Object, Objects}
use Rattle.history.specs.Seen.{seen_as, seen_by}
use Rattle.lists.specs.Labels.{labels_of}
use Rattle.watchline.specs.BatchViews.{body_if_selected, kind_of_put, seen_by_labels}

-- every body is selected
pub all_selected : (k : Key) (body : Option (List ℕ)) → body_if_selected [] k body ≡ body
all_selected k None = refl
all_selected k (Some b) = refl

-- where the name is selected, so is each body
decided : (requirements : List Requirement) (k : Key) → NameDecides requirements k.name true → (body : Option (List ℕ)) → body_if_selected requirements k body ≡ body_if_selected [] k body
decided requirements k is None = refl
decided requirements k is (Some b) = ap (λ (t : Bool). cond t (Some b) None) (is (labels_of b))

pub seen_as_all : (requirements : List Requirement) (s : Objects) (c : Change) → NameDecides requirements c.key.name true → seen_by_labels [] s c ≡ seen_by_labels requirements s c
seen_as_all requirements s c is =
    ap₂ (λ a b. seen_by c.revision c.key a b) (sym (decided requirements c.key is (option_map (λ o. o.body) (fin.get s c.key)))) (sym (decided requirements c.key is c.body))

-- where it isn't, none is
left_out : (requirements : List Requirement) (k : Key) → NameDecides requirements k.name false → (body : Option (List ℕ)) → body_if_selected requirements k body ≡ None
left_out requirements k is None = refl
left_out requirements k is (Some b) = ap (λ (t : Bool). cond t (Some b) None) (is (labels_of b))

pub seen_as_none : (requirements : List Requirement) (s : Objects) (c : Change) → NameDecides requirements c.key.name false → [] ≡ seen_by_labels requirements s c
seen_as_none requirements s c is =
    ap₂ (λ a b. seen_by c.revision c.key a b) (sym (left_out requirements c.key is (option_map (λ o. o.body) (fin.get s c.key)))) (sym (left_out requirements c.key is c.body))

-- of what stood before a change that leaves an object only counts whether it did
pub put_seen : (r : ℕ) (k : Key) (after : List ℕ) (stood : Option Object)
    → seen_as (kind_of_put (is_some stood)) k r after ≡ seen_by r k (body_if_selected [] k (option_map (λ o. o.body) stood)) (Some after)
put_seen r k after None = refl
put_seen r k after (Some o) = refl
