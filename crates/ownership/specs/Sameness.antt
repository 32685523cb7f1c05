-- When two states are one: no path of either content has another value in the other, and the entries are the same.
use Rattle.std.specs.Prelude.{Bool, true, false, ◌&&◌, List, [], ◌∷◌}
use Rattle.std.specs.FinMap as fin
use Rattle.pathmap.specs.Contents.{Content, PathSet}
use Rattle.pathmap.specs.Beside.{is_unchanged, is_within}
use Rattle.objects.specs.Owners.{Manager, is_same}
use Rattle.objects.specs.State.{State}

abbrev pub same_entry : Manager × PathSet → Manager × PathSet → Bool
same_entry e f = is_same e.0 f.0 && (is_within e.1 f.1 && is_within f.1 e.1)

abbrev pub same_entries : List (Manager × PathSet) → List (Manager × PathSet) → Bool
same_entries [] [] = true
same_entries [] (f ∷ fs) = false
same_entries (e ∷ es) [] = false
same_entries (e ∷ es) (f ∷ fs) = same_entry e f && same_entries es fs

abbrev pub same_content : Content → Content → Bool
same_content c d = is_unchanged c d && is_unchanged d c

unfoldable pub same_state : State → State → Bool
same_state a b = same_content a.content b.content && same_entries (fin.entries a.owners) (fin.entries b.owners)
