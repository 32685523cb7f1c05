use Rattle.std.proofs.Common.{◌≡◌, ℕ, ◌+◌, ◌*◌, ◌≤◌, length, map}
use Rattle.std.specs.Option.{option_and_then}
use Rattle.json.specs.Json.{members, value}
use Rattle.serde_json.specs.Data.{Members, no_members}
use Rattle.serde_json.specs.Find.{get_member}
use Rattle.serde_json.specs.Read.{of_members, converted}
use Rattle.json_values.specs.Texts.{named_texts}
use Rattle.lists.specs.Labels.{labels_by}
use Rattle.lists.specs.Finding.{data_at}
use Rattle.lists.proofs.finding.+finding.Given as goal

abbrev pub decreases-find : goal.decreases-find
decreases-find l = 2 * length l.path.now

abbrev pub decreases-find_in : goal.decreases-find_in
decreases-find_in l = 2 * length l.path.now + 1

abbrev pub invariant-find_in-members : goal.invariant-find_in-members
invariant-find_in-members l =
    (n : ℕ) × (known : Members) × (length l.reader ≤ n) × (length l.reader ≤ length l.initial.reader)
    × (converted (λ ms. of_members ms no_members) (members (value l.depth) (length l.initial.reader) l.initial.reader) ≡ converted (λ ms. of_members ms known) (members (value l.depth) n l.reader))
    × (named_texts l.found ≡ labels_by (option_and_then (data_at (map (λ s. s.now) l.path)) (get_member l.name known)))

abbrev pub decreases-find_in-members : goal.decreases-find_in-members
decreases-find_in-members l = length l.reader
