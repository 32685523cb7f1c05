use Rattle.std.proofs.Common.{◌≡◌, ℕ, ◌≤◌, length}
use Rattle.json.specs.Json.{members, value}
use Rattle.serde_json.specs.Data.{no_members}
use Rattle.serde_json.specs.Read.{of_members, converted}
use Rattle.json_values.specs.Texts.{named_texts}
use Rattle.lists.proofs.Turns.{as_members}
use Rattle.lists.proofs.finding.read_texts.Given as goal

abbrev pub invariant-members : goal.invariant-members
invariant-members l =
    (n : ℕ) × (length l.reader ≤ n) × (length l.reader ≤ length l.initial.reader)
    × (converted (λ ms. of_members ms no_members) (members (value l.depth) (length l.initial.reader) l.initial.reader)
    ≡ converted (λ ms. of_members ms (as_members (named_texts l.texts))) (members (value l.depth) n l.reader))

abbrev pub decreases-members : goal.decreases-members
decreases-members l = length l.reader
