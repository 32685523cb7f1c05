-- The history: every change ever made, oldest first, and the objects that stand at a revision
-- (resourceVersion and its order: Kubernetes "API Concepts", "Resource versions").
use Rattle.std.specs.Prelude.{ℕ, suc, ◌<◌, ◌≤◌, Bool, List, [], ◌∷◌, ◌++◌, filter, Option, Some, None, nat_lt, nat_le}
use Rattle.std.specs.Ordering.{nat_cmp, then_cmp, on, eq_by_cmp}
use Rattle.std.specs.Cmp.Lexicographic.{slice_cmp}
use Rattle.std.specs.declared.cmp.Ordering.{Ordering}
use Rattle.std.specs.FinMap as fin

-- what names an object: the number of its type, and its namespace and name in bytes
pub record Key : Type 0 where
  pub kind : ℕ
  pub namespace : List ℕ
  pub name : List ℕ

abbrev pub text_cmp : List ℕ → List ℕ → Ordering
text_cmp = slice_cmp nat_cmp

-- by kind, then by namespace, then by name
abbrev pub key_cmp : Key → Key → Ordering
key_cmp = then_cmp (on (λ k. k.kind) nat_cmp) (then_cmp (on (λ k. k.namespace) text_cmp) (on (λ k. k.name) text_cmp))

abbrev pub is_same_key : Key → Key → Bool
is_same_key = eq_by_cmp key_cmp

-- without a body it is a deletion
pub record Change : Type 0 where
  pub revision : ℕ
  pub key : Key
  pub body : Option (List ℕ)

-- what stands under a key: the revision of the key's last change, and the body of that
pub record Object : Type 0 where
  pub revision : ℕ
  pub body : List ℕ

-- from keys to what stands there, in the order of keys
abbrev pub Objects : Type 0
Objects = fin.FinMap key_cmp Object

-- what a change leaves under its key
abbrev pub object_by : ℕ → Option (List ℕ) → Option Object
object_by r None = None
object_by r (Some b) = Some (record { revision = r; body = b })

abbrev pub left_by : Change → Option Object
left_by c = object_by c.revision c.body

abbrev pub put_or_remove : Objects → Key → Option Object → Objects
put_or_remove s k None = fin.remove s k
put_or_remove s k (Some o) = fin.insert s k o

-- what the changes make of these objects
abbrev pub changed : Objects → List Change → Objects
changed s [] = s
changed s (c ∷ cs) = changed (put_or_remove s c.key (left_by c)) cs

abbrev pub up_to : ℕ → List Change → List Change
up_to r = filter (λ c. nat_le c.revision r)

abbrev pub later : ℕ → List Change → List Change
later r = filter (λ c. nat_lt r c.revision)

-- each key's last change up to r, unless it is a deletion
abbrev pub state_at : List Change → ℕ → Objects
state_at cs r = changed fin.empty (up_to r cs)

-- each revision is above the last, all are above lo, and none is above top
abbrev pub IsRising : ℕ → List Change → ℕ → Type 0
IsRising lo [] top = lo ≤ top
IsRising lo (c ∷ cs) top = (lo < c.revision) × IsRising c.revision cs top

-- the changes, oldest first, the revision that stands now, and the one up to which old changes may be forgotten
pub record History : Type 0 where
  pub changes : List Change
  pub current : ℕ
  pub compacted : ℕ

-- the highest revision: 9223372036854775807
abbrev pub last_revision : ℕ
last_revision = 9223372036854775807

pub record IsHistory (h : History) : Type 0 where
  pub rising : IsRising 0 h.changes h.current
  pub low : h.compacted ≤ h.current
  pub high : h.current ≤ last_revision

-- a store without a change, whose numbers are both n
abbrev pub fresh : ℕ → History
fresh n = record { changes = []; current = n; compacted = n }

-- one more change, of the next revision
abbrev pub written : History → Key → Option (List ℕ) → History
written h k body = record { changes = h.changes ++ record { revision = suc h.current; key = k; body = body } ∷ []; current = suc h.current; compacted = h.compacted }

-- a compaction changes the compacted number alone: no change is lost
abbrev pub compacted_to : ℕ → History → History
compacted_to c h = record h { compacted = c }

-- the objects that stand now
abbrev pub current_objects : History → Objects
current_objects h = state_at h.changes h.current
