-- What a list and a watch see of a history: the objects of a selection at a revision, and the changes after it
-- (Kubernetes "API Concepts", "Retrieving large results sets in chunks", "Efficient detection of changes").
use Rattle.std.specs.Prelude.{◌≡◌, ℕ, ◌<◌, ◌≤◌, nat_lt, Bool, List, [], ◌∷◌, ◌++◌, filter, length, map, take, Option, Some, None, option_map, if◌then◌else◌}
use Rattle.std.specs.FinMap as fin
use Rattle.std.specs.Ordering.{is_lt}
use Rattle.history.specs.History.{Key, Object, Objects, Change, key_cmp, left_by, put_or_remove, up_to, later, state_at}
use Rattle.history.specs.View.{View, state_in}

-- which objects are asked for: type and namespace by the key, what a selector says by the body
abbrev pub Selection : Type 0
Selection = Key → List ℕ → Bool

-- the objects of the selection
abbrev pub selected : Selection → Objects → Objects
selected wanted s = fin.from_sorted (filter (λ e. wanted e.0 e.1.body) (fin.entries s))

abbrev pub seen_at : Selection → List Change → ℕ → Objects
seen_at wanted cs r = selected wanted (state_at cs r)

-- ---- a list, page by page

-- the entries past a key
abbrev pub past : Key → List (Key × Object) → List (Key × Object)
past k = filter (λ e. is_lt (key_cmp k e.0))

abbrev pub last_key : List (Key × Object) → Option Key
last_key [] = None
last_key (e ∷ []) = Some e.0
last_key (e ∷ f ∷ es) = last_key (f ∷ es)

-- the key that the next page begins after, where more entries are left than this one holds
abbrev pub next_of : ℕ → List (Key × Object) → Option Key
next_of size left = if nat_lt size (length left) then last_key (take size left) else None

-- a page of a list: its objects, and the key after which the next page begins, where the list has more
pub record SeenPage : Type 0 where
  pub found : List (Key × Object)
  pub next : Option Key

-- what a list has after a key, if one is given
abbrev pub left_after : Option Key → List (Key × Object) → List (Key × Object)
left_after None es = es
left_after (Some k) es = past k es

-- the first of these, as many as the limit says, or all where there is none
abbrev pub limited : Option ℕ → List (Key × Object) → SeenPage
limited None es = record { found = es; next = None }
limited (Some limit) es = record { found = take limit es; next = next_of limit es }

-- the objects of the selection, from after a key on, up to a limit
abbrev pub seen_page : Selection → Option Key → Option ℕ → Objects → SeenPage
seen_page wanted after limit s = limited limit (left_after after (fin.entries (selected wanted s)))

-- a page has room for an object
abbrev pub IsLimit : Option ℕ → Type 0
IsLimit None = Unit {0}
IsLimit (Some limit) = 0 < limit

-- nothing is left, or what is past the key
abbrev pub LeftBy : List (Key × Object) → Option Key → List (Key × Object) → Type 0
LeftBy all None rest = rest ≡ []
LeftBy all (Some k) rest = past k all ≡ rest

-- the entries begin with these, and what is left of them begins after `next`
pub record IsPrefix (all prefix : List (Key × Object)) (next : Option Key) : Type 0 where
  pub rest : List (Key × Object)
  pub is : all ≡ prefix ++ rest
  pub left : LeftBy all next rest

-- ---- the changes that are seen

pub data SeenKind : Type 0 where
  Added : SeenKind
  Modified : SeenKind
  Deleted : SeenKind

-- the object is what stands after the change, and of a deletion what stood before it, at the change's revision
pub record SeenChange : Type 0 where
  pub kind : SeenKind
  pub key : Key
  pub object : Object

-- a body, where it is there and of the selection
abbrev pub if_wanted : Selection → Key → Option (List ℕ) → Option (List ℕ)
if_wanted wanted k None = None
if_wanted wanted k (Some b) = if wanted k b then Some b else None

abbrev pub seen_as : SeenKind → Key → ℕ → List ℕ → List SeenChange
seen_as kind k r b = record { kind = kind; key = k; object = record { revision = r; body = b } } ∷ []

-- by the bodies of the selection before and after the change
abbrev pub seen_by : ℕ → Key → Option (List ℕ) → Option (List ℕ) → List SeenChange
seen_by r k None None = []
seen_by r k None (Some after) = seen_as Added k r after
seen_by r k (Some before) (Some after) = seen_as Modified k r after
seen_by r k (Some before) None = seen_as Deleted k r before

-- what is seen of a change of these objects
abbrev pub seen_of : Selection → Objects → Change → List SeenChange
seen_of wanted s c = seen_by c.revision c.key (if_wanted wanted c.key (option_map (λ o. o.body) (fin.get s c.key))) (if_wanted wanted c.key c.body)

-- what is seen of changes, one after the other, from the objects before the first of them
abbrev pub seen_among : Selection → Objects → List Change → List SeenChange
seen_among wanted s [] = []
seen_among wanted s (c ∷ cs) = seen_of wanted s c ++ seen_among wanted (put_or_remove s c.key (left_by c)) cs

-- what is seen of the changes after r up to q
abbrev pub seen_changes : Selection → List Change → ℕ → ℕ → List SeenChange
seen_changes wanted cs r q = seen_among wanted (state_at cs r) (up_to q (later r cs))

-- the same, of a view
abbrev pub seen_in : Selection → View → ℕ → ℕ → List SeenChange
seen_in wanted v r q = seen_among wanted (state_in v r) (up_to q (later r v.changes))

-- each of the objects as added, in the order of keys: what a watch that names no version begins with
abbrev pub all_added : Objects → List SeenChange
all_added s = map (λ e. record { kind = Added; key = e.0; object = e.1 }) (fin.entries s)

-- ---- what a reader makes of them

abbrev pub by_kind : SeenKind → Objects → Key → Object → Objects
by_kind Added s k o = fin.insert s k o
by_kind Modified s k o = fin.insert s k o
by_kind Deleted s k o = fin.remove s k

abbrev pub put_seen : Objects → SeenChange → Objects
put_seen s x = by_kind x.kind s x.key x.object

abbrev pub put_all_seen : Objects → List SeenChange → Objects
put_all_seen s [] = s
put_all_seen s (x ∷ xs) = put_all_seen (put_seen s x) xs

-- the revision of the last of these, or p where there is none: where a watch that began at p stands after them
abbrev pub reached : ℕ → List SeenChange → ℕ
reached p [] = p
reached p (x ∷ xs) = reached x.object.revision xs

-- the first change seen after p is x, and those after it are the others: up to x nothing else is seen
pub record IsNextSeen (wanted : Selection) (cs : List Change) (top p : ℕ) (x : SeenChange) (others : List SeenChange) : Type 0 where
  pub above : p < x.object.revision
  pub within : x.object.revision ≤ top
  pub applies : put_seen (seen_at wanted cs p) x ≡ seen_at wanted cs x.object.revision
  pub rest : seen_changes wanted cs x.object.revision top ≡ others
