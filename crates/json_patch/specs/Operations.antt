-- The operations of JSON Patch (RFC 6902, section 4), and a patch.
--
-- None comes of an operation that fails: where no value is at a pointer that has to have one, at an index that is past the
-- end, and where a rule below says so.
use Rattle.std.specs.Prelude.{ℕ, zero, suc, ◌+◌, ◌&&◌, List, [], ◌∷◌, Bool, true, false, Option, Some, None, option_map, option_and_then, Result, Ok, Err, if◌then◌else◌}
use Rattle.std.specs.Str.{bytes_eq}
use Rattle.serde_json.specs.Data.{Data, array, object, Items, no_items, item, put}
use Rattle.serde_json.specs.Find.{index_of}
use Rattle.json_patch.specs.Pointers.{Pointer}
use Rattle.json_patch.specs.Places.{inside, child, find, in_child, with_child, without_child}
use Rattle.json_patch.specs.Equality.{holds, same}
use Rattle.json_patch.specs.Nesting.{nests}
use Rattle.json_patch.specs.CopiedSize.{copied_size, copied_limit, left_of}
use Rattle.json_patch.specs.declared.placing.Placing.{Placing}
use Rattle.json_patch.specs.declared.placing.Placing.TheVariants.{Adds, Replaces}

-- ---- 4.1 add and 4.3 replace: a value comes to a place

abbrev pub insert_item : ℕ → Data → Items → Option Items
insert_item zero d ds = Some (item d ds)
insert_item (suc n) d no_items = None
insert_item (suc n) d (item e ds) = option_map (item e) (insert_item n d ds)

abbrev pub append_item : Data → Items → Items
append_item d no_items = item d no_items
append_item d (item e ds) = item e (append_item d ds)

-- before the item of the index; `-` is the place after the last
abbrev pub add_item : List ℕ → Data → Items → Option Items
add_item t d ds = if bytes_eq t (45 ∷ []) then Some (append_item d ds) else option_and_then (λ i. insert_item i d ds) (index_of t)

-- as an array's item, before others; as an object's member, also in place of one
abbrev pub add_child : List ℕ → Data → Data → Option Data
add_child t d = inside (λ ds. option_map array (add_item t d ds)) (λ ms. Some (object (put t d ms)))

-- a value is added at the place after these tokens: no more of them come
abbrev pub is_added_here : Placing → Pointer → Bool
is_added_here Adds [] = true
is_added_here Adds (u ∷ us) = false
is_added_here Replaces ts = false

-- a value in place of the whole, or at what the pointer's last token names
abbrev pub placed : Placing → Data → Pointer → Data → Option Data
placed how d [] whole = Some d
placed how d (t ∷ ts) whole = if is_added_here how ts then add_child t d whole else in_child t (placed how d ts) whole

-- the same, unless the value would nest too deep
abbrev pub set : Placing → Data → Pointer → Data → Option Data
set how d path whole = if nests path d then placed how d path whole else None

-- ---- 4.2 remove: the value that is removed, and what is left; the whole can't be removed

-- what lies at a token, and the value without it
abbrev pub taken : List ℕ → Data → Option (Data × Data)
taken t whole = option_map (λ d. (d, without_child t whole)) (child t whole)

abbrev pub removed : Pointer → Data → Option (Data × Data)
removed [] whole = None
removed (t ∷ []) whole = taken t whole
removed (t ∷ u ∷ ts) whole = option_and_then (λ e. option_map (λ r. (r.0, with_child t r.1 whole)) (removed (u ∷ ts) e)) (child t whole)

-- ---- 4.4 move: a remove, then an add of what was removed; never into what lies below it

abbrev pub is_below : Pointer → Pointer → Bool
is_below [] [] = false
is_below [] (t ∷ ts) = true
is_below (t ∷ ts) [] = false
is_below (t ∷ ts) (u ∷ us) = bytes_eq t u && is_below ts us

abbrev pub moved : Pointer → Pointer → Data → Option Data
moved from path whole = if is_below from path then None else option_and_then (λ r. set Adds r.0 path r.1) (removed from whole)

-- ---- 4.6 test

abbrev pub is_equal_at : Pointer → Data → Data → Bool
is_equal_at path d whole = holds (λ e. same e d) (find path whole)

abbrev pub tested : Pointer → Data → Data → Option Data
tested path d whole = if is_equal_at path d whole then Some whole else None

-- ---- a patch

pub data Operation : Type 0 where
  add : Pointer → Data → Operation
  remove : Pointer → Operation
  replace : Pointer → Data → Operation
  move : Pointer → Pointer → Operation
  copy : Pointer → Pointer → Operation
  test : Pointer → Data → Operation

-- A value, and how much the patch may still copy.
abbrev pub State : Type 0
State = Data × ℕ

-- 4.5 copy: an add of what lies at `from`, which counts towards all that the patch may copy
abbrev pub copied : Pointer → Pointer → State → Option State
copied from path s = option_and_then (λ d. option_and_then (λ left. option_map (λ whole. (whole, left)) (set Adds d path s.0)) (left_of s.1 (copied_size d))) (find from s.0)

abbrev pub copying_none : Option Data → ℕ → Option State
copying_none o left = option_map (λ whole. (whole, left)) o

abbrev pub applied : Operation → State → Option State
applied (add path d) s = copying_none (set Adds d path s.0) s.1
applied (remove path) s = copying_none (option_map (λ r. r.1) (removed path s.0)) s.1
applied (replace path d) s = copying_none (set Replaces d path s.0) s.1
applied (move from path) s = copying_none (moved from path s.0) s.1
applied (copy from path) s = copied from path s
applied (test path d) s = copying_none (tested path d s.0) s.1

-- what comes after an operation, or that the n-th failed
abbrev pub and_after : {A : Type 0} → ℕ → (State → Result A ℕ) → Option State → Result A ℕ
and_after n f None = Err n
and_after n f (Some s) = f s

-- the operations one after another, the first of which is the n-th: the value, or the number of the first that fails
abbrev pub applied_from : ℕ → List Operation → State → Result Data ℕ
applied_from n [] s = Ok s.0
applied_from n (o ∷ os) s = and_after n (applied_from (n + 1) os) (applied o s)

abbrev pub applied_all : List Operation → Data → Result Data ℕ
applied_all os whole = applied_from 0 os (whole, copied_limit)
