-- The form of a JSON patch (RFC 6902, sections 3 and 4). What an operation doesn't name is ignored; of equal names the last
-- counts.
use Rattle.std.specs.Prelude.{ℕ, nat_lt, codes, List, [], ◌∷◌, Option, Some, None, option_map, option_and_then, Result, Ok, Err, if◌then◌else◌}
use Rattle.std.specs.Str.{bytes_eq}
use Rattle.serde_json.specs.Data.{Data, Items, no_items, item, Members}
use Rattle.serde_json.specs.Events.{items_len}
use Rattle.serde_json.specs.Find.{get_member, as_array, as_object}
use Rattle.json_values.specs.Members.{text_at}
use Rattle.json_patch.specs.Pointers.{Pointer, pointer}
use Rattle.json_patch.specs.Operations.{Operation, add, remove, replace, move, copy, test}
use Rattle.json_patch.specs.declared.operation.OperationName.{OperationName}
use Rattle.json_patch.specs.declared.operation.OperationName.TheVariants.{Add, Remove, Replace, Move, Copy, Test}
use Rattle.json_patch.specs.declared.reading_patches.NoPatch.{NoPatch}
use Rattle.json_patch.specs.declared.reading_patches.NoPatch.TheVariants.{Bad, TooMany}

abbrev pub name_in : List ℕ → Option OperationName
name_in s =
    if bytes_eq s (codes "add") then Some Add
    else (if bytes_eq s (codes "remove") then Some Remove
    else (if bytes_eq s (codes "replace") then Some Replace
    else (if bytes_eq s (codes "move") then Some Move
    else (if bytes_eq s (codes "copy") then Some Copy
    else (if bytes_eq s (codes "test") then Some Test
    else None)))))

-- the pointer at a name; none where no text is there, or one that isn't a pointer's
abbrev pub pointer_at : List ℕ → Members → Option Pointer
pointer_at name ms = option_and_then pointer (text_at name ms)

-- the operation of this name at this path, with what else it takes
abbrev pub operation_named : OperationName → Pointer → Members → Option Operation
operation_named Add path ms = option_map (add path) (get_member (codes "value") ms)
operation_named Remove path ms = Some (remove path)
operation_named Replace path ms = option_map (replace path) (get_member (codes "value") ms)
operation_named Move path ms = option_map (λ from. move from path) (pointer_at (codes "from") ms)
operation_named Copy path ms = option_map (λ from. copy from path) (pointer_at (codes "from") ms)
operation_named Test path ms = option_map (test path) (get_member (codes "value") ms)

abbrev pub operation_in : Members → Option Operation
operation_in ms = option_and_then (λ name. option_and_then (λ path. operation_named name path ms) (pointer_at (codes "path") ms)) (option_and_then name_in (text_at (codes "op") ms))

abbrev pub operations_in : Items → Option (List Operation)
operations_in no_items = Some []
operations_in (item d ds) = option_and_then (λ o. option_map (λ os. o ∷ os) (operations_in ds)) (option_and_then operation_in (as_object d))

abbrev pub operations_limit : ℕ
operations_limit = 10_000

abbrev pub or_bad : {A : Type 0} → Option A → Result A NoPatch
or_bad None = Err Bad
or_bad (Some a) = Ok a

-- of more than 10,000 the form isn't looked at
abbrev pub read_items : Items → Result (List Operation) NoPatch
read_items ds = if nat_lt operations_limit (items_len ds) then Err TooMany else or_bad (operations_in ds)

abbrev pub read_optional : Option Items → Result (List Operation) NoPatch
read_optional None = Err Bad
read_optional (Some ds) = read_items ds

-- the operations of a patch
abbrev pub read_patch : Data → Result (List Operation) NoPatch
read_patch d = read_optional (as_array d)
