-- JSON Merge Patch (RFC 7386, and RFC 7396 in the same words), section 2:
--
--     define MergePatch(Target, Patch):
--       if Patch is an Object:
--         if Target is not an Object:
--           Target = {} # Ignore the contents and set it to an empty Object
--         for each Name/Value pair in Patch:
--           if Value is null:
--             if Name exists in Target:
--               remove the Name/Value pair from Target
--           else:
--             Target[Name] = MergePatch(Target[Name], Value)
--         return Target
--       else:
--         return Patch
--
-- An object has each name once (of a text's equal names the last counts), and its members in the order of their names.
use Rattle.std.specs.Prelude.{ℕ, List, is_some, unwrap_or, if◌then◌else◌}
use Rattle.serde_json.specs.Data.{Data, null, boolean, number, string, array, object, Members, no_members, member, put}
use Rattle.serde_json.specs.Find.{get_member, as_null, as_object}
use Rattle.json_values.specs.Members.{less}

-- the target's members; none where it isn't an object
abbrev pub members_of : Data → Members
members_of target = unwrap_or (as_object target) no_members

-- Target[Name]; null, which isn't an object either, where the name isn't there
abbrev pub value_at : List ℕ → Members → Data
value_at name target = unwrap_or (get_member name target) null

abbrev mutual
  -- MergePatch(Target, Patch)
  pub merge_patch : Data → Data → Data
  merge_patch target null = null
  merge_patch target (boolean b) = boolean b
  merge_patch target (number n) = number n
  merge_patch target (string s) = string s
  merge_patch target (array ds) = array ds
  merge_patch target (object ms) = object (merge_members (members_of target) ms)

  -- the target's members after these of the patch
  pub merge_members : Members → Members → Members
  merge_members target no_members = target
  merge_members target (member name d ms) = merge_members (if is_some (as_null d) then less name target else put name (merge_patch (value_at name target) d) target) ms
