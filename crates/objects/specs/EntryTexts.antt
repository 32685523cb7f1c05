-- For private clauses: an entry of `managedFields`, member by member in byte order of their names.
use Rattle.std.specs.Prelude.{ℕ, List, [], ◌∷◌, codes}
use Rattle.serde_json.specs.Data.{Data, string, Members, member}
use Rattle.objects.specs.Owners.{Manager, operation_text, subresource_text}

-- those before the manager's, and the others behind them
abbrev pub then_prefix : List ℕ → Data → Members → Members
then_prefix api_version fields rest = member (codes "apiVersion") (string api_version) (member (codes "fieldsType") (string (codes "FieldsV1")) (member (codes "fieldsV1") fields rest))

-- a text, unless it is empty
abbrev pub then_filled : List ℕ → List ℕ → Members → Members
then_filled k [] rest = rest
then_filled k (b ∷ bs) rest = member k (string (b ∷ bs)) rest

-- the manager's
abbrev pub then_manager : Manager → Members → Members
then_manager m rest = member (codes "manager") (string m.name) (member (codes "operation") (string (operation_text m.operation)) (then_filled (codes "subresource") (subresource_text m.subresource) rest))
