-- A schema, level by level, and its fields one by one.
use Rattle.std.proofs.Common.{◌≡◌, ℕ, ◌+◌, ◌<◌, Bool, List, [], ◌∷◌, map, length, drop, get_or, drop-cons, add-one, String, Vec, Box, Global, string_bytes, suc, refl, sym, ap, ◌∙◌, rules}
use Rattle.schema.specs.Shape.{shape, struct_of, map_of, list_of, kind_of, field, fields_in}
use Rattle.schema.specs.Lawful.{names_of}
use Rattle.schema.specs.declared.schema.ListKind.{ListKind}
use Rattle.schema.specs.declared.schema.Schema as made
use Rattle.schema.specs.declared.schema.Schema.{Schema, Struct, MapOf, the_lemmas}

pub shape-Struct : (v : Vec (String Global × Schema) Global) (b : Bool) → shape (Struct v b) ≡ struct_of (fields_in v.items) b
shape-Struct v b = search (rules, the_lemmas)

pub names_of-fields_in : (fs : List (String Global × Schema)) → names_of (fields_in fs) ≡ map (λ f. string_bytes f.0) fs
names_of-fields_in [] = refl
names_of-fields_in (f ∷ fs) = ap (λ ns. string_bytes f.0 ∷ ns) (names_of-fields_in fs)

-- the first of the fields that are left
pub one_field : (fs : List (String Global × Schema)) (i : ℕ) (x : String Global × Schema) → i < length fs → x ≡ get_or fs i x
    → fields_in (drop i fs) ≡ field (string_bytes x.0) (shape x.1) (fields_in (drop (i + 1) fs))
one_field fs i x lt is = rw add-one (ap fields_in (drop-cons fs i x lt) ∙ ap (λ y. field (string_bytes y.0) (shape y.1) (fields_in (drop (suc i) fs))) (sym is))

pub shape-MapOf : (b : Box Schema Global) (a : Bool) → shape (MapOf b a) ≡ map_of (shape b.value) a
shape-MapOf b a = search (rules, the_lemmas)

pub shape-List : (b : Box Schema Global) (k : ListKind) → shape (made.List b k) ≡ list_of (shape b.value) (kind_of k)
shape-List b k = search (rules, the_lemmas)

pub struct_is : (s : Schema) (fields : Vec (String Global × Schema) Global) (b : Bool) (fs : List (String Global × Schema)) → s ≡ Struct fields b → fs ≡ fields.items → shape s ≡ struct_of (fields_in fs) b
struct_is s fields b fs is there = ap shape is ∙ shape-Struct fields b ∙ ap (λ l. struct_of (fields_in l) b) (sym there)
