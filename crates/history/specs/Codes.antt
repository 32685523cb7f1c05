-- The codes by which a proof tells views apart: a view's fields as numbers and lists of them.
use Rattle.std.specs.Prelude.{◌≡◌, ℕ, List, [], ◌∷◌, Option, Some, None, refl}
use Rattle.std.specs.Coded.{Coded, code_by, coded×, coded_ℕ, coded_list}
use Rattle.std.specs.FinMap as fin
use Rattle.history.specs.History.{Key, Object, Objects, Change}
use Rattle.history.specs.View.{View}

abbrev pub key_code : Coded Key
key_code = code_by (ℕ × (List ℕ × List ℕ)) (coded× coded_ℕ (coded× (coded_list coded_ℕ) (coded_list coded_ℕ)))
    (λ k. (k.kind, (k.namespace, k.name))) (λ p. record { kind = p.0; namespace = p.1.0; name = p.1.1 }) (λ _. refl)

abbrev pub object_code : Coded Object
object_code = code_by (ℕ × List ℕ) (coded× coded_ℕ (coded_list coded_ℕ)) (λ o. (o.revision, o.body)) (λ p. record { revision = p.0; body = p.1 }) (λ _. refl)

abbrev pub objects_code : Coded Objects
objects_code = fin.code key_code object_code

-- a body is a list of at most one text
abbrev pub body_list : Option (List ℕ) → List (List ℕ)
body_list None = []
body_list (Some b) = b ∷ []

abbrev pub first_body : List (List ℕ) → Option (List ℕ)
first_body [] = None
first_body (b ∷ bs) = Some b

pub body_list_back : (b : Option (List ℕ)) → first_body (body_list b) ≡ b
body_list_back None = refl
body_list_back (Some b) = refl

abbrev pub body_code : Coded (Option (List ℕ))
body_code = code_by (List (List ℕ)) (coded_list (coded_list coded_ℕ)) body_list first_body body_list_back

abbrev pub change_code : Coded Change
change_code = code_by (ℕ × (Key × Option (List ℕ))) (coded× coded_ℕ (coded× key_code body_code))
    (λ c. (c.revision, (c.key, c.body))) (λ p. record { revision = p.0; key = p.1.0; body = p.1.1 }) (λ _. refl)

abbrev pub view_code : Coded View
view_code = code_by (ℕ × (ℕ × (Objects × List Change))) (coded× coded_ℕ (coded× coded_ℕ (coded× objects_code (coded_list change_code))))
    (λ v. (v.current, (v.compacted, (v.base, v.changes)))) (λ p. record { current = p.0; compacted = p.1.0; base = p.1.1.0; changes = p.1.1.1 }) (λ _. refl)
