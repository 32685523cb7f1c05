-- Where other types are served, documents stay where they are.
use Rattle.std.proofs.Common.{◌≡◌, ◌||◌, ℕ, suc, Bool, cond, List, [], ◌∷◌, map, None, refl, sym, ap, ap₂, ◌∙◌}
use Rattle.api_types.specs.Discovered.{are_discovered}
use Rattle.api_types.specs.Profiles.{is_discovered}
use Rattle.api_types.specs.TypesFile.{ServedShape}
use Rattle.discovery.specs.Paths.{document_at, document_in, document_or, first_from, server_document_at, server_or, type_document_at}
use Rattle.httpedge.specs.Runs.{lasting}

abbrev kept : ServedShape × Bool → ServedShape
kept l = l.0

first_lasts : (number : ℕ) (path : List ℕ) (ts : List ServedShape) → first_from number path (map kept (map lasting ts)) ≡ first_from number path ts
first_lasts number path [] = refl
first_lasts number path (t ∷ ts) = ap (document_or (type_document_at path t) number) (first_lasts (suc number) path ts)

at_lasts : (path : List ℕ) (ts : List ServedShape) → document_at (map kept (map lasting ts)) path ≡ document_at ts path
at_lasts path ts = ap (server_or (server_document_at path)) (first_lasts 0 path ts)

marks_last : (ts : List ServedShape) → are_discovered (map kept (map lasting ts)) ≡ are_discovered ts
marks_last [] = refl
marks_last (t ∷ ts) = ap (λ b. is_discovered t.profile || b) (marks_last ts)

in_lasts : (path : List ℕ) (ts : List ServedShape) → document_in (map kept (map lasting ts)) path ≡ document_in ts path
in_lasts path ts = ap₂ (λ b o. cond b o None) (marks_last ts) (at_lasts path ts)

pub documents_last : (types others : List ServedShape) → map lasting others ≡ map lasting types → (path : List ℕ) → document_in others path ≡ document_in types path
documents_last types others lasts path = sym (in_lasts path others) ∙ ap (λ ls. document_in (map kept ls) path) lasts ∙ in_lasts path types
