-- Owners have a code, so that they can be what a type is seen as.
use Rattle.std.specs.Prelude.{◌≡◌, refl, ℕ, List, [], ◌∷◌, if◌then◌else◌, codes}
use Rattle.std.specs.Coded.{Coded, code_by}
use Rattle.std.specs.FinMap as fin
use Rattle.std.specs.Str.{bytes_eq}
use Rattle.fieldpath.specs.Paths.{PathTexts}
use Rattle.pathmap.specs.Codes.{coded_path, coded_paths}
use Rattle.objects.specs.declared.manager.Operation.{Operation}
use Rattle.objects.specs.declared.manager.Operation.TheVariants.{Apply, Update}
use Rattle.objects.specs.declared.manager.Subresource.{Subresource}
use Rattle.objects.specs.declared.manager.Subresource.TheVariants.{Main, Status}
use Rattle.objects.specs.Owners.{Manager, Owners, manager_by, manager_of, manager_texts}

abbrev pub operation_of : List ℕ → Operation
operation_of t = if bytes_eq t (codes "Apply") then Apply else Update

abbrev pub subresource_of : List ℕ → Subresource
subresource_of [] = Main
subresource_of _ = Status

-- the manager of these texts
abbrev pub from_texts : PathTexts → Manager
from_texts (n ∷ o ∷ s ∷ []) = manager_by n (operation_of o) (subresource_of s)
from_texts _ = manager_of [] Apply

texts_back : (n : List ℕ) (o : Operation) (s : Subresource) → from_texts (manager_texts (manager_by n o s)) ≡ manager_by n o s
texts_back n Apply Main = refl
texts_back n Apply Status = refl
texts_back n Update Main = refl
texts_back n Update Status = refl

pub from_texts-manager_texts : (m : Manager) → from_texts (manager_texts m) ≡ m
from_texts-manager_texts m = texts_back m.name m.operation m.subresource

abbrev pub coded_manager : Coded Manager
coded_manager = code_by PathTexts coded_path manager_texts from_texts from_texts-manager_texts

abbrev pub coded_owners : Coded Owners
coded_owners = fin.code coded_manager coded_paths
