-- The pages of a list, each the answer to a request of its own (Kubernetes API Concepts, "Retrieving large results sets in chunks").
use Rattle.std.specs.Prelude.{◌≡◌, ℕ, List, [], ◌∷◌, ◌++◌, Option, Some, None}
use Rattle.std.specs.declared.result.Result.TheVariants.{Ok}
use Rattle.std.specs.FinMap as fin
use Rattle.indexer.specs.Objects.{Stored}
use Rattle.wireclient.specs.Reply.{head, whole, end}
use Rattle.decoder.specs.Wanted.{Wanted}
use Rattle.decoder.specs.Pages.{Page, page_in}
use Rattle.reflector.specs.Client.{Objects, by_place, Client}
use Rattle.reflector.specs.Run.{asked, receives_all}

-- a client that asks and receives an answer of this body, for each body in turn
abbrev pub answered : Wanted → Client → List (List ℕ) → Client
answered wanted c [] = c
answered wanted c (body ∷ bodies) = answered wanted (receives_all wanted (asked c) (head 200 ∷ whole body ∷ end ∷ [])) bodies

-- a page without a token is the last, and then all objects have been told
abbrev pub IsLastPageOr : Objects → List Stored → Option (List ℕ) → List (List ℕ) → Type 0 → Type 0
IsLastPageOr o earlier None bodies others = (bodies ≡ []) × (fin.entries o ≡ by_place earlier)
IsLastPageOr o earlier (Some token) bodies others = others

-- these bodies are the pages, all of revision r, that tell the objects behind those told before
abbrev pub ArePages : Wanted → Objects → ℕ → List Stored → List (List ℕ) → Type 0
ArePages wanted o r earlier [] = ⊥
ArePages wanted o r earlier (body ∷ bodies) =
    (p : Page) × (page_in wanted body ≡ Ok p) × (p.revision ≡ r) × IsLastPageOr o (earlier ++ p.objects) p.token bodies (ArePages wanted o r (earlier ++ p.objects) bodies)
