use Rattle.std.proofs.Common.{◌∙◌, ap, sym, Option, List, ℕ}
use Rattle.std.specs.Prelude.{option_map}
use Rattle.indexer.specs.Kept.{seen_of}
use Rattle.indexer.specs.Objects.{Stored}
use Rattle.indexer.proofs.IndexedObjects.{get_held}
use Rattle.indexer.proofs.kept.object_at.Goals as goal

abbrev first : Option (Stored × List (List (List ℕ))) → Option Stored
first o = option_map (λ h. h.0) o

pub returns-in-Some : goal.returns-in-Some
returns-in-Some c = ap (λ o. first (option_map seen_of o)) c.in-Some.ensures.value ∙ sym (ap first (get_held c.args.objects.now c.args.key.now))

pub returns-in-None : goal.returns-in-None
returns-in-None c = ap (λ o. first (option_map seen_of o)) c.in-None.ensures.value ∙ sym (ap first (get_held c.args.objects.now c.args.key.now))
