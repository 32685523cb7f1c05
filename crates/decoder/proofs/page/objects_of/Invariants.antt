use Rattle.std.proofs.Common.{◌≡◌, map, drop}
use Rattle.serde_json.specs.View.{items_view}
use Rattle.indexer.specs.Objects.{shared_of}
use Rattle.decoder.specs.Pages.{objects_of}
use Rattle.decoder.specs.Views.{wanted_of}
use Rattle.decoder.proofs.Listed.{and_more}
use Rattle.decoder.proofs.page.objects_of.Given as goal

-- what is there and what is left give the whole
abbrev pub invariant-loop-item : goal.invariant-loop-item
invariant-loop-item l =
    and_more (map shared_of l.objects.items) (objects_of (wanted_of l.wanted) (items_view (drop l.item-index l.items))) ≡ objects_of (wanted_of l.wanted) (items_view l.items)
