use Rattle.std.proofs.Common.{◌≡◌, map, string_bytes, drop}
use Rattle.serde_json.specs.View.{items_view}
use Rattle.api_types.specs.Keywords.{texts_in}
use Rattle.api_types.proofs.Texts.{after}
use Rattle.api_types.proofs.forms.texts_in.Given as goal

abbrev pub invariant-loop-value : goal.invariant-loop-value
invariant-loop-value l = texts_in (items_view l.values) ≡ after (map string_bytes l.texts.items) (texts_in (items_view (drop l.value-index l.values)))
