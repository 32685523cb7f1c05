use Rattle.std.proofs.Common.{◌≡◌, sym, ap, ◌∙◌, subst, false}
use Rattle.std.specs.FinMap as fin
use Rattle.std.specs.Result.{OnOk}
use Rattle.serde_json.specs.Data.{Items, Members, object}
use Rattle.serde_json.specs.View.{members_view}
use Rattle.serde_json.specs.Written.{compact_text, has_float, members_have_float}
use Rattle.json_texts.specs.Writing.{with_text}
use Rattle.schema.specs.Shape.{shape}
use Rattle.objects.specs.ObjectText.{entry_items, metadata_round}
use Rattle.objects.specs.Views.{identity_of, stamp_of}
use Rattle.objects.proofs.SystemMetadata.{life_clean}
use Rattle.objects.proofs.owned.Owned.write_metadata.Goals as goal

pub returns-then-are_below : goal.returns-then-are_below
returns-then-are_below c = λ clean whole.
    let of = identity_of c.args.envelope.of in
    let stamp = stamp_of c.args.envelope.stamp in
    let entries = entry_items (shape c.args.schema.now) of.api_version (fin.entries c.args.self.now.managers) in
    let lived = c.in_ok-put_life.ensures in
    subst (λ (ms : Members). OnOk c.write_in_order.result (c.write_in_order.new.out ≡ with_text (compact_text (object (metadata_round of stamp entries ms))) c.args.out.now)) lived
    (c.write_in_order.ensures (sym c.are_below.ensures ∙ c.if-are_below.true) (ap members_have_float lived ∙ life_clean stamp.system (members_view c.args.metadata_members.entries) clean))

pub returns : goal.returns
returns c = λ clean.
    let of = identity_of c.args.envelope.of in
    let stamp = stamp_of c.args.envelope.stamp in
    let entries = entry_items (shape c.args.schema.now) of.api_version (fin.entries c.args.self.now.managers) in
    let ms = members_view c.put_life.new.members.entries in
    subst (λ (lived : Members). has_float (object (metadata_round of stamp entries lived)) ≡ false
    → OnOk c.write_put_together.result (c.write_put_together.new.out ≡ with_text (compact_text (object (metadata_round of stamp entries lived))) c.args.out.now)) c.in_ok-put_life.ensures
    (subst (λ (items : Items). has_float (object (metadata_round of stamp items ms)) ≡ false
    → OnOk c.write_put_together.result (c.write_put_together.new.out ≡ with_text (compact_text (object (metadata_round of stamp items ms))) c.args.out.now)) c.in_ok-items.ensures c.write_put_together.ensures)
