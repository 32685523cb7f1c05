use Rattle.std.proofs.Common.{subst}
use Rattle.std.proofs.lemmas.Result.{on_ok_weaker}
use Rattle.std.specs.FinMap as fin
use Rattle.serde_json.specs.View.{members_view}
use Rattle.schema.specs.Shape.{shape}
use Rattle.json_texts.specs.Writing.{AppendsMembers}
use Rattle.objects.specs.InOrder.{then_entries}
use Rattle.objects.specs.ObjectText.{entry_items}
use Rattle.objects.specs.Views.{identity_of, stamp_of}
use Rattle.objects.proofs.MetadataTexts.{metadata_written}
use Rattle.objects.proofs.owned.Owned.write_in_order.Goals as goal

pub returns : goal.returns
returns c = λ below clean.
    let s = shape c.args.schema.now in
    let of = identity_of c.args.envelope.of in
    let two = c.write_members.new.out in
    let three = c.write_managed.new.out in
    let entries = subst (λ es. AppendsMembers (then_entries (entry_items s of.api_version es)) two three) c.entries.ensures.entries c.in_ok-write_managed.ensures in
    on_ok_weaker c.end_object.result (λ closed. metadata_written of (stamp_of c.args.envelope.stamp) (entry_items s of.api_version (fin.entries c.args.self.now.managers)) (members_view c.args.metadata_members.now.entries) below
    c.args.out.now c.begin_object.new.self two three c.write_key_and_version.new.out c.write_uid.new.out c.end_object.new.self c.in_ok-begin_object.ensures (c.in_ok-write_members.ensures clean) entries c.in_ok-write_key_and_version.ensures c.in_ok-write_uid.ensures closed) c.end_object.ensures
