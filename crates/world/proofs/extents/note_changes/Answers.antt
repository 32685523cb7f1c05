use Rattle.std.proofs.Common.{◌∙◌, ◌-◌, ◌&&◌, ℕ, None, ap, ap₂, false, length, not, refl}
use Rattle.std.specs.List.{slice_index_or}
use Rattle.httpedge.specs.declared.effect.Change.{Change}
use Rattle.world.proofs.Noted.{none_noted, one_more_noted}
use Rattle.world.proofs.extents.note_changes.Goals as goal

pub loop-id-init : goal.loop-id-init
loop-id-init c = λ t records. none_noted t c.args.noted.now

pub loop-id-preserved : goal.loop-id-preserved
loop-id-preserved c = λ t records.
    let none : ℕ × Change = (0, record { bytes = 0; lines = 0; status = None; has_ended = false }) in
    let entry = slice_index_or c.args.changes.now c.loop-id.id-index none in
    let change = entry.1 in
    let seen = c.extent_before-extent.ensures ∙ ap₂ (λ n b. (n - change.bytes, b && not change.has_ended)) (ap length (c.written-written.ensures t records)) (c.ended.ensures t records.0) in
    one_more_noted t c.args.changes.now c.loop-id.id-index none entry c.args.noted.now c.loop-id.noted c.put_first.new.values c.extent_before-extent.result c.loop-id-test.true refl
    c.in_ok-put_first.ensures seen (c.loop-id.invariant t records)
