use Rattle.std.proofs.Common.{arith, ◌≡◌, ◌≤◌, ◌-◌, ◌∙◌, min, length, sym}
use Rattle.std.proofs.lemmas.List.{length-take}
use Rattle.wireclient.specs.Reply.{max_line}
use Rattle.wireclient.proofs.Lengthened.{counted, takes_line}
use Rattle.wireclient.proofs.taking.take_data.Goals as goal

pub slice_bounds-extend_from_slice-end : goal.slice_bounds-extend_from_slice-end
slice_bounds-extend_from_slice-end c =
    let room : c.min-room.result ≤ length c.args.piece.now = omega (arith, c.min-room.ensures, c.before_last.ensures) in
    let less : c.before_line_feed-count.result ≤ c.min-room.result = counted c.min-room.result c.before_line_feed-count.result c.args.piece.now room c.before_line_feed-count.ensures in
    sym (length-take c.before_line_feed-count.result c.args.piece.now ∙ omega (arith, room, less))

pub overflow_sub-result : goal.overflow_sub-result
overflow_sub-result c =
    let room : c.min-room.result ≤ length c.args.piece.now = omega (arith, c.min-room.ensures, c.before_last.ensures) in
    let less : c.before_line_feed-count.result ≤ c.min-room.result = counted c.min-room.result c.before_line_feed-count.result c.args.piece.now room c.before_line_feed-count.ensures in
    omega (arith, less, c.min-room.ensures, c.before_last.ensures)

pub returns : goal.returns
returns c =
    let room : c.min-room.result ≡ min (min (c.args.left - 1) (length c.args.piece.now)) (max_line - length c.args.text.items) = omega (arith, c.min-room.ensures, c.before_last.ensures, c.saturating_sub.ensures, c.len.ensures) in
    takes_line c.args.left c.min-room.result c.before_line_feed-count.result c.args.text.items c.args.piece.now c.extend_from_slice.new.self.items room c.before_line_feed-count.ensures c.in_ok-extend_from_slice.ensures.items
