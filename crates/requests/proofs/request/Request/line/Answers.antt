use Rattle.std.proofs.Common.{arith, ◌≡◌, ℕ, List, Some, None, take, sym, ap, subst, ◌∙◌}
use Rattle.std.specs.Prelude.{option_map}
use Rattle.std.proofs.lemmas.List.{length-take}
use Rattle.wire.specs.Heads.{head_end, max_head}
use Rattle.requests.specs.Heads.{IsLineOf}
use Rattle.requests.specs.ReadBufferViews.{request_bytes}
use Rattle.requests.specs.Views.{line_seen}
use Rattle.requests.proofs.Cuts.{prefix_short, prefix_within}
use Rattle.requests.proofs.Lines.{accepted_line, line_at}
use Rattle.requests.proofs.request.Request.line.Goals as goal

pub slice_bounds-line_of-end : goal.slice_bounds-line_of-end
slice_bounds-line_of-end c =
    let bytes = c.deref-2.result.now in
    let end = c.in_ok-end.end in
    let at : head_end (take max_head bytes) ≡ Some end =
    ap (λ (b : List ℕ). head_end (take max_head b)) (c.deref-2.ensures.value ∙ sym c.deref.ensures.value) ∙ sym c.in_ok-end.ensures in
    let low = prefix_within bytes end at in
    let taken = length-take end bytes in
    omega (arith, low, taken)

pub line_of-requires : goal.line_of-requires
line_of-requires c =
    let bytes = c.deref-2.result.now in
    let end = c.in_ok-end.end in
    let at : head_end (take max_head bytes) ≡ Some end =
    ap (λ (b : List ℕ). head_end (take max_head b)) (c.deref-2.ensures.value ∙ sym c.deref.ensures.value) ∙ sym c.in_ok-end.ensures in
    let short = prefix_short bytes end at in
    let taken = length-take end bytes in
    omega (arith, short, taken)

pub returns-in_err-end : goal.returns-in_err-end
returns-in_err-end c =
    let bytes = request_bytes c.args.self.now in
    let line = option_map line_seen c.from_residual.result in
    let reads = line_at bytes None line (c.in_err-end.ensures ∙ ap (λ (b : List ℕ). head_end (take max_head b)) c.deref.ensures.value) (ap (option_map line_seen) c.from_residual.ensures) in
    record { reads = reads; known = λ request rest said. accepted_line bytes line request rest reads said }

pub returns : goal.returns
returns c =
    let bytes = request_bytes c.args.self.now in
    let end = c.in_ok-end.end in
    let line = option_map line_seen c.line_of.result in
    let reads =
    line_at bytes (Some end) line (c.in_ok-end.ensures ∙ ap (λ (b : List ℕ). head_end (take max_head b)) c.deref.ensures.value)
    (subst (λ (b : List ℕ). IsLineOf (take end b) line) c.deref-2.ensures.value c.line_of.ensures) in
    record { reads = reads; known = λ request rest said. accepted_line bytes line request rest reads said }
