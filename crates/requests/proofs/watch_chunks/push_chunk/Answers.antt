use Rattle.std.proofs.Common.{ℕ, List, ◌++◌, refl, ap, ap₂, ◌∙◌}
use Rattle.std.specs.Prelude.{string_bytes}
use Rattle.requests.proofs.Chunking.{chunk_put, in_err, on_items, stands, went_on}
use Rattle.requests.proofs.watch_chunks.push_chunk.Goals as goal

pub returns-clause-ok : goal.returns-clause-ok
returns-clause-ok c =
    let old = c.args.bytes.now.items in
    let line = c.args.line.now in
    let one = c.in_ok-extend_from_slice.ensures.items ∙ ap (λ (h : List ℕ). old ++ h) c.as_bytes.ensures.value in
    let two = c.in_ok-extend_from_slice-2.ensures.items ∙ ap₂ (λ (v t : List ℕ). v ++ t) one c.as_bytes-2.ensures.value in
    on_items c.extend_from_slice-3.result _ _ _ c.extend_from_slice-3.ensures.items
    (λ is. chunk_put old (string_bytes c.in_ok-head.head) line _ c.in_ok-head.ensures (is ∙ ap₂ (λ (v t : List ℕ). v ++ t) two c.as_bytes-3.ensures.value))

pub returns-in_err-head-clause-err : goal.returns-in_err-head-clause-err
returns-in_err-head-clause-err c = in_err c.from_residual.result (stands c.args.bytes.now.items c.args.bytes.now.items refl)

pub returns-in_err-extend_from_slice-clause-err : goal.returns-in_err-extend_from_slice-clause-err
returns-in_err-extend_from_slice-clause-err c =
    in_err c.from_residual-in_err-extend_from_slice.result (stands c.args.bytes.now.items c.extend_from_slice.new.self.items c.in_err-extend_from_slice.ensures.items)

pub returns-in_err-extend_from_slice-2-clause-err : goal.returns-in_err-extend_from_slice-2-clause-err
returns-in_err-extend_from_slice-2-clause-err c =
    in_err c.from_residual-in_err-extend_from_slice-2.result (c.as_bytes.result.now, c.in_err-extend_from_slice-2.ensures.items ∙ c.in_ok-extend_from_slice.ensures.items)

pub returns-clause-err : goal.returns-clause-err
returns-clause-err c =
    let mid = c.in_ok-extend_from_slice-2.ensures.items ∙ ap (λ (l : List ℕ). l ++ c.as_bytes-2.result.now) c.in_ok-extend_from_slice.ensures.items in
    went_on c.extend_from_slice-3.result c.args.bytes.now.items _ _ _ c.as_bytes.result.now c.as_bytes-2.result.now c.extend_from_slice-3.ensures.items mid
