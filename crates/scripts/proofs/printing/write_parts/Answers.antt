use Rattle.std.proofs.Common.{◌≡◌, ◌∙◌, ◌++◌, ◌+◌, ℕ, List, [], map, refl, subst, sym, take}
use Rattle.std.specs.Io.KnownBytes.{Appends}
use Rattle.std.proofs.KnownBytes.{Appends-nil, Appends-trans}
use Rattle.std.proofs.lemmas.List.{take_all, take-map}
use Rattle.scripts.specs.Output.{Prints, PrintsPrefix}
use Rattle.scripts.specs.Parts.{part_seen}
use Rattle.scripts.proofs.Endings.{output_as, where_it_fails}
use Rattle.scripts.proofs.OutputLemmas.{prefix_at, prefix_within, prints_more, seen_more}
use Rattle.scripts.proofs.printing.write_parts.Goals as goal

pub loop-part-init : goal.loop-part-init
loop-part-init g c = ([], refl, Appends-nil (g.W.Write.contents c.args.writer.now))

pub loop-part-preserved : goal.loop-part-preserved
loop-part-preserved g c =
    let before = c.loop-part.invariant in
    let more = prints_more _ _ before.0 c.in_ok-text.text.items before.1 c.in_ok-text.ensures in
    let put = subst (Appends (g.W.Write.contents c.loop-part.writer) (g.W.Write.contents c.write.new.writer)) c.deref.ensures.value c.in_ok-write.ensures.all in (
      before.0 ++ c.in_ok-text.text.items,
      subst (λ ps. Prints ps (before.0 ++ c.in_ok-text.text.items)) (sym (seen_more part_seen c.args.parts.now c.loop-part.part-index c.part-item.result c.loop-part-test.true c.part-item.is)) more,
      Appends-trans _ _ _ _ _ before.2 put,
    )

pub returns-clause-ok : goal.returns-clause-ok
returns-clause-ok g c =
    let all = c.loop-part.invariant in
    (all.0, subst (λ ps. Prints (map part_seen ps) all.0) (take_all c.loop-part.part-index c.args.parts.now c.loop-part-test.false) all.1, all.2)

pub returns-in_err-text-clause-prefix : goal.returns-in_err-text-clause-prefix
returns-in_err-text-clause-prefix g c =
    let all = c.loop-part.invariant in
    where_it_fails c.from_residual.result (all.0, prefix_at _ c.loop-part.part-index all.0 (subst (λ ps. Prints ps all.0) (sym (take-map part_seen c.loop-part.part-index c.args.parts.now)) all.1), all.2)

pub returns-in_err-text-clause-fault : goal.returns-in_err-text-clause-fault
returns-in_err-text-clause-fault g c = output_as _ _ c.from_residual.ensures.1 tt

pub returns-in_err-write-clause-prefix : goal.returns-in_err-write-clause-prefix
returns-in_err-write-clause-prefix g c =
    let before = c.loop-part.invariant in
    let some = c.in_err-write.ensures.prefix in
    let next = c.loop-part.part-index + 1 in
    let parts = map part_seen c.args.parts.now in
    let whole = sym c.deref.ensures.value ∙ some.2 in
    let more = prints_more _ _ before.0 c.in_ok-text.text.items before.1 c.in_ok-text.ensures in
    let all = subst (λ ps. Prints ps (before.0 ++ c.in_ok-text.text.items)) (sym (seen_more part_seen c.args.parts.now c.loop-part.part-index c.part-item.result c.loop-part-test.true c.part-item.is)) more in
    let printed = subst (λ ps. Prints ps (before.0 ++ c.in_ok-text.text.items)) (sym (take-map part_seen next c.args.parts.now)) all in
    where_it_fails c.from_residual-in_err-write.result (
      before.0 ++ some.0,
      prefix_within parts next before.0 some.0 some.1 (subst (λ (s : List ℕ). Prints (take next parts) (before.0 ++ s)) whole printed),
      Appends-trans _ _ _ _ _ before.2 some.3,
    )

pub returns-in_err-write-clause-fault : goal.returns-in_err-write-clause-fault
returns-in_err-write-clause-fault g c = output_as _ c.in_err-write.field-0.0 c.from_residual-in_err-write.ensures.1 c.in_err-write.ensures.fault
