use Rattle.std.proofs.Common.{arith, ℕ, List, ◌++◌, Bool, cond, Some, None, sym, ap, ap₂, subst, ◌∙◌}
use Rattle.std.proofs.lemmas.Bool.{le-ltb, lt-ltb}
use Rattle.std.proofs.lemmas.List.{take-append-drop}
use Rattle.std.specs.Prelude.{length, drop}
use Rattle.requests.specs.Decision.{undecided, refused}
use Rattle.wire.specs.Heads.{max_head}
use Rattle.requests.specs.Heads.{HeadDecision, ReadsWholeHead}
use Rattle.requests.specs.Refusals.{head_too_large, refuse}
use Rattle.requests.specs.Views.{EndsIn, decision_of, head_of}
use Rattle.requests.proofs.Cuts.{prefix_short, prefix_within, reads_at}
use Rattle.requests.proofs.head.read_to.Goals as goal

pub split_at-requires : goal.split_at-requires
split_at-requires c = prefix_within c.args.bytes.now c.in-Some.end (sym c.requires ∙ c.in-Some.is)

pub validate-requires : goal.validate-requires
validate-requires c =
    let short = prefix_short c.args.bytes.now c.in-Some.end (sym c.requires ∙ c.in-Some.is) in
    let same = c.split_at.ensures.front_len in
    omega (arith, short, same)

pub returns-in-Some-clause-says : goal.returns-in-Some-clause-says
returns-in-Some-clause-says c =
    let said = decision_of head_of c.validate.result in
    let cut = c.split_at.result in
    reads_at c.args.bytes.now (Some c.in-Some.end) said (sym c.in-Some.is ∙ c.requires)
    (subst (λ (head : List ℕ). ReadsWholeHead head (drop c.in-Some.end c.args.bytes.now) said) c.split_at.ensures.front
    (subst (λ (rest : List ℕ). ReadsWholeHead cut.0.now rest said) c.split_at.ensures.back c.validate.ensures.says))

pub returns-in-Some-clause-ends : goal.returns-in-Some-clause-ends
returns-in-Some-clause-ends c =
    let bytes = c.args.bytes.now in
    let end = c.in-Some.end in
    subst (λ (b : List ℕ). EndsIn b c.validate.result) (ap₂ (λ (x y : List ℕ). x ++ y) c.split_at.ensures.front c.split_at.ensures.back ∙ take-append-drop end bytes) c.validate.ensures.ends

abbrev too_long : Bool → HeadDecision
too_long b = cond b (refuse head_too_large) undecided

pub returns-in-None-clause-says : goal.returns-in-None-clause-says
returns-in-None-clause-says c =
    let bytes = c.args.bytes.now in
    reads_at bytes None (refused _) (sym c.in-None.is ∙ c.requires)
    (ap refused c.denied.ensures ∙ sym (ap too_long (lt-ltb max_head (length bytes) c.if-bytes-gt-MAX_HEAD.true)))

pub returns-in-None-2-clause-says : goal.returns-in-None-2-clause-says
returns-in-None-2-clause-says c =
    let bytes = c.args.bytes.now in
    reads_at bytes None undecided (sym c.in-None-2.is ∙ c.requires) (sym (ap too_long (le-ltb max_head (length bytes) c.if-bytes-gt-MAX_HEAD.false)))
