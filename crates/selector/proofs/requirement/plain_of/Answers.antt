use Rattle.std.proofs.Common.{◌∙◌, ap, sym, lit<, List, ℕ, Option, Ok, Some, refl}
use Rattle.std.proofs.lemmas.Str.Pattern.{split_parts, strip_prefix_char, strip_suffix_char}
use Rattle.selector.specs.Grammar.{Sign, equal, different, cut_at_sign, signed, plain_of, required}
use Rattle.selector.specs.Requirement.{exists}
use Rattle.selector.specs.Views.{requirement_of}
use Rattle.selector.proofs.Found.{at_none, at_some, some_bytes}
use Rattle.selector.proofs.Reading.{gives_along}
use Rattle.selector.proofs.Signs.{plain_is, cut_none, cut_equal, cut_different, sign_equal}
use Rattle.selector.proofs.requirement.plain_of.Goals as goal

pub returns-in_default-split_once : goal.returns-in_default-split_once
returns-in_default-split_once c =
    let part = c.args.part.now in
    let some = some_bytes part c.is_empty.result c.is_empty.ensures c.if-is_empty.false in
    let plain = at_none c.strip_prefix.result _ _ c.in_default.is (strip_prefix_char 33 part c.strip_prefix.result c.strip_prefix.ensures.cases (lit< tt)) in
    let lacks = at_none c.split_once.result _ _ c.in_default-split_once.is (split_parts 61 part c.split_once.result c.split_once.ensures.cases (lit< tt)) in
    gives_along requirement_of c.about_key-in_default-split_once.result (plain_of part) (required part (Ok exists))
    (plain_is part some plain ∙ ap (λ (p : List ℕ × Option (Sign × List ℕ)). signed p.0 p.1) (cut_none part lacks)) c.about_key-in_default-split_once.ensures

pub returns-in-Some-strip_suffix : goal.returns-in-Some-strip_suffix
returns-in-Some-strip_suffix c =
    let part = c.args.part.now in
    let before = c.in-Some-split_once.before.now in
    let after = c.in-Some-split_once.after.now in
    let key = c.in-Some-strip_suffix.key.now in
    let some = some_bytes part c.is_empty.result c.is_empty.ensures c.if-is_empty.false in
    let plain = at_none c.strip_prefix.result _ _ c.in_default.is (strip_prefix_char 33 part c.strip_prefix.result c.strip_prefix.ensures.cases (lit< tt)) in
    let parts = at_some c.split_once.result _ _ _ c.in-Some-split_once.is (split_parts 61 part c.split_once.result c.split_once.ensures.cases (lit< tt)) in
    let marked = at_some c.strip_suffix.result _ _ _ c.in-Some-strip_suffix.is (strip_suffix_char 33 before c.strip_suffix.result c.strip_suffix.ensures.cases (lit< tt)) in
    gives_along requirement_of c.differs.result (plain_of part) (signed key (Some (different, after)))
    (plain_is part some plain ∙ ap (λ (p : List ℕ × Option (Sign × List ℕ)). signed p.0 p.1) (ap cut_at_sign parts.0 ∙ cut_different before key after parts.1 marked)) c.differs.ensures

pub returns-in-None : goal.returns-in-None
returns-in-None c =
    let part = c.args.part.now in
    let before = c.in-Some-split_once.before.now in
    let after = c.in-Some-split_once.after in
    let value = c.unwrap_or.result in
    let some = some_bytes part c.is_empty.result c.is_empty.ensures c.if-is_empty.false in
    let plain = at_none c.strip_prefix.result _ _ c.in_default.is (strip_prefix_char 33 part c.strip_prefix.result c.strip_prefix.ensures.cases (lit< tt)) in
    let parts = at_some c.split_once.result _ _ _ c.in-Some-split_once.is (split_parts 61 part c.split_once.result c.split_once.ensures.cases (lit< tt)) in
    let unmarked = at_none c.strip_suffix.result _ _ c.in-None.is (strip_suffix_char 33 before c.strip_suffix.result c.strip_suffix.ensures.cases (lit< tt)) in
    let sign = sign_equal after.now c.strip_prefix-in-None.result after refl (strip_prefix_char 61 after.now c.strip_prefix-in-None.result c.strip_prefix-in-None.ensures.cases (lit< tt))
    ∙ ap (λ v. Some (equal, v.now)) (sym c.unwrap_or.ensures) in
    gives_along requirement_of c.equals.result (plain_of part) (signed before (Some (equal, value.now)))
    (plain_is part some plain ∙ ap (λ (p : List ℕ × Option (Sign × List ℕ)). signed p.0 p.1) (ap cut_at_sign parts.0 ∙ cut_equal before after.now value.now parts.1 unmarked sign)) c.equals.ensures
