use Rattle.std.proofs.Common.{IsUtf8, sym, subst}
use Rattle.std.proofs.lemmas.Str.{IsUtf8-append}
use Rattle.json_texts.proofs.writing.taken.Goals as goal

pub returns-clause-utf8 : goal.returns-clause-utf8
returns-clause-utf8 c =
    λ before. subst IsUtf8 (sym c.into_inner.ensures.items) (IsUtf8-append _ _ (subst (λ w. IsUtf8 w.before) (sym c.replace.ensures.value) before) c.into_inner.ensures.utf8)
