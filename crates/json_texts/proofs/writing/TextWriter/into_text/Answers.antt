use Rattle.std.proofs.Common.{IsOk, IsUtf8, sym, subst, true≢false}
use Rattle.std.proofs.lemmas.Str.{IsUtf8-append}
use Rattle.json_texts.proofs.writing.TextWriter.into_text.Goals as goal

-- what the writer holds is UTF-8
pub unreachable-requires : goal.unreachable-requires
unreachable-requires c =
    true≢false
    (sym (subst IsOk c.in-Err.is (c.from_utf8.ensures.succeeds (subst IsUtf8 (sym c.into_inner.ensures.items) (IsUtf8-append _ _ c.self.invariant.utf8 c.into_inner.ensures.utf8)))))
