use Rattle.std.proofs.Common.{IsOk, IsUtf8, sym, ap, subst, ◌∙◌, ◌++◌, true≢false}
use Rattle.json.specs.Print.{print}
use Rattle.discovery.proofs.document.written.Goals as goal

-- what is printed is UTF-8
pub unreachable-requires : goal.unreachable-requires
unreachable-requires c =
    true≢false (sym (subst IsOk c.in-Err.is (c.from_utf8.ensures.succeeds (subst IsUtf8 (sym (c.into_inner.ensures.items ∙ ap (λ bs. bs ++ print c.args.writer.tokens) c.requires)) c.into_inner.ensures.utf8))))
