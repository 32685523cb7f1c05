use Rattle.std.proofs.Common.{◌≡◌, ◌∙◌, ℕ, List, Global, Result, Ok, Err, MatchResult, IfOk, Equal, nat_cmp, is_eq, ap, sym, string_bytes}
use Rattle.std.specs.Cmp.Lexicographic.{slice_cmp}
use Rattle.std.specs.Rc.{rc_str_bytes}
use Rattle.std.specs.declared.rc.RcStr.{RcStr}
use Rattle.indexer.proofs.Same.{texts_equal}
use Rattle.indexer.proofs.texts.shared.Goals as goal

-- a copy of the text that was found
found_copied : {E : Type 0} (r : Result (RcStr Global) E) (known : RcStr Global) (text : List ℕ) (Q : E → Type 0) → MatchResult r (λ t. rc_str_bytes t ≡ rc_str_bytes known) Q
    → slice_cmp nat_cmp text (rc_str_bytes known) ≡ Equal → IfOk r (λ t. rc_str_bytes t ≡ text)
found_copied (Ok t) known text Q copy same = copy ∙ sym (texts_equal text (rc_str_bytes known) (ap is_eq same))
found_copied (Err e) known text Q copy same = tt

pub returns-in-Some-get_key_value : goal.returns-in-Some-get_key_value
returns-in-Some-get_key_value c =
    let same : slice_cmp nat_cmp (string_bytes c.args.text) (rc_str_bytes c.in-Some-get_key_value.known.now) ≡ Equal =
    ap (λ (t : List ℕ). slice_cmp nat_cmp t (rc_str_bytes c.in-Some-get_key_value.known.now)) (sym c.as_str.ensures.value) ∙ c.in-Some-get_key_value.ensures.same_key in
    found_copied c.clone.result c.in-Some-get_key_value.known.now (string_bytes c.args.text) _ c.clone.ensures.cases same
