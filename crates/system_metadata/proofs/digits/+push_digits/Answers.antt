use Rattle.std.proofs.Common.{◌≡◌, ◌∙◌, ℕ, List, [], ◌∷◌, ◌++◌, ◌<◌, OnOk, is_ok, cond, string_bytes, Ok, Err, Result, refl, sym, ap, append-nil, mod-lt, arith}
use Rattle.std.specs.Prelude.{encode_utf8}
use Rattle.system_metadata.specs.Digits.{last_digits}
use Rattle.system_metadata.proofs.LastDigits.{ascii_at, no_digits, one_more_digit}
use Rattle.system_metadata.proofs.digits.+push_digits.Goals as goal

pub returns-then-count-eq0 : goal.returns-then-count-eq0
returns-then-count-eq0 t c =
    let start = string_bytes c.args.text.now in
    let letters = c.args.letters.now in
    let none = ap (λ k. last_digits letters k c.args.number) c.if-count-eq0.true ∙ no_digits letters c.args.number in
    sym (ap (λ ds. start ++ ds) none ∙ append-nil start)

pushed : {U E : Type 0} (r : Result U E) (new old wanted : List ℕ) (letter : ℕ) → new ≡ cond (is_ok r) (old ++ encode_utf8 letter) old → encode_utf8 letter ≡ letter ∷ [] → old ++ letter ∷ [] ≡ wanted → OnOk r (new ≡ wanted)
pushed (Ok u) new old wanted letter is one e = is ∙ ap (λ l. old ++ l) one ∙ e
pushed (Err x) new old wanted letter is one e = tt

pub returns : goal.returns
returns t c =
    let letters = c.args.letters.now in
    let some : 0 < c.args.count = omega (arith, c.if-count-eq0.false) in
    let low = ascii_at letters _ c.requires.ascii (mod-lt c.args.number c.requires.base) in
    let e = one_more_digit letters (string_bytes c.args.text.now) (string_bytes c.push_digits.new.text) c.args.count c.args.number _ some c.in_ok-push_digits.ensures refl in
    pushed c.push.result _ _ _ _ c.push.ensures.bytes (c.push.ensures.ascii low) e
