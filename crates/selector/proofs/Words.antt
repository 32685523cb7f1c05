-- A text that ends in a word.
use Rattle.std.proofs.Common.{◌≡◌, ◌≢◌, ℕ, ◌+◌, ◌-◌, Bool, true, false, cond, List, ◌++◌, length, take, drop, Some, None, refl, sym, ap, ◌∙◌, arith, length-append, take-append-drop, drop_at}
use Rattle.std.specs.Str.{bytes_eq}
use Rattle.std.specs.Str.Pattern.{FindsTextSuffix, StripsSuffix}
use Rattle.std.proofs.lemmas.Slice.Eq.{bytes_eq-Decides}
use Rattle.selector.specs.Grammar.{before_word}

pub before_word-some : (word text : List ℕ) → text ≡ take (length text - length word) text ++ word → before_word word text ≡ Some (take (length text - length word) text)
before_word-some word text parts =
    let prefix = take (length text - length word) text in
    let sizes : length text ≡ length prefix + length word = ap length parts ∙ length-append prefix word in
    let back : drop (length text - length word) text ≡ word = ap (λ (t : List ℕ). drop (length text - length word) t) parts ∙ drop_at prefix word (length text - length word) (omega arith) in
    let same : bytes_eq (drop (length text - length word) text) word ≡ true = (bytes_eq-Decides (drop (length text - length word) text) word).1 back in
    rw same refl

pub before_word-none : (word text : List ℕ) → ((prefix : List ℕ) → text ≢ prefix ++ word) → before_word word text ≡ None
before_word-none word text other = go (bytes_eq (drop (length text - length word) text) word) refl
  where
    go : (t : Bool) → bytes_eq (drop (length text - length word) text) word ≡ t → cond t (Some (take (length text - length word) text)) None ≡ None
    go true e =
        let back : drop (length text - length word) text ≡ word = (bytes_eq-Decides (drop (length text - length word) text) word).0 e in
        absurd (other (take (length text - length word) text) (sym (take-append-drop (length text - length word) text) ∙ ap (λ (t : List ℕ). take (length text - length word) text ++ t) back))
    go false e = refl

-- what `strip_suffix` says of a word
pub strips_word : (word text prefix : List ℕ) → StripsSuffix (FindsTextSuffix word) text prefix → before_word word text ≡ Some prefix
strips_word word text prefix h =
    let size : h.0 ≡ length word = h.1.0 in
    let is : prefix ≡ take (length text - length word) text = rw size at h.2 in
    let parts : text ≡ take (length text - length word) text ++ word = rw size at h.1.1 in
    before_word-some word text parts ∙ ap Some (sym is)
