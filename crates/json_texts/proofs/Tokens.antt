-- One token more, behind what is written.
use Rattle.std.proofs.Common.{◌≡◌, Bool, true, false, List, [], ◌∷◌, ◌++◌, Result, Ok, Err, OnOk, IsUtf8, ℕ, if◌then◌else◌, is_ok, refl, sym, ap, subst, ◌∙◌}
use Rattle.std.proofs.lemmas.List.{append_assoc, append-nil}
use Rattle.std.proofs.lemmas.Str.{IsUtf8-append}
use Rattle.json.specs.Token.{Token}
use Rattle.json.specs.Print.{begins, ends, ends_value, print, print_from, separator, token_text}
use Rattle.json.specs.Written.{Written}
use Rattle.json.proofs.Printed.Tokens.{print_from_push, ends_push}
use Rattle.serde_json.specs.Written.{comma_if}
use Rattle.json_texts.specs.Writing.{Follows, bytes_of}

one_more : (old new : Written) (t : Token) → new.before ≡ old.before → new.tokens ≡ old.tokens ++ t ∷ []
    → bytes_of new ≡ bytes_of old ++ (separator (ends_value old.tokens) t ++ token_text t)
one_more old new t before tokens =
    (λ i. before i ++ print (tokens i)) ∙ ap (λ l. old.before ++ l) (print_from_push false old.tokens t) ∙ sym (append_assoc old.before (print old.tokens) _)

separated : (b : Bool) (t : Token) → begins t ≡ true → separator b t ≡ comma_if b
separated true t begins = rw begins refl
separated false t begins = refl

-- a token that begins something, where what is due before it was put or is the writer's to put
pub begun : (old mid new : Written) (later : Bool) (t : Token) → begins t ≡ true
    → bytes_of mid ++ comma_if (ends_value mid.tokens) ≡ bytes_of old ++ comma_if later
    → new.before ≡ mid.before → new.tokens ≡ mid.tokens ++ t ∷ [] → bytes_of new ≡ bytes_of old ++ (comma_if later ++ token_text t)
begun old mid new later t starts settled before tokens =
    one_more mid new t before tokens ∙ ap (λ l. bytes_of mid ++ (l ++ token_text t)) (separated (ends_value mid.tokens) t starts)
    ∙ sym (append_assoc (bytes_of mid) (comma_if (ends_value mid.tokens)) (token_text t)) ∙ ap (λ l. l ++ token_text t) settled
    ∙ append_assoc (bytes_of old) (comma_if later) (token_text t)

unseparated : (b : Bool) (t : Token) → begins t ≡ false → separator b t ≡ []
unseparated true t begins = rw begins refl
unseparated false t begins = refl

-- a token that ends something
pub ended : (old new : Written) (t : Token) → begins t ≡ false → new.before ≡ old.before → new.tokens ≡ old.tokens ++ t ∷ [] → bytes_of new ≡ bytes_of old ++ token_text t
ended old new t stops before tokens = one_more old new t before tokens ∙ ap (λ l. bytes_of old ++ (l ++ token_text t)) (unseparated (ends_value old.tokens) t stops)

-- what follows a token is the writer's own again
pub follows : (old new : List Token) (t : Token) → new ≡ old ++ t ∷ [] → Follows (ends t) false new
follows old new t is = record { own = λ _. ap ends_value is ∙ ends_push false old t; anew = λ e. cc; due = λ e. cc }

-- ---- UTF-8

pub still_utf8 : {E : Type 0} (r : Result (Unit {0}) E) (old new text : List ℕ) → new ≡ (if is_ok r then old ++ text else old) → IsUtf8 text → IsUtf8 old → IsUtf8 new
still_utf8 (Ok x) old new text is t o = subst IsUtf8 (sym is) (IsUtf8-append old text o t)
still_utf8 (Err e) old new text is t o = subst IsUtf8 (sym is) o

-- ---- a writer that begins anew

pub weaker : {E : Type 0} {P Q : Type 0} (r : Result (Unit {0}) E) → (P → Q) → OnOk r P → OnOk r Q
weaker (Ok x) f p = f p
weaker (Err e) f p = tt

pub no_tokens : (w : Written) → w.tokens ≡ [] → bytes_of w ≡ w.before
unfolding print_from
no_tokens w anew = ap (λ ts. w.before ++ print ts) anew ∙ append-nil w.before

pub ended_none : (ts : List Token) → ts ≡ [] → comma_if (ends_value ts) ≡ []
ended_none ts anew = ap (λ ts. comma_if (ends_value ts)) anew
