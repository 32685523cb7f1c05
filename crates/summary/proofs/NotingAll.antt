-- What is summed up, after notices one by one.
use Rattle.std.proofs.Common.{◌≡◌, ℕ, ◌+◌, ◌-◌, ◌<◌, ◌≤◌, ◌^◌, Bool, true, false, cond, List, [], ◌∷◌, ◌++◌, length, map, take, drop, take-append-drop, get_or, refl, sym, ap, subst, ◌∙◌, arith}
use Rattle.std.specs.FinMap as fin
use Rattle.std.specs.Prelude.{IfErr}
use Rattle.std.specs.declared.result.Result.{Result}
use Rattle.std.specs.declared.result.Result.TheVariants.{Ok, Err}
use Rattle.std.proofs.lemmas.List.{length-append, length-map, map-append, take_more}
use Rattle.reflector.specs.Client.{Objects, place_in, Notice, added, updated, deleted}
use Rattle.reflector.specs.ReplayLaws.{with_notice, replayed, OldSidesMatch}
use Rattle.summary.specs.Counts.{Summed, summed_of}
use Rattle.summary.specs.Steps.{noted, noted_all}
use Rattle.summary.proofs.HowMany.{place_total}
use Rattle.summary.proofs.Noting.{summed_noted}

noted_more : (s : Summed) (xs : List Notice) (x : Notice) → noted_all s (xs ++ x ∷ []) ≡ noted (noted_all s xs) x
noted_more s [] x = refl
noted_more s (y ∷ xs) x = noted_more (noted s y) xs x

-- one more of the notices
pub next_noted : {A : Type 0} (f : A → Notice) (s : Summed) (xs : List A) (i : ℕ) (x : A) → i < length xs → x ≡ get_or xs i x
    → noted_all s (map f (take (i + 1) xs)) ≡ noted (noted_all s (map f (take i xs))) (f x)
next_noted f s xs i x lt is =
    ap (λ ys. noted_all s (map f ys)) (take_more xs i x lt) ∙ ap (noted_all s) (map-append f (take i xs) (get_or xs i x ∷ [])) ∙ noted_more s (map f (take i xs)) (f (get_or xs i x))
    ∙ ap (λ y. noted (noted_all s (map f (take i xs))) (f y)) (sym is)

-- ---- how many objects there are

at_most_one_more : (b : Bool) (m n : ℕ) → m ≡ cond b n (n + 1) → m ≤ n + 1
at_most_one_more true m n is = omega (arith, is)
at_most_one_more false m n is = omega (arith, is)

at_most_as_many : (b : Bool) (m n : ℕ) → m ≡ cond b (n - 1) n → m ≤ n + 1
at_most_as_many true m n is = omega (arith, is)
at_most_as_many false m n is = omega (arith, is)

one_more_object : (o : Objects) (n : Notice) → fin.len (with_notice o n) ≤ fin.len o + 1
one_more_object o (added new) = at_most_one_more (fin.contains_key o (place_in new)) _ (fin.len o) (fin.len-insert place_total o (place_in new) new)
one_more_object o (updated old new) = at_most_one_more (fin.contains_key o (place_in new)) _ (fin.len o) (fin.len-insert place_total o (place_in new) new)
one_more_object o (deleted old) = at_most_as_many (fin.contains_key o (place_in old)) _ (fin.len o) (fin.len-remove place_total o (place_in old))

-- ---- all of them, or the first ones

pub summed_noted_all : (label : List ℕ) (ns : List Notice) (o : Objects) → OldSidesMatch o ns → fin.len o + length ns < 2 ^ 63 → noted_all (summed_of label o) ns ≡ summed_of label (replayed o ns)
summed_noted_all label [] o old lt = refl
summed_noted_all label (n ∷ ns) o old lt =
    let one : fin.len (with_notice o n) ≤ fin.len o + 1 = one_more_object o n in
    ap (λ s. noted_all s ns) (summed_noted label o n old.0 (omega (arith, lt))) ∙ summed_noted_all label ns (with_notice o n) old.1 (omega (arith, lt, one))

old_some : (o : Objects) (xs ys : List Notice) → OldSidesMatch o (xs ++ ys) → OldSidesMatch o xs
old_some o [] ys old = tt
old_some o (x ∷ xs) ys old = (old.0, old_some (with_notice o x) xs ys old.1)

pub some_summed : {A : Type 0} (f : A → Notice) (label : List ℕ) (o : Objects) (all : List A) (k : ℕ) (s t : Summed) → s ≡ summed_of label o → OldSidesMatch o (map f all) → fin.len o + length all < 2 ^ 63
    → t ≡ noted_all s (map f (take k all)) → t ≡ summed_of label (replayed o (map f (take k all)))
some_summed f label o all k s t is old lt emitted =
    let first : List Notice = map f (take k all) in
    let rest : List Notice = map f (drop k all) in
    let parts : map f all ≡ first ++ rest = ap (map f) (sym (take-append-drop k all)) ∙ map-append f (take k all) (drop k all) in
    let long : length all ≡ length first + length rest = sym (length-map all f) ∙ ap length parts ∙ length-append first rest in
    let few : fin.len o + length first < 2 ^ 63 = omega (arith, lt, long) in
    emitted ∙ ap (λ u. noted_all u first) is ∙ summed_noted_all label first o (old_some o first rest (subst (OldSidesMatch o) parts old)) few

pub err_weaker : {A B : Type 0} (r : Result A B) (P Q : B → Type 0) → ((e : B) → P e → Q e) → IfErr r P → IfErr r Q
err_weaker (Ok x) P Q f h = tt
err_weaker (Err e) P Q f h = f e h
