-- Ids, and the one after all of them.
use Rattle.std.proofs.Common.{◌≡◌, ◌<◌, ◌∙◌, ◌+◌, ℕ, Bool, true, false, ◌&&◌, List, [], ◌∷◌, Option, Some, None, ap, refl, sym, arith}
use Rattle.std.specs.Prelude.{◌^◌, cond, nat_lt, unwrap_or}
use Rattle.std.specs.Option.{SomeIff}
use Rattle.std.specs.List.{list_all}
use Rattle.std.proofs.lemmas.Bool.{le-ltb, lt-ltb, ltb-true}
use Rattle.std.specs.FinMap as fin
use Rattle.httpedge.specs.Connections.{Connections, highest, id_after, is_new, next_id}
use Rattle.httpedge.specs.ConnectionViews.{is_above}

and_parts : (a b : Bool) → a && b ≡ true → (a ≡ true) × (b ≡ true)
and_parts true b h = (refl, h)
and_parts false b h = absurd cc

-- each is below what is above the highest
pub above_all : (ids : List ℕ) (q : ℕ) → highest ids < q → list_all (λ known. nat_lt known q) ids ≡ true
above_all [] q above = refl
above_all (id ∷ ids) q above =
    rw (lt-ltb id q (omega (arith, above))) (above_all ids q (omega (arith, above)))

-- the highest is below what all are below
pub below_all : (ids : List ℕ) (q : ℕ) → 0 < q → list_all (λ known. nat_lt known q) ids ≡ true → highest ids < q
below_all [] q some all = some
below_all (id ∷ ids) q some all =
    let parts = and_parts (nat_lt id q) (list_all (λ known. nat_lt known q) ids) all in
    let here : id < q = ltb-true id q parts.0 in
    let rest : highest ids < q = below_all ids q some parts.1 in
    omega (arith, here, rest)

not_above : (ids : List ℕ) (h : ℕ) → list_all (λ known. nat_lt known h) ids ≡ false → highest ids < h → ⊥
not_above ids h isnt below = let wrong : true ≡ false = sym (above_all ids h below) ∙ isnt in cc

-- the highest that the code holds is that of all known ids
pub is_highest : (all : Connections) (held : Option ℕ) → ((q : ℕ) → is_new all q ≡ is_above held q) → unwrap_or held 0 ≡ highest (fin.keys all)
is_highest all None new = let low : highest (fin.keys all) < 1 = below_all (fin.keys all) 1 (omega arith) (new 1) in omega (arith, low)
is_highest all (Some h) new =
    let low : highest (fin.keys all) < h + 1 = below_all (fin.keys all) (h + 1) (omega arith) (new (h + 1) ∙ lt-ltb h (h + 1) (omega arith)) in
    omega (arith, low, not_above (fin.keys all) h (new h ∙ le-ltb h h (omega arith)))

after_by : (old : ℕ) (r : Option ℕ) (b : Bool) → nat_lt old 18446744073709551615 ≡ b → SomeIff r (old + 1 < 2 ^ 64) (old + 1) → r ≡ cond b (Some (old + 1)) None
after_by old None true is over = let lt : old < 18446744073709551615 = ltb-true old 18446744073709551615 is in absurd (over (omega arith))
after_by old None false is over = refl
after_by old (Some id) true is fits = ap Some fits.1
after_by old (Some id) false is fits = let wrong : true ≡ false = sym (lt-ltb old 18446744073709551615 (omega (arith, fits.0))) ∙ is in cc

-- a checked sum is the id after
pub after_is : (old : ℕ) (r : Option ℕ) → SomeIff r (old + 1 < 2 ^ 64) (old + 1) → r ≡ id_after old
after_is old r sum = after_by old r (nat_lt old 18446744073709551615) refl sum

after_above : (ids : List ℕ) (id : ℕ) (b : Bool) → cond b (Some (highest ids + 1)) None ≡ Some id → list_all (λ known. nat_lt known id) ids ≡ true
after_above ids id true same = let next : highest ids + 1 ≡ id = ap (λ o. unwrap_or o 0) same in above_all ids id (omega (arith, next))
after_above ids id false same = absurd cc

-- the next id is new
pub next_is_new : (all : Connections) (id : ℕ) → next_id all ≡ Some id → is_new all id ≡ true
next_is_new all id is = after_above (fin.keys all) id (nat_lt (highest (fin.keys all)) 18446744073709551615) is
