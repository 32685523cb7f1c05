-- The changes of a plan, made in the store.
use Rattle.std.proofs.Common.{◌≡◌, ◌≤◌, ◌+◌, ℕ, suc, true, false, true≢false, List, [], ◌∷◌, length, map, Option, refl, sym, ap, subst, ◌∙◌, arith}
use Rattle.std.specs.Prelude.{◌==◌, IfSome, IsUtf8}
use Rattle.std.proofs.lemmas.Bool.Decides.{nat_tests}
use Rattle.std.proofs.lemmas.List.{length-map}
use Rattle.api_types.specs.TypesFile.{ServedShape}
use Rattle.history.specs.History.{Change, History, Key, last_revision, written}
use Rattle.history.specs.Read.{write_of}
use Rattle.history.specs.View.{View, view}
use Rattle.history.specs.Whole.{AreThere}
use Rattle.history.specs.Writes.{changes_by, written_all, written_all_in}
use Rattle.history.specs.declared.write.Write.{Write}
use Rattle.history.proofs.Writes.{changes_all, view_all}
use Rattle.verbs.specs.declared.api.Api.{Api}
use Rattle.verbs.specs.Machine.{AreNext, AreUnicode, ComeAfter, after}
use Rattle.verbs.specs.Views.{ApiRepresents, objects_in, types_of}
use Rattle.verbs.proofs.Promise.{after_machine}
use Rattle.verbs.proofs.Served.{all_append, writes_utf8}

-- ---- writes that come after what is seen

-- they begin at its revision
begins : (v : View) (r : ℕ) (w : Write) (ws : List Write) → ComeAfter v (changes_by r (map write_of (w ∷ ws))) → r ≡ v.current
begins v r w ws is = let next : suc r ≡ suc v.current = is.next.0 in omega (arith, next)

pub each_there : (v : View) (r : ℕ) (ws : List Write) → ComeAfter v (changes_by r (map write_of ws)) → AreThere (objects_in v) (changes_by v.current (map write_of ws))
each_there v r [] is = tt
each_there v r (w ∷ ws) is = subst (λ (n : ℕ). AreThere (objects_in v) (changes_by n (map write_of (w ∷ ws)))) (begins v r w ws is) is.there

pub each_fits : (v : View) (r : ℕ) (ws : List Write) → (length ws == 0) ≡ false → r + length ws ≤ last_revision → ComeAfter v (changes_by r (map write_of ws)) → v.current + length (map write_of ws) ≤ last_revision
each_fits v r [] some fits is = absurd (true≢false some)
each_fits v r (w ∷ ws) some fits is =
    let begin = begins v r w ws is in
    let many : length (map write_of ws) ≡ length ws = length-map ws write_of in
    let most : r + suc (length ws) ≤ last_revision = fits in
    omega (arith, begin, many, most)

full : (n : ℕ) → (suc n == 0) ≡ false
full n = grind (arith, nat_tests)

pub none_made : (v : View) (ws : List Write) → (length ws == 0) ≡ true → v ≡ written_all_in v (map write_of ws)
none_made v [] is = refl
none_made v (w ∷ ws) is = absurd (true≢false (sym is ∙ full (length ws)))

-- ---- what the API then stands for

after_each : (m : History) (r : ℕ) (ws : List (Key × Option (List ℕ))) → after m (changes_by r ws) ≡ written_all m ws
after_each m r [] = refl
after_each m r (w ∷ ws) = after_each (written m w.0 w.1) (suc r) ws

pub represents_each : (api new : Api) (types : List ServedShape) (m : History) (r : ℕ) (ws : List Write) → ApiRepresents api types m → AreNext types m (changes_by r (map write_of ws))
    → types_of new ≡ types_of api → new.store ≡ written_all_in api.store (map write_of ws) → ApiRepresents new types (after m (changes_by r (map write_of ws)))
represents_each api new types m r ws represents next serves store =
    let all = map write_of ws in
    let same : written_all m all ≡ after m (changes_by r all) = sym (after_each m r all) in
    record {
      is_machine = after_machine types m (changes_by r all) represents.is_machine next;
      serves = serves ∙ represents.serves;
      store = store ∙ ap (λ (v : View). written_all_in v all) represents.store ∙ sym (view_all m all represents.is_machine.whole.low) ∙ ap view same;
      unicode = subst (λ (h : History). AreUnicode h.changes) same
          (subst AreUnicode (sym (changes_all m all))
          (all_append (λ (c : Change). IfSome c.body IsUtf8) m.changes (changes_by m.current all) represents.unicode (writes_utf8 m.current ws)));
    }
