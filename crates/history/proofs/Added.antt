-- Objects that are added one after the other.
use Rattle.std.proofs.Common.{◌≡◌, Bool, true, false, cond, T, [], ◌∷◌, map, refl, sym, ap, subst, ◌∙◌, Option, Some, None}
use Rattle.std.specs.FinMap as fin
use Rattle.std.specs.FinMap.{find, is_sorted}
use Rattle.std.specs.FinMap.Entries.{below_all}
use Rattle.history.specs.History.{Key, key_cmp, Object, Objects, is_same_key}
use Rattle.history.specs.Seen.{Added, SeenChange, all_added, put_all_seen}
use Rattle.history.proofs.Keys.{key_cmp_total, same, tied}
use Rattle.history.proofs.Selecting.{Entries, fst, snd, not_below}

abbrev added : Key × Object → SeenChange
added e = record { kind = Added; key = e.0; object = e.1 }

abbrev or_else : Option Object → Option Object → Option Object
or_else None o = o
or_else (Some x) o = Some x

get-added : (s : Objects) (es : Entries) (q : Key) → T (is_sorted key_cmp es) → fin.get (put_all_seen s (map added es)) q ≡ or_else (find key_cmp q es) (fin.get s q)
get-added s [] q sorted = refl
get-added s (e ∷ es) q sorted =
    get-added (fin.insert s e.0 e.1) es q (snd _ _ sorted) ∙ ap (or_else (find key_cmp q es)) (fin.get-insert key_cmp_total s e.0 e.1 q) ∙ go (is_same_key q e.0) refl
  where
    go : (t : Bool) → is_same_key q e.0 ≡ t → or_else (find key_cmp q es) (cond t (Some e.1) (fin.get s q)) ≡ or_else (cond t (Some e.1) (find key_cmp q es)) (fin.get s q)
    go true t = ap (λ o. or_else o (Some e.1)) (not_below q es (subst (λ k. T (below_all key_cmp k es)) (sym (tied q e.0 t)) (fst _ _ sorted)))
    go false t = refl

or_none : (o : Option Object) → or_else o None ≡ o
or_none None = refl
or_none (Some x) = refl

pub all_put : (s : Objects) → put_all_seen fin.empty (all_added s) ≡ s
all_put s = same _ _ (λ q.
    get-added fin.empty (fin.entries s) q (fin.entries_sorted s) ∙ ap (or_else (find key_cmp q (fin.entries s))) (fin.get-empty key_cmp q)
    ∙ or_none (find key_cmp q (fin.entries s)) ∙ sym (fin.get-entries s q))
