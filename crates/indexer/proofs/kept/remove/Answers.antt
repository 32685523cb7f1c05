use Rattle.std.proofs.Common.{◌≡◌, ◌∙◌, ◌&&◌, not, cond, true, false, None, Option, Bool, ℕ, List, ap, sym, refl}
use Rattle.std.specs.Prelude.{option_map}
use Rattle.std.specs.BTreeMap.{get}
use Rattle.indexer.specs.declared.entry.Entry.{Entry}
use Rattle.indexer.specs.declared.texts.Texts.{Texts}
use Rattle.indexer.specs.Keys.{key_cmp, is_same}
use Rattle.indexer.specs.Kept.{seen_of, has_key}
use Rattle.indexer.specs.Objects.{texts_at, is_among}
use Rattle.indexer.proofs.Flags.{taken_out}
use Rattle.indexer.proofs.IndexedObjects.{held_remove, get_held}
use Rattle.indexer.proofs.Same.{same_bytes, get_copy}
use Rattle.indexer.proofs.kept.remove.Goals as goal

pub returns-in-Some-clause-removed : goal.returns-in-Some-clause-removed
returns-in-Some-clause-removed c = held_remove c.args.objects.now c.remove-was.new.self c.args.key.now c.remove-was.ensures.entries c.remove-was.ensures.updates.1

pub returns-in_default-clause-removed : goal.returns-in_default-clause-removed
returns-in_default-clause-removed c = held_remove c.args.objects.now c.remove-was.new.self c.args.key.now c.remove-was.ensures.entries c.remove-was.ensures.updates.1

pub returns-in-Some-clause-was : goal.returns-in-Some-clause-was
returns-in-Some-clause-was c = ap (option_map seen_of) c.remove-was.ensures.value ∙ sym (get_held c.args.objects.now c.args.key.now)

pub returns-in_default-clause-was : goal.returns-in_default-clause-was
returns-in_default-clause-was c = ap (option_map seen_of) c.remove-was.ensures.value ∙ sym (get_held c.args.objects.now c.args.key.now)

at_none : (t : Bool) (o : Option Entry) (i : ℕ) (k : List ℕ) → has_key (cond t None o) i k ≡ cond t false (has_key o i k)
at_none true o i k = refl
at_none false o i k = refl

pub returns-in-Some-clause-holds : goal.returns-in-Some-clause-holds
returns-in-Some-clause-holds c = λ i k q.
    let old = c.args.objects.now in
    let key = c.args.key.now in
    let u = has_key (get key_cmp old q) i k in
    let s = is_same key q in
    let m = is_among (texts_at c.deref.result.now i) k in
    let had : has_key (get key_cmp old key) i k ≡ m =
    ap (λ o. has_key o i k) (sym c.remove-was.ensures.value ∙ c.in-Some.is) ∙ sym (ap (λ (ks : List Texts). is_among (texts_at ks i) k) c.deref.ensures.value) in
    c.remove_all.ensures i k q
    ∙ ap (λ b. b && not ((m && not false) && s)) (c.requires i k q)
    ∙ taken_out u m s (λ e. ap (λ o. has_key o i k) (get_copy old key q (same_bytes key q e)) ∙ had)
    ∙ sym (ap (λ o. has_key o i k) (c.remove-was.ensures.updates.0 q) ∙ at_none s (get key_cmp old q) i k)
