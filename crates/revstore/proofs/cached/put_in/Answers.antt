use Rattle.std.proofs.Common.{◌≡◌, suc, ap, option_map, subst, sym, ◌∙◌}
use Rattle.history.specs.History.{object_by}
use Rattle.history.specs.Read.{key_of}
use Rattle.revstore.specs.CachedObject.{IsCurrent, slot_of}
use Rattle.revstore.specs.Shared.{object_in}
use Rattle.revstore.proofs.ObjectCache.{if_some, none_written, put_read, put_written}
use Rattle.revstore.proofs.cached.put_in.Goals as goal

pub returns-then-slots-at-clause-next : goal.returns-then-slots-at-clause-next
returns-then-slots-at-clause-next c = λ h body rise cached it. none_written h _ body c.args.slots.now c.slot_of-at.result rise (c.slot_of-at.ensures ∙ ap (λ k. slot_of (key_of k)) c.deref.ensures) c.if-slots-at.true cached

pub returns-clause-same : goal.returns-clause-same
returns-clause-same c = λ h cached is.
    put_read h (key_of c.args.cached.key.value) c.args.slots.now c.slot_of-at.result c.short.result (c.slot_of-at.ensures ∙ ap (λ k. slot_of (key_of k)) c.deref.ensures) cached
    (if_some (λ x. x ≡ c.args.cached) (λ x. (key_of x.key.value ≡ key_of c.args.cached.key.value) × IsCurrent h x) c.short.result
    (λ x same. (ap (λ y. key_of y.key.value) same, subst (IsCurrent h) (sym same) is)) c.short.ensures)

pub returns-clause-next : goal.returns-clause-next
returns-clause-next c = λ h body rise cached is.
    put_written h (key_of c.args.cached.key.value) body c.args.slots.now c.slot_of-at.result c.short.result rise (c.slot_of-at.ensures ∙ ap (λ k. slot_of (key_of k)) c.deref.ensures) cached
    (if_some (λ x. x ≡ c.args.cached) (λ x. (key_of x.key.value ≡ key_of c.args.cached.key.value) × (option_map object_in x.object ≡ object_by (suc h.current) body)) c.short.result
    (λ x same. (ap (λ y. key_of y.key.value) same, ap (λ y. option_map object_in y.object) same ∙ is)) c.short.ensures)
