-- The next change of a key, and what it says of the row before it.
use Rattle.std.proofs.Common.{◌≡◌, ℕ, ◌<◌, ◌≤◌, Bool, true, false, cond, not, ◌&&◌, ◌||◌, List, [], ◌∷◌, ◌++◌, map, filter, refl, sym, ap, ◌∙◌, Option, Some, None, arith, slice_get, is_eq}
use Rattle.std.proofs.Common.{leb-true, leb-false, lt-ltb, le-ltb}
use Rattle.std.proofs.lemmas.Cmp.{tied_itself}
use Rattle.std.specs.Prelude.{nat_le, nat_lt, is_some}
use Rattle.std.specs.List.{AllByRecursion}
use Rattle.std.specs.Cmp.{eq_by_cmp_equiv}
use Rattle.history.specs.History.{Key, Change, IsRising, is_same_key}
use Rattle.history.specs.Kept.{is_last_up_to, with_body}
use Rattle.history.proofs.Keys.{key_cmp_total}
use Rattle.history.proofs.CurrentObjects.{has_later, current_objects_by, current_objects_is}
use Rattle.history.proofs.Views.{none_later}
use Rattle.revtable.specs.Spans.{is_past, made_by, next_of, span_until, spans_of, spans_until, is_current_at}
use Rattle.sqlite_keyed.proofs.ListLemmas.{all-append}

pub same_key_symm : (a b : Key) → is_same_key a b ≡ is_same_key b a
same_key_symm a b = (eq_by_cmp_equiv key_cmp_total).symm a b

pub key_itself : (k : Key) → is_same_key k k ≡ true
key_itself k = ap is_eq (tied_itself key_cmp_total k)

pub next-cons : (k : Key) (d : Change) (cs : List Change) → next_of k (d ∷ cs) ≡ cond (is_same_key k d.key) (Some d) (next_of k cs)
next-cons k d cs = go (is_same_key k d.key)
  where
    go : (b : Bool) → slice_get (cond b (d ∷ filter (λ c. is_same_key k c.key) cs) (filter (λ c. is_same_key k c.key) cs)) 0 ≡ cond b (Some d) (next_of k cs)
    go true = refl
    go false = refl

abbrev next_past : ℕ → Option Change → Bool
next_past c None = true
next_past c (Some n) = nat_lt c n.revision

and_false : (b : Bool) → (b && false) ≡ false
and_false true = refl
and_false false = refl

-- a change of the key up to c is there if the next one is not past c
pub later_next : (c lo top : ℕ) (k : Key) (cs : List Change) → IsRising lo cs top → has_later c k cs ≡ not (next_past c (next_of k cs))
later_next c lo top k [] rise = refl
later_next c lo top k (d ∷ cs) rise =
    go (is_same_key k d.key) (nat_le d.revision c) refl (later_next c d.revision top k cs rise.1)
    ∙ ap (λ o. not (next_past c o)) (sym (next-cons k d cs))
  where
    go : (s l : Bool) → nat_le d.revision c ≡ l → has_later c k cs ≡ not (next_past c (next_of k cs)) → ((l && s) || has_later c k cs) ≡ not (next_past c (cond s (Some d) (next_of k cs)))
    go true true e more = let a : d.revision ≤ c = leb-true _ _ e in ap not (sym (le-ltb c d.revision a))
    go true false e more =
        let a : c < d.revision = leb-false _ _ e in
        none_later c d.revision top k cs (omega arith) rise.1 ∙ ap not (sym (lt-ltb c d.revision a))
    go false l e more = ap (λ b. b || has_later c k cs) (and_false l) ∙ more

past_until : (r first : ℕ) (k : Key) (body : List ℕ) (n : Option Change) → is_past r (span_until k first body n).ended ≡ next_past r n
past_until r first k body None = refl
past_until r first k body (Some n) = refl

not_not : (b : Bool) → not (not b) ≡ b
not_not true = refl
not_not false = refl

-- a row is not ended up to c if no later change of the key is there up to c
pub past_is : (c lo top first : ℕ) (k : Key) (body : List ℕ) (cs : List Change) → IsRising lo cs top → is_past c (span_until k first body (next_of k cs)).ended ≡ not (has_later c k cs)
past_is c lo top first k body cs rise = past_until c first k body (next_of k cs) ∙ sym (ap not (later_next c lo top k cs rise) ∙ not_not (next_past c (next_of k cs)))

pub made_until : (c : Change) (body : List ℕ) (n : Option Change) → c.body ≡ Some body → made_by (span_until c.key c.revision body n) ≡ c
made_until c body None e = rw (sym e) refl
made_until c body (Some n) e = rw (sym e) refl

-- ---- what the rows began with

pub made_all : (cs : List Change) → map made_by (spans_of cs) ≡ with_body cs
made_all [] = refl
made_all (c ∷ cs) = go c.body refl (made_all cs)
  where
    go : (b : Option (List ℕ)) → c.body ≡ b → map made_by (spans_of cs) ≡ with_body cs
        → map made_by (spans_until c.key c.revision b (next_of c.key cs) ++ spans_of cs) ≡ cond (is_some b) (c ∷ with_body cs) (with_body cs)
    go None e more = more
    go (Some body) e more = rw (made_until c body (next_of c.key cs) e) (ap (λ l. c ∷ l) more)

-- ---- what stands

pub current_objects_spans : (r lo top : ℕ) (cs : List Change) → IsRising lo cs top → map made_by (filter (is_current_at r) (spans_of cs)) ≡ filter (is_last_up_to r cs) cs
current_objects_spans r lo top cs rise = by_steps lo cs rise ∙ sym (current_objects_is r lo top cs rise)
  where
    by_steps : (lo : ℕ) (cs : List Change) → IsRising lo cs top → map made_by (filter (is_current_at r) (spans_of cs)) ≡ current_objects_by r cs
    by_steps lo [] rise = refl
    by_steps lo (c ∷ cs) rise = go c.body refl (by_steps c.revision cs rise.1)
      where
        kept : (t : Bool) (body : List ℕ) → c.body ≡ Some body → map made_by (filter (is_current_at r) (spans_of cs)) ≡ current_objects_by r cs
            → map made_by (cond t (span_until c.key c.revision body (next_of c.key cs) ∷ filter (is_current_at r) (spans_of cs)) (filter (is_current_at r) (spans_of cs))) ≡ cond t (c ∷ current_objects_by r cs) (current_objects_by r cs)
        kept true body e more = rw (made_until c body (next_of c.key cs) e) (ap (λ l. c ∷ l) more)
        kept false body e more = more

        first_until : (body : List ℕ) (n : Option Change) → (span_until c.key c.revision body n).first ≡ c.revision
        first_until body None = refl
        first_until body (Some n) = refl

        go : (b : Option (List ℕ)) → c.body ≡ b → map made_by (filter (is_current_at r) (spans_of cs)) ≡ current_objects_by r cs
            → map made_by (filter (is_current_at r) (spans_until c.key c.revision b (next_of c.key cs) ++ spans_of cs))
            ≡ cond (nat_le c.revision r && (is_some b && not (has_later r c.key cs))) (c ∷ current_objects_by r cs) (current_objects_by r cs)
        go None e more = more ∙ ap (λ t. cond t (c ∷ current_objects_by r cs) (current_objects_by r cs)) (sym (and_false (nat_le c.revision r)))
        go (Some body) e more =
            ap (λ t. map made_by (cond t (span_until c.key c.revision body (next_of c.key cs) ∷ filter (is_current_at r) (spans_of cs)) (filter (is_current_at r) (spans_of cs))))
            (ap (λ n. nat_le n r && is_past r (span_until c.key c.revision body (next_of c.key cs)).ended) (first_until body (next_of c.key cs)) ∙ ap (λ t. nat_le c.revision r && t) (past_is r c.revision top c.revision c.key body cs rise.1))
            ∙ kept (nat_le c.revision r && not (has_later r c.key cs)) body e more

-- ---- where the rows begin

pub all_begin : (P : ℕ → Type 0) (cs : List Change) → AllByRecursion (λ c. P c.revision) cs → AllByRecursion (λ s. P s.first) (spans_of cs)
all_begin P [] h = tt
all_begin P (c ∷ cs) h = all-append (λ s. P s.first) (spans_until c.key c.revision c.body (next_of c.key cs)) (spans_of cs) (go c.body (next_of c.key cs)) (all_begin P cs h.1)
  where
    go : (b : Option (List ℕ)) (n : Option Change) → AllByRecursion (λ s. P s.first) (spans_until c.key c.revision b n)
    go None n = tt
    go (Some body) None = (h.0, tt)
    go (Some body) (Some n) = (h.0, tt)
