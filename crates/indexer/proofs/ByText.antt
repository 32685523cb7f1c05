-- What a change at one key of an index leaves of the others.
use Rattle.std.proofs.Common.{◌≡◌, ℕ, Bool, true, false, cond, List, Option, Global, Ordering, nat_cmp, is_eq, refl, sym, subst, ◌∙◌}
use Rattle.std.specs.BTreeMap.{UpdatesBy, is_at}
use Rattle.std.specs.BTreeSet.{BTreeSet}
use Rattle.std.specs.Cmp.{eq_by_cmp_equiv}
use Rattle.std.specs.Cmp.Lexicographic.{slice_cmp, nat_list_cmp_total, nat_list_eq_equiv}
use Rattle.std.specs.Map.{lookup, IsKeyTest, AreApart, KeepsOthers}
use Rattle.std.specs.Ordering.{eq_by_cmp}
use Rattle.std.specs.Rc.{rc_str_bytes}
use Rattle.std.specs.Str.{bytes_eq}
use Rattle.std.specs.declared.rc.RcStr.{RcStr}
use Rattle.std.proofs.lemmas.Map.Text.{is_eq-slice_cmp}
use Rattle.std.proofs.lemmas.Slice.Eq.{bytes_eq-Decides}
use Rattle.indexer.specs.declared.object.ObjectKey.{ObjectKey}
use Rattle.indexer.specs.Postings.{Postings, listed_at}

abbrev pub text_cmp : RcStr Global → RcStr Global → Ordering
text_cmp a b = slice_cmp nat_cmp (rc_str_bytes a) (rc_str_bytes b)

apart : (bs cs ks : List ℕ) → bytes_eq bs cs ≡ false → is_eq (slice_cmp nat_cmp bs ks) ≡ true → is_eq (slice_cmp nat_cmp cs ks) ≡ false
apart bs cs ks n y =
    let same = sym (is_eq-slice_cmp bs ks) ∙ y in
    is_eq-slice_cmp cs ks ∙ nat_list_eq_equiv.symm cs ks ∙ sym (nat_list_eq_equiv.congr bs ks cs same) ∙ n

others : {X : Type 0} (test : RcStr Global → Bool) (old new : List (RcStr Global × X)) → KeepsOthers (eq_by_cmp text_cmp) test old new
    → (other : RcStr Global → Bool) → IsKeyTest (eq_by_cmp text_cmp) other → AreApart test other → lookup other new ≡ lookup other old
unfolding KeepsOthers
others test old new h = h

pub updates_text : (bs : List ℕ) (m n : Postings) (w : Option (BTreeSet ObjectKey)) → UpdatesBy text_cmp (λ k. slice_cmp nat_cmp bs (rc_str_bytes k)) m n w
    → (cs : List ℕ) → listed_at n cs ≡ cond (bytes_eq bs cs) w (listed_at m cs)
updates_text bs m n w h cs = go (bytes_eq bs cs) refl
  where
    go : (t : Bool) → bytes_eq bs cs ≡ t → listed_at n cs ≡ cond t w (listed_at m cs)
    go true e = subst (λ (l : List ℕ). listed_at n l ≡ w) ((bytes_eq-Decides bs cs).0 e) h.1
    go false e =
        others (is_at (λ k. slice_cmp nat_cmp bs (rc_str_bytes k))) m.entries n.entries h.3 (is_at (λ k. slice_cmp nat_cmp cs (rc_str_bytes k)))
        (λ x y. (eq_by_cmp_equiv nat_list_cmp_total).congr cs (rc_str_bytes x) (rc_str_bytes y)) (λ k. apart bs cs (rc_str_bytes k) e)
