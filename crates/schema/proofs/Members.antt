-- Members put one after the other, in any order.
use Rattle.std.proofs.Common.{◌≡◌, ℕ, List, Ordering, Less, Equal, Greater, nat_cmp, refl, sym, ap, ap₂, ◌∙◌}
use Rattle.std.specs.Cmp.Lexicographic.{slice_cmp}
use Rattle.std.specs.FinMap.{nat_cmp-IsAntisymmetric, slice_cmp-IsAntisymmetric}
use Rattle.std.specs.Ordering.{match_ordering, ordering_reverse}
use Rattle.std.proofs.lemmas.Cmp.{nat_list_cmp_total}
use Rattle.serde_json.specs.Data.{Data, Members, no_members, member, put}

abbrev cmp : List ℕ → List ℕ → Ordering
cmp = slice_cmp nat_cmp

module _ (k : List ℕ) (d : Data) (m : List ℕ) (x : Data) (ms : Members) where
  put_by : (o : Ordering) → cmp k m ≡ o → put k d (member m x ms) ≡ match_ordering o (member k d (member m x ms)) (member m d ms) (member m x (put k d ms))
  put_by o is = ap (λ o. match_ordering o (member k d (member m x ms)) (member m d ms) (member m x (put k d ms))) is

above : (k l : List ℕ) → cmp k l ≡ Less → cmp l k ≡ Greater
above k l lt = nat_list_cmp_total.antisymm l k ∙ ap ordering_reverse lt

module _ (k l : List ℕ) (d e : Data) (lt : cmp k l ≡ Less) where
  -- the lower one in front of the upper one's place
  in_prefix : (m : List ℕ) (x : Data) (ms : Members) → cmp k m ≡ Less → (ns : Members) → put l e (member m x ms) ≡ ns → member k d ns ≡ put l e (put k d (member m x ms))
  in_prefix m x ms below ns is = ap (member k d) (sym is) ∙ sym (put_by l e k d (member m x ms) Greater (above k l lt)) ∙ ap (put l e) (sym (put_by k d m x ms Less below))

  turned_at : (m : List ℕ) (x : Data) (ms : Members) → put k d (put l e ms) ≡ put l e (put k d ms) → (o : Ordering) → cmp l m ≡ o → (p : Ordering) → cmp k m ≡ p
      → put k d (put l e (member m x ms)) ≡ put l e (put k d (member m x ms))
  turned_at m x ms later Less is p at =
      let put_l = put_by l e m x ms Less is in
      ap (put k d) put_l ∙ put_by k d l e (member m x ms) Less lt ∙ in_prefix m x ms (nat_list_cmp_total.trans k l m lt is) (member l e (member m x ms)) put_l
  turned_at m x ms later Equal is p at =
      let put_l = put_by l e m x ms Equal is in
      let below = ap (cmp k) (sym (slice_cmp-IsAntisymmetric nat_cmp-IsAntisymmetric l m is)) ∙ lt in
      ap (put k d) put_l ∙ put_by k d m e ms Less below ∙ in_prefix m x ms below (member m e ms) put_l
  turned_at m x ms later Greater is Less at =
      let put_l = put_by l e m x ms Greater is in
      ap (put k d) put_l ∙ put_by k d m x (put l e ms) Less at ∙ in_prefix m x ms at (member m x (put l e ms)) put_l
  turned_at m x ms later Greater is Equal at =
      ap (put k d) (put_by l e m x ms Greater is) ∙ put_by k d m x (put l e ms) Equal at ∙ sym (ap (put l e) (put_by k d m x ms Equal at) ∙ put_by l e m d ms Greater is)
  turned_at m x ms later Greater is Greater at =
      ap (put k d) (put_by l e m x ms Greater is) ∙ put_by k d m x (put l e ms) Greater at ∙ ap (member m x) later
      ∙ sym (ap (put l e) (put_by k d m x ms Greater at) ∙ put_by l e m x (put k d ms) Greater is)

  turned : (ms : Members) → put k d (put l e ms) ≡ put l e (put k d ms)
  turned no_members = put_by k d l e no_members Less lt ∙ sym (put_by l e k d no_members Greater (above k l lt))
  turned (member m x ms) = turned_at m x ms (turned ms) (cmp l m) refl (cmp k m) refl

-- two members put, where equal names have equal values
pub put_turned : (k l : List ℕ) (d e : Data) (ms : Members) → (k ≡ l → d ≡ e) → put k d (put l e ms) ≡ put l e (put k d ms)
put_turned k l d e ms same = by_order (cmp k l) refl
  where
    by_order : (o : Ordering) → cmp k l ≡ o → put k d (put l e ms) ≡ put l e (put k d ms)
    by_order Less is = turned k l d e is ms
    by_order Equal is = let named = slice_cmp-IsAntisymmetric nat_cmp-IsAntisymmetric k l is in ap₂ (λ n x. put n x (put l e ms)) named (same named) ∙ sym (ap₂ (λ n x. put l e (put n x ms)) named (same named))
    by_order Greater is = sym (turned l k e d (nat_list_cmp_total.antisymm l k ∙ ap ordering_reverse is) ms)
