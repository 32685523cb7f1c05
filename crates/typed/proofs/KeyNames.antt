-- What is read of key fields doesn't depend on the order of their names.
use Rattle.std.proofs.Common.{◌≡◌, ℕ, ◌&&◌, List, Option, Some, None, refl, sym, ap, ◌∙◌}
use Rattle.serde_json.specs.Data.{Data, Members}
use Rattle.serde_json.specs.Find.{get_member}
use Rattle.schema.specs.KeyNames.{put_name, sorted}
use Rattle.schema.proofs.KeyNames.{and_turned, in_any_order, put_anywhere}
use Rattle.schema.proofs.Members.{put_turned}
use Rattle.typed.specs.Reading.{have_keys, is_there, keys_in, put_some}

pub have_keys-sorted : (ns : List (List ℕ)) (ms : Members) → have_keys (sorted ns) ms ≡ have_keys ns ms
have_keys-sorted ns ms = in_any_order (λ ks. have_keys ks ms) (λ k b. is_there (get_member k ms) && b) (λ n ns. refl) (λ n m b. and_turned (is_there (get_member n ms)) (is_there (get_member m ms)) b) ns

same_some : {X : Type 0} (x y : X) → Some x ≡ Some y → x ≡ y
same_some x y h = ap (some_or x) h
  where
    some_or : {X : Type 0} → X → Option X → X
    some_or x None = x
    some_or x (Some y) = y

module _ (ms : Members) where
  turned_by : (n m : List ℕ) (x : Members) (o p : Option Data) → get_member n ms ≡ o → get_member m ms ≡ p → put_some n o (put_some m p x) ≡ put_some m p (put_some n o x)
  turned_by n m x None p at other = refl
  turned_by n m x (Some d) None at other = refl
  turned_by n m x (Some d) (Some e) at other = put_turned n m d e x (λ same. same_some d e (sym at ∙ ap (λ k. get_member k ms) same ∙ other))

  -- the key fields of one name more
  pub keys_more : (n : List ℕ) (ns : List (List ℕ)) → keys_in (put_name n ns) ms ≡ put_some n (get_member n ms) (keys_in ns ms)
  keys_more n ns = put_anywhere (λ ks. keys_in ks ms) (λ k x. put_some k (get_member k ms) x) (λ n ns. refl) (λ n m x. turned_by n m x (get_member n ms) (get_member m ms) refl refl) n ns
