-- What reading a text back answers.
use Rattle.std.proofs.Common.{◌≡◌, ℕ, true, List, Some, sym, ap, ◌∙◌, subst}
use Rattle.std.proofs.lemmas.Bool.{and_parts}
use Rattle.std.specs.Result.{IfOk, IsErrAnd}
use Rattle.std.specs.declared.result.Result.{Result}
use Rattle.std.specs.declared.result.Result.TheVariants.{Ok, Err}
use Rattle.serde_json.specs.Data.{Data}
use Rattle.fieldpath.proofs.Encodable.{encodable-read}
use Rattle.json_texts.specs.InOrder.{in_order}
use Rattle.json_texts.proofs.Ordered.{ordered-read}
use Rattle.schema.specs.Lawful.{is_lawful, is_well_formed}
use Rattle.schema.specs.ObjectShape.{IsObjectShape}
use Rattle.schema.specs.Shape.{Shape}
use Rattle.typed.specs.Fitting.{IsContent}
use Rattle.objects.specs.State.{State}
use Rattle.objects.specs.WellTyped.{OwnedArePresent}
use Rattle.objects.specs.ObjectText.{Identity, object_value, object_text}
use Rattle.objects.specs.Parts.{Returns, parts_in}
use Rattle.objects.specs.ReadBack.{IsObjectText, IsReadBack}
use Rattle.objects.specs.SystemMetadata.{Stamp}
use Rattle.objects.specs.Views.{state_of, stored_stamp}
use Rattle.objects.specs.declared.fault.ObjectFault.{ObjectFault}
use Rattle.objects.specs.declared.fault.ObjectFault.TheVariants.{NotCanonical, Memory}
use Rattle.objects.specs.declared.system.Stored.{Stored}
use Rattle.objects.proofs.Back.{text_in_order, parts_back, parts_content}
use Rattle.objects.proofs.Taken.{no_some, same_some}

module _ (s : Shape) (of : Identity) (t : List ℕ) (shaped : IsObjectShape s) where
  -- not in order
  pub unread : {X : Type 0} (view : X → Data) (e : ObjectFault) → Returns view (Err e) (in_order t) → IsReadBack s of t (Err e)
  unread view NotCanonical none = λ v state said. no_some (object_value s of v state) (sym (text_in_order s of v state t shaped said) ∙ none)
  unread view Memory none = tt

  module _ (d : Data) (reads : in_order t ≡ Some d) where
    -- what the text says is what was read of its value
    said_parts : (v : Stamp) (state : State) → IsObjectText s of v state t → parts_in s d ≡ Some (state, v)
    said_parts v state said =
        ap (parts_in s) (sym (same_some (object_value s of v state) d (sym (text_in_order s of v state t shaped said) ∙ reads))) ∙ parts_back s of v state shaped said.well_typed said.numbered

    pub no_parts : (e : ObjectFault) → Returns {X = Stored} {Y = State × Stamp} (λ o. (state_of o.owned, stored_stamp o)) (Err e) (parts_in s d) → IsReadBack s of t (Err e)
    no_parts NotCanonical none = λ v state said. no_some (state, v) (sym (said_parts v state said) ∙ none)
    no_parts Memory none = tt

    module _ (state : State) (v : Stamp) (parts : parts_in s d ≡ Some (state, v)) where
      same_parts : (w : Stamp) (other : State) → IsObjectText s of w other t → ◌≡◌ {A = State × Stamp} (other, w) (state, v)
      same_parts w other said = same_some (other, w) (state, v) (sym (said_parts w other said) ∙ parts)

      pub not_leaf_value : (OwnedArePresent state → ⊥) → IsReadBack s of t (Err NotCanonical)
      not_leaf_value none = λ w other said. none (subst (λ p. OwnedArePresent p.0) (same_parts w other said) said.well_typed.1.1)

      pub not_printed : (printed : List ℕ) → (is_lawful s ≡ true → IsContent s state.content → printed ≡ object_text s of v state) → (printed ≡ t → ⊥) → IsReadBack s of t (Err NotCanonical)
      not_printed printed is other = λ w said_state said.
          let same = same_parts w said_state said in
          other (is shaped.1 (subst (λ p. IsContent s p.0.content) same said.well_typed.0) ∙ sym (said.is_text ∙ ap (λ p. object_text s of p.1 p.0) same))

  pub read_back : (d : Data) (state : State) (v : Stamp) (printed : List ℕ) → in_order t ≡ Some d → parts_in s d ≡ Some (state, v) → OwnedArePresent state
      → (is_lawful s ≡ true → IsContent s state.content → printed ≡ object_text s of v state) → printed ≡ t → IsObjectText s of v state t
  read_back d state v printed reads parts stand is same =
      let lawful = shaped.1 in
      let encodable = encodable-read t d (ordered-read t d reads) in
      let content = parts_content s d state v (and_parts (is_well_formed s) _ lawful).0 encodable.0 encodable.1 parts in
      record { well_typed = (content.0, (content.1, stand)); numbered = content.2; counted = content.3; is_text = sym same ∙ is lawful content.0 }

-- a fault that is handed on
pub handed : (s : Shape) (of : Identity) (t : List ℕ) (r : Result Stored ObjectFault) (e : ObjectFault) → IsErrAnd r (λ x. x ≡ e) → IsReadBack s of t (Err e) → IsReadBack s of t r
handed s of t (Ok x) e is h = absurd is
handed s of t (Err x) e is h = subst (λ y. IsReadBack s of t (Err y)) (sym is) h

pub ok_map : {X E : Type 0} {P Q : X → Type 0} (r : Result X E) → ((x : X) → P x → Q x) → IfOk r P → IfOk r Q
ok_map (Ok x) f h = f x h
ok_map (Err e) f h = tt
