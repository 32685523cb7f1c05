-- What is read under the new shape of what was printed under the old one.
use Rattle.std.proofs.Common.{◌≡◌, true, true≢false, Option, Some, None, is_some, option_map, Ok, String, Global, refl, sym, ap, subst, ◌∙◌}
use Rattle.std.proofs.lemmas.Bool.{and_parts}
use Rattle.serde_json.specs.Data.{Data}
use Rattle.serde_json.specs.View.{view}
use Rattle.serde_json.specs.declared.value.Value.{Value}
use Rattle.pathmap.specs.Contents.{Content, nothing}
use Rattle.schema.specs.Becoming.{may_become}
use Rattle.schema.specs.Lawful.{is_lawful, is_well_formed}
use Rattle.schema.specs.ObjectTest.{is_object_shape}
use Rattle.schema.specs.Shape.{Shape}
use Rattle.schema.proofs.ObjectTests.{tested}
use Rattle.typed.specs.Carried.{IsCarried, LeavesStand, carried, content_or_nothing, content_printed}
use Rattle.typed.specs.Faults.{ReportsFault, fault_in}
use Rattle.typed.specs.Fitting.{IsContent}
use Rattle.typed.specs.WellTyped.{IsWellTyped, ReadsBack}
use Rattle.typed.specs.Printing.{print}
use Rattle.typed.specs.Reading.{content_of}
use Rattle.typed.specs.declared.fault.Cause.{Cause}
use Rattle.typed.specs.declared.fault.ReadFault.{ReadFault}
use Rattle.typed.specs.declared.fault.ReadFault.TheVariants as faults
use Rattle.typed.proofs.CarriedPaths.{is_carried, still_there}
use Rattle.typed.proofs.Carries.{lawful_carries}
use Rattle.typed.proofs.Carrying.{carried_parts, carried_parts-nothing}
use Rattle.typed.proofs.Fitting.{contents_well_typed}
use Rattle.typed.proofs.Floats.{ok_is}
use Rattle.typed.proofs.RoundTrip.{round}

-- it is what becomes of the content, with each new leaf, a content of the new shape, and prints as before
abbrev pub IsTaken : Shape → Shape → Content → Content → Type 0
IsTaken s t c r = IsCarried s t c r × LeavesStand s t c r × IsContent t r × (print t r ≡ print s c)

-- what is printed under the old shape is read under the new one
module _ (s t : Shape) (c : Content) where
  pub some_read : (o : Option Value) (v : Value) → o ≡ Some v → option_map view o ≡ print s c → (r : Content) → content_of t (view v) ≡ Ok r → r ≡ carried s t c
  unfolding carried
  some_read o v there is r read = sym (ap content_or_nothing read) ∙ ap (content_printed t) (sym (ap (option_map view) there) ∙ is)

  pub none_read : (o : Option Value) → ((v : Value) → o ≡ Some v → ⊥) → option_map view o ≡ print s c → (r : Content) → r ≡ nothing → r ≡ carried s t c
  unfolding carried
  none_read (Some v) out is r none = absurd (out v refl)
  none_read None out is r none = none ∙ ap (content_printed t) is

module _ (s t : Shape) (c : Content) (old : is_object_shape s ≡ true) (new : is_object_shape t ≡ true) (to : may_become s t ≡ true) (content : IsContent s c) where
  lawful : is_lawful s ≡ true
  lawful = (tested s old).1

  formed : is_well_formed s ≡ true
  formed = (and_parts (is_well_formed s) _ (tested s old).1).0

  formed_then : is_well_formed t ≡ true
  formed_then = (and_parts (is_well_formed t) _ (tested t new).1).0

  well_typed : IsWellTyped s c
  well_typed = (contents_well_typed s c (and_parts (is_well_formed s) _ (tested s old).1).0).0 content

  is_taken : IsTaken s t c (carried_parts s t c)
  is_taken =
      let carry = lawful_carries s t lawful formed_then to c well_typed in
      (is_carried s t lawful formed_then to c well_typed, still_there s t lawful formed_then to c well_typed, (contents_well_typed t (carried_parts s t c) formed_then).1 carry.0, carry.1)

  -- what is printed reads so
  reads : (d : Data) → Some d ≡ print s c → content_of t d ≡ Ok (carried_parts s t c)
  reads d is = (subst (λ o. ReadsBack t o (carried_parts s t c)) (is_taken.3 ∙ sym is) (round t (carried_parts s t c) formed_then (lawful_carries s t lawful formed_then to c well_typed).0)).1

  pub some_taken : (o : Option Value) (v : Value) → o ≡ Some v → option_map view o ≡ print s c → (r : Content) → content_of t (view v) ≡ Ok r → IsTaken s t c r
  some_taken o v there is r read = subst (IsTaken s t c) (ok_is (carried_parts s t c) r (sym (reads (view v) (sym (ap (option_map view) there) ∙ is)) ∙ read)) is_taken

  -- where nothing is printed, nothing stands
  pub none_taken : (o : Option Value) → ((v : Value) → o ≡ Some v → ⊥) → option_map view o ≡ print s c → (r : Content) → r ≡ nothing → IsTaken s t c r
  none_taken (Some v) out is r none = absurd (out v refl)
  none_taken None out is r none =
      subst (IsTaken s t c) (ap (carried_parts s t) (subst (λ o. ReadsBack s o c) (sym is) (round s c formed well_typed)) ∙ carried_parts-nothing s t ∙ sym none) is_taken

  -- it has no fault
  pub never_reported : (o : Option Value) (v : Value) → o ≡ Some v → option_map view o ≡ print s c → (e : ReadFault) (cause : Cause) (path : String Global) → e ≡ faults.Shape cause path → ReportsFault e (fault_in (content_of t (view v))) → ⊥
  never_reported o v there is e cause path shape_is h =
      let reported = subst (λ x. ReportsFault x (fault_in (content_of t (view v)))) shape_is h in
      true≢false (sym (ap is_some (sym (ap fault_in (reads (view v) (sym (ap (option_map view) there) ∙ is))) ∙ reported)))
