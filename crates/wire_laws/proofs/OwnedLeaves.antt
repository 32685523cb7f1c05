-- Where each leaf and each set item has an owner, writes leave none without, and a change of types none but new leaves.
use Rattle.std.proofs.Common.{◌≡◌, ◌⊎◌, inl, inr, true, Option, Some, None, is_some, refl, sym, ap, ◌∙◌, true≢false}
use Rattle.fieldpath.specs.Paths.{PathTexts}
use Rattle.schema.specs.Lawful.{is_well_formed}
use Rattle.schema.specs.Place.{place_of}
use Rattle.schema.specs.Shape.{Shape}
use Rattle.schema.specs.declared.place.Place.{Place}
use Rattle.typed.specs.Carried.{IsNewLeaf}
use Rattle.typed.proofs.Fitting.{contents_well_typed}
use Rattle.typed.proofs.Places.{places}
use Rattle.objects.specs.Owners.{Manager}
use Rattle.objects.specs.WellTyped.{IsPresent, IsWellTypedState, Owns}
use Rattle.objects.specs.State.{State}
use Rattle.ownership.specs.Carry.{LeavesOwnedStill, NobodyOwned}
use Rattle.ownership.specs.Keeping.{LeavesOwned, StoodUnowned, is_end}
use Rattle.wire_laws.specs.OwnedLeavesLaws.{AllLeavesOwned, CarriesKeepOwners, AllButNewLeavesOwned, WritesKeepOwners}
use Rattle.wire_laws.proofs.LastElements.{one_end}

-- where each leaf has an owner, none stood without one
unowned_none : {A : Type 0} (s : Shape) (old new : State) (p : PathTexts) → AllLeavesOwned s old → is_end (place_of s p) ≡ true → IsPresent new.content p → StoodUnowned old new p → A
unowned_none s old new p owned end there (same, nobody) =
    let owner = owned p (ap is_some (sym same) ∙ there) end in
    absurd (nobody owner.0 owner.1)

module _ (s : Shape) (old new : State) (write : LeavesOwned s old new) (owned : AllLeavesOwned s old) where
  written : AllLeavesOwned s new
  written p there end = by_owner (write p there end)
    where
      by_owner : ((k : Manager) × Owns new k p) ⊎ StoodUnowned old new p → (k : Manager) × Owns new k p
      by_owner (inl owner) = owner
      by_owner (inr stood) = unowned_none s old new p owned end there stood

pub writes_keep_owners : WritesKeepOwners
writes_keep_owners = written

end_is_some : (o : Option Place) → is_end o ≡ true → is_some o ≡ true
end_is_some None h = absurd (true≢false (sym h))
end_is_some (Some place) h = refl

module _ (s t : Shape) (old new : State) (formed : is_well_formed s ≡ true) (well_typed : IsWellTypedState s old) (carry : LeavesOwnedStill s t old new) (owned : AllLeavesOwned s old) where
  -- what stood before and is a leaf or a set item was one before, too
  was_end : (p : PathTexts) → is_end (place_of t p) ≡ true → IsPresent old.content p → is_end (place_of s p) ≡ true
  was_end p end stood =
      let had : is_some (place_of s p) ≡ true = places s old.content ((contents_well_typed s old.content formed).0 well_typed.0) p stood in
      one_end s t p had (end_is_some (place_of t p) end) ∙ end

  carried : AllButNewLeavesOwned s t old new
  carried p there end = by_owner (carry p there end)
    where
      by_owner : ((k : Manager) × Owns new k p) ⊎ StoodUnowned old new p ⊎ IsNewLeaf s t p × NobodyOwned old p → ((k : Manager) × Owns new k p) ⊎ IsNewLeaf s t p × NobodyOwned old p
      by_owner (inl owner) = inl owner
      by_owner (inr (inl stood)) = unowned_none s old new p owned (was_end p end (ap is_some (sym stood.0) ∙ there)) there stood
      by_owner (inr (inr leaf)) = inr leaf

pub carries_keep_owners : CarriesKeepOwners
carries_keep_owners = carried
