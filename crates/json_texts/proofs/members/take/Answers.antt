use Rattle.std.proofs.Common.{◌<◌, Some, length, sym, subst, ap, ◌∙◌, arith}
use Rattle.json.specs.Value.{members_view, value_view}
use Rattle.json_texts.specs.InOrder.{are_ordered, data_of, is_ordered, members_data}
use Rattle.json_texts.specs.Places.{place_of}
use Rattle.json_texts.proofs.Parts.{Entry, entry_ordered, ordered_parts}
use Rattle.json_texts.proofs.Places.{is_missing, ordered_without, stands_at}
use Rattle.json_texts.proofs.members.take.Goals as goal

pub remove-requires : goal.remove-requires
remove-requires c =
    let within : c.in-Some.place < length c.args.members.now.items = subst (λ l. c.in-Some.place < length l) c.deref.ensures.value c.in-Some.ensures.within in
    let long = c.args.members.now.ok.0 in
    omega arith

pub returns-in-Some-clause-value : goal.returns-in-Some-clause-value
returns-in-Some-clause-value c =
    let name = c.args.name.now in
    let ms = c.args.members.now.items in
    let at = sym (ap (λ l. place_of name (members_view l)) c.deref.ensures.value) ∙ sym c.place_of.ensures.value ∙ c.in-Some.is in
    ap (λ (m : Entry). Some (data_of (value_view m.1))) c.remove.ensures.value ∙ sym ((stands_at name ms c.in-Some.place at).1 c.remove.result)

pub returns-in-Some-clause-left : goal.returns-in-Some-clause-left
returns-in-Some-clause-left c =
    let name = c.args.name.now in
    let ms = c.args.members.now.items in
    let at = sym (ap (λ l. place_of name (members_view l)) c.deref.ensures.value) ∙ sym c.place_of.ensures.value ∙ c.in-Some.is in
    ap (λ l. members_data (members_view l)) c.remove.ensures.items ∙ (stands_at name ms c.in-Some.place at).2

pub returns-in-Some-clause-value_ordered : goal.returns-in-Some-clause-value_ordered
returns-in-Some-clause-value_ordered c h =
    let ms = c.args.members.now.items in
    let within : c.in-Some.place < length ms = subst (λ l. c.in-Some.place < length l) c.deref.ensures.value c.in-Some.ensures.within in
    ap (λ (m : Entry). is_ordered (value_view m.1)) c.remove.ensures.value ∙ entry_ordered ms c.in-Some.place c.remove.result within (ordered_parts (members_view ms) h).1

pub returns-in-Some-clause-left_ordered : goal.returns-in-Some-clause-left_ordered
returns-in-Some-clause-left_ordered c h =
    let ms = c.args.members.now.items in
    let within : c.in-Some.place < length ms = subst (λ l. c.in-Some.place < length l) c.deref.ensures.value c.in-Some.ensures.within in
    ap (λ l. are_ordered (members_view l)) c.remove.ensures.items ∙ ordered_without ms c.in-Some.place within h

pub returns-in-None-clause-value : goal.returns-in-None-clause-value
returns-in-None-clause-value c =
    let name = c.args.name.now in
    sym (is_missing name c.args.members.now.items (sym (ap (λ l. place_of name (members_view l)) c.deref.ensures.value) ∙ sym c.place_of.ensures.value ∙ c.in-None.is)).0

pub returns-in-None-clause-left : goal.returns-in-None-clause-left
returns-in-None-clause-left c =
    let name = c.args.name.now in
    (is_missing name c.args.members.now.items (sym (ap (λ l. place_of name (members_view l)) c.deref.ensures.value) ∙ sym c.place_of.ensures.value ∙ c.in-None.is)).1
