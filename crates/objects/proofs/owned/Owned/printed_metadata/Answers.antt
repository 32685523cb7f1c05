use Rattle.std.proofs.Common.{◌∙◌, ap, sym}
use Rattle.schema.specs.Lawful.{is_lawful}
use Rattle.schema.specs.Shape.{fields_in}
use Rattle.typed.specs.Printing.{print}
use Rattle.objects.specs.ObjectText.{members_printed, metadata_members}
use Rattle.objects.specs.Views.{state_of}
use Rattle.objects.proofs.Answered.{ok_map}
use Rattle.objects.proofs.Wholly.{field_members}
use Rattle.objects.proofs.owned.Owned.printed_metadata.Goals as goal

pub returns-in_ok-printed-in-Some : goal.returns-in_ok-printed-in-Some
returns-in_ok-printed-in-Some c = λ lawful.
    let all = fields_in c.in-Some.fields.now in
    let whole = (state_of c.args.self.now).content in
    let is = c.in-Some.ensures.there in
    c.members_of.ensures ∙ ap members_printed c.in_ok-printed-in-Some.ensures ∙ field_members all whole (ap is_lawful (sym is) ∙ lawful) ∙ ap (λ s. metadata_members (print s whole)) (sym is)

pub returns-in_ok-value-in-None : goal.returns-in_ok-value-in-None
returns-in_ok-value-in-None c = λ lawful. ok_map c.metadata_members.result (λ m e. e ∙ ap metadata_members c.in_ok-value-in-None.ensures) c.metadata_members.ensures
