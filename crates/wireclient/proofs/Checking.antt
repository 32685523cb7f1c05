-- What the parser answers of a whole head.
use Rattle.std.proofs.Common.{arith, ◌≡◌, ℕ, ◌≤◌, ◌<◌, Bool, true, false, leb, List, ◌++◌, length, map, take, Some, None, refl, sym, ap, ◌∙◌}
use Rattle.std.proofs.lemmas.Bool.{le-leb, lt-leb}
use Rattle.std.specs.Prelude.{if◌then◌else◌}
use Rattle.std.proofs.lemmas.List.{drop_all, length-map, length-take}
use Rattle.httparse.specs.declared.spans.HeaderSpan.{HeaderSpan}
use Rattle.httparse.specs.declared.spans.ResponseSpans.{ResponseSpans}
use Rattle.httparse.specs.Grammar.{Field, print_response}
use Rattle.httparse.specs.Spans.{AreFieldsAt, header_bytes, name_and_value, IsResponseOf}
use Rattle.wire.specs.Heads.{max_fields}
use Rattle.wire.specs.Lengths.{decimal_value, is_length, length_in}
use Rattle.wire.proofs.Lengths.{length_is, length_isnt}
use Rattle.wireclient.specs.Reads.{Checked, framed_by_length, framing_of, max_body}
use Rattle.wireclient.specs.Reply.{Framing, by_length}

-- ---- a length

pub within_limit : (t : Bool) (n : ℕ) → t ≡ true → (if t then Some (by_length n) else None) ≡ Some (by_length n)
within_limit true n is = refl
within_limit false n is = absurd cc

pub over_limit : (t : Bool) (n : ℕ) → t ≡ false → (if t then Some (by_length n) else None) ≡ None
over_limit true n is = absurd cc
over_limit false n is = refl

pub framed_so : (value : List ℕ) (n : ℕ) → is_length value ≡ true → n ≡ decimal_value value → n ≤ max_body → Some (by_length n) ≡ framed_by_length (length_in value)
framed_so value n is same low = sym (ap framed_by_length (length_is value is ∙ ap (λ (m : ℕ). Some m) (sym same)) ∙ within_limit (leb n max_body) n (le-leb _ _ low))

pub framed_above : (value : List ℕ) → is_length value ≡ true → max_body < decimal_value value → None ≡ framed_by_length (length_in value)
framed_above value is above = sym (ap framed_by_length (length_is value is) ∙ over_limit (leb (decimal_value value) max_body) (decimal_value value) (lt-leb _ _ above))

pub unframed : (value : List ℕ) → is_length value ≡ false → None ≡ framed_by_length (length_in value)
unframed value isnt = sym (ap framed_by_length (length_isnt value isnt))

-- ---- a head

fields_fit : (buf : List ℕ) (headers : List HeaderSpan) (count : ℕ) (fields : List Field) → AreFieldsAt buf headers count fields → length headers ≤ max_fields → length fields ≤ max_fields
fields_fit buf headers count fields at room =
    let spans = length-map (take count headers) (header_bytes buf) in
    let named = length-map fields name_and_value in
    let same = ap (λ (xs : List (List ℕ × List ℕ)). length xs) at in
    let taken = length-take count headers in
    omega (arith, spans, named, same, taken, room)

pub whole_head : (buf : List ℕ) (headers : List HeaderSpan) (r : ResponseSpans) → IsResponseOf buf headers r → r.len ≡ length buf → length headers ≤ max_fields
    → (f : Framing) → Some f ≡ framing_of (map (header_bytes buf) (take r.headers headers)) → Checked buf (Some (r.code, f))
whole_head buf headers r (h, at) whole room f emitted = (
  h,
  (at.reads.0, at.reads.1 ∙ ap (λ (rest : List ℕ). print_response h ++ rest) (drop_all r.len buf (omega (arith, whole)))),
  fields_fit buf headers r.headers h.fields at.fields room,
  at.code,
  sym (ap framing_of at.fields) ∙ sym emitted,
)
