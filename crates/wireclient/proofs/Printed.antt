-- The bytes of a printed head, place by place.
use Rattle.std.proofs.Common.{arith, ◌≡◌, ℕ, ◌+◌, List, [], ◌∷◌, ◌++◌, Option, Some, None, refl, sym, subst, append_assoc}
use Rattle.std.proofs.lemmas.List.Elements.{All-cons, All-nil}
use Rattle.std.specs.Prelude.{codes}
use Rattle.std.specs.List.{All, flat_map}
use Rattle.httparse.specs.Grammar.{AllPass, is_value_byte, print_end, print_blank, print_version, print_field, print_reason, reason_phrase, ResponseHead, IsResponseHead, print_response}
use Rattle.wire.specs.declared.place.ScanState.TheVariants.{Leading, Inside, Fed}
use Rattle.wire.proofs.Lines.{EndsAtLast, Goes, IsInLine, blank_lines, digits_in_line, fields_go, goes_append, goes_in, last_end, line_ends, longer, stays_inside, value_in_line, version_in_line}

reason_in_line : (o : Option (List ℕ)) → AllPass is_value_byte (reason_phrase o) → All IsInLine (print_reason o)
reason_in_line None pass = All-nil IsInLine
reason_in_line (Some phrase) pass = All-cons IsInLine 32 phrase (refl, refl) (value_in_line phrase pass)

-- the empty lines and the status line
abbrev pub first_line : ResponseHead → List ℕ
first_line h = print_blank h.blank ++ print_version h.minor ++ 32 ∷ h.digits ++ print_reason h.reason ++ print_end h.line_end

first_line_goes : (h : ResponseHead) → IsResponseHead h → Goes Leading (first_line h) Fed
first_line_goes h is =
    let version : Goes Leading (print_blank h.blank ++ print_version h.minor) Inside =
    goes_append Leading Leading Inside (print_blank h.blank) (print_version h.minor) (blank_lines h.blank)
    (goes_in Leading (print_version h.minor) (longer (codes "HTTP/1.") ((48 + h.minor) ∷ []) (omega arith)) (version_in_line h.minor is.minor)) in
    let code : Goes Leading (print_blank h.blank ++ print_version h.minor ++ 32 ∷ h.digits) Inside =
    goes_append Leading Inside Inside (print_blank h.blank ++ print_version h.minor) (32 ∷ h.digits) version
    (stays_inside (32 ∷ h.digits) (All-cons IsInLine 32 h.digits (refl, refl) (digits_in_line h.digits is.digits.1))) in
    let reason : Goes Leading (print_blank h.blank ++ print_version h.minor ++ 32 ∷ h.digits ++ print_reason h.reason) Inside =
    goes_append Leading Inside Inside (print_blank h.blank ++ print_version h.minor ++ 32 ∷ h.digits) (print_reason h.reason) code
    (stays_inside (print_reason h.reason) (reason_in_line h.reason is.reason)) in
    goes_append Leading Inside Fed (print_blank h.blank ++ print_version h.minor ++ 32 ∷ h.digits ++ print_reason h.reason) (print_end h.line_end) reason (line_ends h.line_end)

-- what stands before the last line end
abbrev pub lines : ResponseHead → List ℕ
lines h = first_line h ++ flat_map print_field h.fields

lines_go : (h : ResponseHead) → IsResponseHead h → Goes Leading (lines h) Fed
lines_go h is = goes_append Leading Fed Fed (first_line h) (flat_map print_field h.fields) (first_line_goes h is) (fields_go h.fields is.fields)

lines_then_end : (h : ResponseHead) → print_response h ≡ lines h ++ print_end h.last
unfolding print_response
lines_then_end h = sym (append_assoc (first_line h) (flat_map print_field h.fields) (print_end h.last))

pub head_ends : (h : ResponseHead) → IsResponseHead h → EndsAtLast (print_response h)
head_ends h is = subst EndsAtLast (sym (lines_then_end h)) (last_end (lines h) h.last (lines_go h is))
