-- The head of a request, place by place.
use Rattle.std.proofs.Common.{◌≡◌, ℕ, List, ◌∷◌, ◌++◌, refl, sym, subst, append_assoc}
use Rattle.std.proofs.lemmas.List.Elements.{All-cons}
use Rattle.std.specs.List.{All, flat_map}
use Rattle.httparse.specs.Grammar.{AllPass, is_uri_byte, print_blank, print_end, print_field, print_version, RequestHead, IsRequestHead, print_request}
use Rattle.wire.specs.declared.place.ScanState.TheVariants.{Leading, Inside, Fed}
use Rattle.wire.proofs.Lines.{EndsAtLast, Goes, IsInLine, all_in_line, blank_lines, fields_go, goes_append, goes_in, last_end, line_ends, stays_inside, token_in_line, version_in_line}

uri_in_line : (bytes : List ℕ) → AllPass is_uri_byte bytes → All IsInLine bytes
uri_in_line bytes pass = all_in_line is_uri_byte refl refl bytes pass

-- the empty lines and the request line
abbrev first_line : RequestHead → List ℕ
first_line h = print_blank h.blank ++ h.method ++ 32 ∷ h.target ++ 32 ∷ print_version h.minor ++ print_end h.line_end

first_line_goes : (h : RequestHead) → IsRequestHead h → Goes Leading (first_line h) Fed
first_line_goes h is =
    let method : Goes Leading (print_blank h.blank ++ h.method) Inside =
    goes_append Leading Leading Inside (print_blank h.blank) h.method (blank_lines h.blank) (goes_in Leading h.method is.method.0 (token_in_line h.method is.method.1)) in
    let target : Goes Leading (print_blank h.blank ++ h.method ++ 32 ∷ h.target) Inside =
    goes_append Leading Inside Inside (print_blank h.blank ++ h.method) (32 ∷ h.target) method (stays_inside (32 ∷ h.target) (All-cons IsInLine 32 h.target (refl, refl) (uri_in_line h.target is.target.1))) in
    let version : Goes Leading (print_blank h.blank ++ h.method ++ 32 ∷ h.target ++ 32 ∷ print_version h.minor) Inside =
    goes_append Leading Inside Inside (print_blank h.blank ++ h.method ++ 32 ∷ h.target) (32 ∷ print_version h.minor) target
    (stays_inside (32 ∷ print_version h.minor) (All-cons IsInLine 32 (print_version h.minor) (refl, refl) (version_in_line h.minor is.minor))) in
    goes_append Leading Inside Fed (print_blank h.blank ++ h.method ++ 32 ∷ h.target ++ 32 ∷ print_version h.minor) (print_end h.line_end) version (line_ends h.line_end)

-- what stands before the last line end
abbrev lines : RequestHead → List ℕ
lines h = first_line h ++ flat_map print_field h.fields

lines_then_end : (h : RequestHead) → print_request h ≡ lines h ++ print_end h.last
unfolding print_request
lines_then_end h = sym (append_assoc (first_line h) (flat_map print_field h.fields) (print_end h.last))

pub request_ends : (h : RequestHead) → IsRequestHead h → EndsAtLast (print_request h)
request_ends h is =
    subst EndsAtLast (sym (lines_then_end h))
    (last_end (lines h) h.last (goes_append Leading Fed Fed (first_line h) (flat_map print_field h.fields) (first_line_goes h is) (fields_go h.fields is.fields)))
