-- What the parser answers of the bytes up to the first empty line.
use Rattle.std.proofs.Common.{arith, ◌≡◌, ◌≢◌, ℕ, suc, ◌+◌, ◌*◌, ◌≤◌, ◌<◌, List, [], ◌∷◌, ◌++◌, length, Result, Ok, Err, refl, sym, ap, ◌∙◌, length-append, append-nil}
use Rattle.std.specs.List.{All, flat_map}
use Rattle.httparse.specs.declared.Error.{Error}
use Rattle.httparse.specs.declared.Status.{Status}
use Rattle.httparse.specs.declared.Status.TheVariants.{Complete, Partial}
use Rattle.httparse.specs.declared.spans.HeaderSpan.{HeaderSpan}
use Rattle.httparse.specs.declared.spans.RequestSpans.{RequestSpans}
use Rattle.httparse.specs.Ascii.{colon}
use Rattle.httparse.specs.Grammar.{LineEnd, crlf, lf, print_end, Field, IsField, print_field, print_section, RequestHead, print_request, ReadsRequest}
use Rattle.httparse.specs.Spans.{IsRequestAt, FindsRequest}

-- ---- a head of n bytes has at most n / 3 fields

end_is : (e : LineEnd) → 1 ≤ length (print_end e)
end_is crlf = omega arith
end_is lf = omega arith

field_room : (f : Field) → IsField f → 3 ≤ length (print_field f)
field_room f is =
    let ended = length-append (f.name ++ colon ∷ f.raw) (print_end f.end) in
    let named = length-append f.name (colon ∷ f.raw) in
    let some = is.name.0 in
    let end = end_is f.end in
    omega (arith, ended, named, some, end)

fields_room : (fs : List Field) → All IsField fs → 3 * length fs ≤ length (flat_map print_field fs)
fields_room [] are = omega arith
fields_room (f ∷ fs) are =
    let here = field_room f (are 0 f (omega arith)) in
    let rest = fields_room fs (λ k d lt. are (suc k) d (omega (arith, lt))) in
    let both = length-append (print_field f) (flat_map print_field fs) in
    omega (arith, here, rest, both)

longer : (xs ys zs : List ℕ) → zs ≡ xs ++ ys → length ys ≤ length zs
longer xs ys zs is =
    let all : length zs ≡ length xs + length ys = ap (λ (s : List ℕ). length s) is ∙ length-append xs ys in
    omega (arith, all)

section_in : (h : RequestHead) → length (print_section h.fields h.last) ≤ length (print_request h)
unfolding print_request
section_in h = longer _ (print_section h.fields h.last) (print_request h) refl

pub head_room : (buf : List ℕ) (h : RequestHead) → ReadsRequest buf h [] → length buf ≤ 16384 → length h.fields ≤ 5462
head_room buf h reads short =
    let fields = fields_room h.fields reads.0.fields in
    let section = length-append (flat_map print_field h.fields) (print_end h.last) in
    let whole = section_in h in
    let same : length buf ≡ length (print_request h) = ap (λ (s : List ℕ). length s) (reads.1 ∙ append-nil (print_request h)) in
    omega (arith, fields, section, whole, same, short)

-- ---- bytes that the parser doesn't take whole are no head

-- the answer is no head of n bytes
abbrev pub IsNotWhole : Result (Status RequestSpans) Error → ℕ → Type 0
IsNotWhole (Ok (Complete parts)) n = parts.len ≢ n
IsNotWhole (Ok Partial) n = Unit {0}
IsNotWhole (Err e) n = Unit {0}

pub no_head : (buf : List ℕ) (room : ℕ) (headers : List HeaderSpan) (r : Result (Status RequestSpans) Error) → FindsRequest buf room headers r
    → IsNotWhole r (length buf) → (h : RequestHead) → ReadsRequest buf h [] → room < length h.fields
no_head buf room headers r found differs h reads = beyond room (length h.fields) (λ fits. not_found r found differs h reads fits) where
  beyond : (room n : ℕ) → ¬ (n ≤ room) → room < n
  beyond room n not_le = omega (arith, not_le)

  not_found : (r : Result (Status RequestSpans) Error) → FindsRequest buf room headers r → IsNotWhole r (length buf) → (h : RequestHead) → ReadsRequest buf h []
      → ¬ (length h.fields ≤ room)
  not_found (Ok (Complete parts)) found differs h reads fits =
      let at : IsRequestAt buf headers parts h = found h [] reads fits in
      let same : length buf ≡ length (print_request h) = ap (λ (s : List ℕ). length s) (reads.1 ∙ append-nil (print_request h)) in
      differs (at.len ∙ sym same)
  not_found (Ok Partial) found differs h reads fits = found h [] reads fits
  not_found (Err e) found differs h reads fits = found h [] reads fits

-- where there is room for as many fields as a head may have, there is none
pub none_at_all : (buf : List ℕ) (room : ℕ) → length buf ≤ 16384 → 5462 ≤ room → ((h : RequestHead) → ReadsRequest buf h [] → room < length h.fields)
    → (h : RequestHead) → ¬ (ReadsRequest buf h [])
none_at_all buf room short enough beyond h reads =
    let few = head_room buf h reads short in
    let more = beyond h reads in
    omega (arith, few, more, enough)
