-- Bytes of a head that is printed in lines, place by place.
use Rattle.std.proofs.Common.{arith, zero, suc, take, ◌≡◌, ℕ, ◌+◌, ◌<◌, ◌≤◌, Bool, true, false, cond, List, [], ◌∷◌, ◌++◌, length, Option, Some, None, refl, sym, ap, ap₂, subst, ◌∙◌, append_assoc, IsTrue}
use Rattle.std.proofs.lemmas.Bool.{ne_eqb}
use Rattle.std.proofs.Math.Seq.{take-append-le}
use Rattle.std.proofs.lemmas.List.{length-append}
use Rattle.std.proofs.lemmas.List.Elements.{All-append, All-cons, All-head, All-nil, All-tail}
use Rattle.std.specs.Prelude.{◌==◌, ◌&&◌, codes}
use Rattle.std.specs.Char.{is_ascii_digit}
use Rattle.std.specs.List.{All, flat_map, list_all}
use Rattle.httparse.specs.Grammar.{AllPass, is_token_byte, is_value_byte, LineEnd, crlf, lf, print_end, print_blank, print_version, Field, print_field, IsField}
use Rattle.wire.specs.declared.place.ScanState.TheVariants.{Leading, Inside, Fed, FedCr}
use Rattle.wire.specs.declared.place.ScanState.{ScanState}
use Rattle.wire.specs.Heads.{end_from, end_or, head_end, place_after}

-- bytes of a head that don't end it
abbrev pub Goes : ScanState → List ℕ → ScanState → Type 0
Goes p [] q = p ≡ q
Goes p (b ∷ bytes) q = (m : ScanState) × (place_after p b ≡ Some m) × Goes m bytes q

pub goes_append : (p m q : ScanState) (xs ys : List ℕ) → Goes p xs m → Goes m ys q → Goes p (xs ++ ys) q
goes_append p m q [] ys a b = subst (λ (r : ScanState). Goes r ys q) (sym a) b
goes_append p m q (x ∷ xs) ys a b = (a.0, a.1, goes_append a.0 m q xs ys a.2 b)

-- a byte that is part of a line
abbrev pub IsInLine : ℕ → Type 0
IsInLine b = ((b == 10) ≡ false) × ((b == 13) ≡ false)

pub in_line : (test : ℕ → Bool) → test 10 ≡ false → test 13 ≡ false → (b : ℕ) → IsTrue (test b) → IsInLine b
in_line test lf_fails cr_fails b passes = (
  ne_eqb b 10 (λ e. absurd (let at = ap test e in cc)),
  ne_eqb b 13 (λ e. absurd (let at = ap test e in cc)),
)

pub all_in_line : (test : ℕ → Bool) → test 10 ≡ false → test 13 ≡ false → (bytes : List ℕ) → AllPass test bytes → All IsInLine bytes
all_in_line test lf_fails cr_fails [] pass = All-nil IsInLine
all_in_line test lf_fails cr_fails (b ∷ bytes) pass =
    All-cons IsInLine b bytes (in_line test lf_fails cr_fails b (All-head (λ v. IsTrue (test v)) b bytes pass))
    (all_in_line test lf_fails cr_fails bytes (All-tail (λ v. IsTrue (test v)) b bytes pass))

goes_inside : (p : ScanState) (b : ℕ) → IsInLine b → place_after p b ≡ Some Inside
goes_inside Leading b is = go (b == 13) (b == 10) is.1 is.0
  where
    go : (s t : Bool) → s ≡ false → t ≡ false → cond s (Some Leading) (cond t (Some Leading) (Some Inside)) ≡ Some Inside
    go true t s-is t-is = absurd cc
    go false true s-is t-is = absurd cc
    go false false s-is t-is = refl
goes_inside Inside b is = go (b == 10) is.0
  where
    go : (t : Bool) → t ≡ false → cond t (Some Fed) (Some Inside) ≡ Some Inside
    go true t-is = absurd cc
    go false t-is = refl
goes_inside Fed b is = go (b == 10) (b == 13) is.0 is.1
  where
    go : (s t : Bool) → s ≡ false → t ≡ false → cond s None (cond t (Some FedCr) (Some Inside)) ≡ Some Inside
    go true t s-is t-is = absurd cc
    go false true s-is t-is = absurd cc
    go false false s-is t-is = refl
goes_inside FedCr b is = go (b == 10) is.0
  where
    go : (t : Bool) → t ≡ false → cond t None (Some Inside) ≡ Some Inside
    go true t-is = absurd cc
    go false t-is = refl

pub stays_inside : (bytes : List ℕ) → All IsInLine bytes → Goes Inside bytes Inside
stays_inside [] all = refl
stays_inside (b ∷ bytes) all = (Inside, goes_inside Inside b (All-head IsInLine b bytes all), stays_inside bytes (All-tail IsInLine b bytes all))

-- a text with a byte or more
pub goes_in : (p : ScanState) (bytes : List ℕ) → 0 < length bytes → All IsInLine bytes → Goes p bytes Inside
goes_in p [] some all = absurd (omega (arith, some))
goes_in p (b ∷ bytes) some all = (Inside, goes_inside p b (All-head IsInLine b bytes all), stays_inside bytes (All-tail IsInLine b bytes all))

pub line_ends : (e : LineEnd) → Goes Inside (print_end e) Fed
line_ends crlf = (Inside, refl, (Fed, refl, refl))
line_ends lf = (Fed, refl, refl)

blank_line : (e : LineEnd) → Goes Leading (print_end e) Leading
blank_line crlf = (Leading, refl, (Leading, refl, refl))
blank_line lf = (Leading, refl, refl)

pub blank_lines : (es : List LineEnd) → Goes Leading (print_blank es) Leading
blank_lines [] = refl
blank_lines (e ∷ es) = goes_append Leading Leading Leading (print_end e) (print_blank es) (blank_line e) (blank_lines es)

-- a line after a line or after nothing
pub line_goes : (p : ScanState) (text : List ℕ) (e : LineEnd) → 0 < length text → All IsInLine text → Goes p (text ++ print_end e) Fed
line_goes p text e some all = goes_append p Inside Fed text (print_end e) (goes_in p text some all) (line_ends e)

pub token_in_line : (bytes : List ℕ) → AllPass is_token_byte bytes → All IsInLine bytes
unfolding is_token_byte
token_in_line bytes pass = all_in_line is_token_byte refl refl bytes pass

pub value_in_line : (bytes : List ℕ) → AllPass is_value_byte bytes → All IsInLine bytes
value_in_line bytes pass = all_in_line is_value_byte refl refl bytes pass

pub digits_in_line : (bytes : List ℕ) → AllPass is_ascii_digit bytes → All IsInLine bytes
digits_in_line bytes pass = all_in_line is_ascii_digit refl refl bytes pass

pub longer : (xs ys : List ℕ) → 0 < length xs → 0 < length (xs ++ ys)
longer [] ys some = absurd (omega (arith, some))
longer (x ∷ xs) ys some = omega arith

field_goes : (f : Field) → IsField f → Goes Fed (print_field f) Fed
field_goes f is = line_goes Fed (f.name ++ 58 ∷ f.raw) f.end (longer f.name (58 ∷ f.raw) is.name.0)
    (All-append IsInLine f.name (58 ∷ f.raw) (token_in_line f.name is.name.1) (All-cons IsInLine 58 f.raw (refl, refl) (value_in_line f.raw is.raw)))

pub fields_go : (fs : List Field) → All IsField fs → Goes Fed (flat_map print_field fs) Fed
fields_go [] all = refl
fields_go (f ∷ fs) all = goes_append Fed Fed Fed (print_field f) (flat_map print_field fs) (field_goes f (All-head IsField f fs all)) (fields_go fs (All-tail IsField f fs all))

pub passes_each : (test : ℕ → Bool) (bytes : List ℕ) → list_all test bytes ≡ true → AllPass test bytes
passes_each test [] all = All-nil (λ b. IsTrue (test b))
passes_each test (b ∷ bytes) all = go (λ rest. passes_each test bytes rest) (test b) refl all
  where
    go : (list_all test bytes ≡ true → AllPass test bytes) → (t : Bool) → test b ≡ t → (t && list_all test bytes) ≡ true → AllPass test (b ∷ bytes)
    go later true is rest = All-cons (λ v. IsTrue (test v)) b bytes is (later rest)
    go later false is rest = absurd cc

minor_in_line : (n : ℕ) → n ≤ 1 → IsInLine (48 + n)
minor_in_line n low = (ne_eqb (48 + n) 10 (λ e. absurd (omega (arith, e))), ne_eqb (48 + n) 13 (λ e. absurd (omega (arith, e))))

pub version_in_line : (minor : ℕ) → minor ≤ 1 → All IsInLine (print_version minor)
version_in_line minor low =
    All-append IsInLine (codes "HTTP/1.") ((48 + minor) ∷ []) (value_in_line (codes "HTTP/1.") (passes_each is_value_byte (codes "HTTP/1.") refl))
    (All-cons IsInLine (48 + minor) [] (minor_in_line minor low) (All-nil IsInLine))

-- the bytes end the head with a line feed, and not before
pub record EndsAtLast (bytes : List ℕ) : Type 0 where
  pub seen : List ℕ
  pub place : ScanState
  pub is : bytes ≡ seen ++ 10 ∷ []
  pub goes : Goes Leading seen place
  pub ends : place_after place 10 ≡ None

pub last_end : (before : List ℕ) (e : LineEnd) → Goes Leading before Fed → EndsAtLast (before ++ print_end e)
last_end before crlf goes = record {
  seen = before ++ 13 ∷ [];
  place = FedCr;
  is = sym (append_assoc before (13 ∷ []) (10 ∷ []));
  goes = goes_append Leading Fed FedCr before (13 ∷ []) goes (FedCr, refl, refl);
  ends = refl;
}
last_end before lf goes = record { seen = before; place = Fed; is = refl; goes = goes; ends = refl }

-- ---- where the head ends

goes_through : (p q : ScanState) (n : ℕ) (bytes more : List ℕ) → Goes p bytes q → end_from p n (bytes ++ more) ≡ end_from q (n + length bytes) more
goes_through p q n [] more goes = ap₂ (λ (r : ScanState) (k : ℕ). end_from r k more) goes (omega arith)
goes_through p q n (b ∷ bytes) more goes =
    ap (λ (o : Option ScanState). end_or (n + 1) o (λ r. end_from r (n + 1) (bytes ++ more))) goes.1
    ∙ goes_through goes.0 q (n + 1) bytes more goes.2
    ∙ ap (λ (k : ℕ). end_from q k more) (omega arith)

-- a prefix of bytes that don't end it
prefix_goes : (p q : ScanState) (n k : ℕ) (bytes : List ℕ) → Goes p bytes q → end_from p n (take k bytes) ≡ None
prefix_goes p q n zero bytes goes = refl
prefix_goes p q n (suc k) [] goes = refl
prefix_goes p q n (suc k) (b ∷ bytes) goes =
    ap (λ (o : Option ScanState). end_or (n + 1) o (λ r. end_from r (n + 1) (take k bytes))) goes.1 ∙ prefix_goes goes.0 q (n + 1) k bytes goes.2

-- no prefix of it is one
pub unended : (k : ℕ) (bytes more : List ℕ) → EndsAtLast bytes → k < length bytes → head_end (take k (bytes ++ more)) ≡ None
unended k bytes more e short =
    let long : length bytes ≡ length e.seen + 1 = ap (λ (xs : List ℕ). length xs) e.is ∙ length-append e.seen (10 ∷ []) in
    ap (λ (xs : List ℕ). head_end (take k (xs ++ more))) e.is
    ∙ ap (λ (xs : List ℕ). head_end (take k xs)) (append_assoc e.seen (10 ∷ []) more)
    ∙ ap head_end (take-append-le k e.seen (10 ∷ more) (omega (arith, long, short)))
    ∙ prefix_goes Leading e.place 0 k e.seen e.goes

-- whatever bytes follow
pub ends_at : (bytes more : List ℕ) → EndsAtLast bytes → head_end (bytes ++ more) ≡ Some (length bytes)
ends_at bytes more e =
    let long : length bytes ≡ length e.seen + 1 = ap (λ (xs : List ℕ). length xs) e.is ∙ length-append e.seen (10 ∷ []) in
    ap (λ (xs : List ℕ). head_end (xs ++ more)) e.is
    ∙ ap head_end (append_assoc e.seen (10 ∷ []) more)
    ∙ goes_through Leading e.place 0 e.seen (10 ∷ more) e.goes
    ∙ ap (λ (o : Option ScanState). end_or (0 + length e.seen + 1) o (λ r. end_from r (0 + length e.seen + 1) more)) e.ends
    ∙ ap (λ (k : ℕ). Some k) (omega (arith, long))
