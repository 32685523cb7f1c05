-- The text of a second is what jiff's clock at UTC shows of it.
use Rattle.std.proofs.Common.{◌≡◌, ◌∙◌, ◌<◌, ◌≤◌, ℕ, zero, suc, ◌+◌, ◌*◌, ◌/◌, ◌%◌, pos, List, [], ◌∷◌, ◌++◌, get_or, codes, refl, ap, ap₂, arith}
use Rattle.jiff.specs.Types.{DateTime, Time}
use Rattle.jiff.specs.Words.{civil_nanos, iso_datetime_text}
use Rattle.jiff_core.proofs.CalendarLemmas.{days_in_month_bounds}
use Rattle.jiff_core.proofs.DateTimeLemmas.{civil_nanos-parts}
use Rattle.jiff_core.proofs.SignedLemmas.{signed_arith}
use Rattle.jiff_fmt.specs.Text.{pad2, pad4}
use Rattle.system_metadata.specs.Digits.{last_digits}
use Rattle.system_metadata.specs.MomentLaws.{IsShownSo}
use Rattle.system_metadata.specs.Moments.{IsMoment, date_of, day_of_month, digits, last_second, moment_text, months_over, time_of, year_of}
use Rattle.system_metadata.proofs.Dates.{date, day_is, year_is_written}

-- ---- digits

digit_is : (n : ℕ) → n < 10 → get_or (codes "0123456789") n 0 ≡ 48 + n
digit_is zero h = refl
digit_is (suc zero) h = refl
digit_is (suc (suc zero)) h = refl
digit_is (suc (suc (suc zero))) h = refl
digit_is (suc (suc (suc (suc zero)))) h = refl
digit_is (suc (suc (suc (suc (suc zero))))) h = refl
digit_is (suc (suc (suc (suc (suc (suc zero)))))) h = refl
digit_is (suc (suc (suc (suc (suc (suc (suc zero))))))) h = refl
digit_is (suc (suc (suc (suc (suc (suc (suc (suc zero)))))))) h = refl
digit_is (suc (suc (suc (suc (suc (suc (suc (suc (suc zero))))))))) h = refl
digit_is (suc (suc (suc (suc (suc (suc (suc (suc (suc (suc n)))))))))) h = absurd (omega (arith, h))

one : (a b : ℕ) → a % 10 ≡ b → get_or (codes "0123456789") (a % 10) 0 ≡ 48 + b
one a b is = digit_is (a % 10) (omega arith) ∙ ap (λ n. 48 + n) is

two_digits : (n : ℕ) → n < 100 → digits 2 n ≡ pad2 n
unfolding last_digits
two_digits n h = ap₂ (λ a b. a ∷ b ∷ []) (one (n / 10) (n / 10) (omega (arith, h))) (one n (n % 10) refl)

four_digits : (n : ℕ) → n < 10000 → digits 4 n ≡ pad4 n
unfolding last_digits
four_digits n h =
    ap₂ (λ ab cd. ab ++ cd)
    (ap₂ (λ a b. a ∷ b ∷ []) (one (n / 10 / 10 / 10) (n / 100 / 10) (omega (arith, h))) (one (n / 10 / 10) (n / 100 % 10) (omega arith)))
    (ap₂ (λ c d. c ∷ d ∷ []) (one (n / 10) (n % 100 / 10) (omega arith)) (one n (n % 100 % 10) (omega arith)))

-- ---- the text

module _ (second : ℕ) (low : second ≤ last_second) where
  abbrev day : ℕ
  day = second / 86_400

  abbrev rest : ℕ
  rest = second % 86_400

  is_day : day ≤ 2_932_896
  is_day = omega (arith, low)

  abbrev time : Time
  time = record {
    hour = rest / 3600;
    minute = rest / 60 % 60;
    second = rest % 60;
    subsec_nanosecond = 0;
    hour_in = omega arith;
    minute_in = omega arith;
    second_in = omega arith;
    subsec_in = omega arith;
  }

  abbrev shown : DateTime
  shown = record { date = date day is_day; time = time }

  nanos : civil_nanos shown ≡ pos (second * 1_000_000_000)
  nanos = omega (arith, signed_arith, civil_nanos-parts shown, day_is day is_day)

  date_is : (year month d : List ℕ) → digits 4 (year_of day) ≡ year → digits 2 (suc (months_over day)) ≡ month → digits 2 (day_of_month day) ≡ d
      → date_of day ≡ year ++ codes "-" ++ month ++ codes "-" ++ d
  date_is year month d a b c = ap₂ (λ ym n. ym ++ codes "-" ++ n) (ap₂ (λ y m. y ++ codes "-" ++ m) a b) c

  time_is : (hour minute s : List ℕ) → digits 2 (rest / 3600) ≡ hour → digits 2 (rest / 60 % 60) ≡ minute → digits 2 (rest % 60) ≡ s
      → time_of rest ≡ hour ++ codes ":" ++ minute ++ codes ":" ++ s
  time_is hour minute s a b c = ap₂ (λ hm n. hm ++ codes ":" ++ n) (ap₂ (λ h m. h ++ codes ":" ++ m) a b) c

  text_is : moment_text second ≡ iso_datetime_text shown ++ codes "Z"
  text_is =
      ap₂ (λ d t. d ++ codes "T" ++ t ++ codes "Z")
      (date_is (pad4 (year_of day)) (pad2 (suc (months_over day))) (pad2 (day_of_month day)) (four_digits (year_of day) (year_is_written day is_day)) (two_digits (suc (months_over day)) (omega (arith, (date day is_day).month_in))) (two_digits (day_of_month day) (omega (arith, (date day is_day).day_in, (days_in_month_bounds (pos (year_of day)) (suc (months_over day))).0))))
      (time_is (pad2 (rest / 3600)) (pad2 (rest / 60 % 60)) (pad2 (rest % 60)) (two_digits (rest / 3600) (omega arith)) (two_digits (rest / 60 % 60) (omega arith)) (two_digits (rest % 60) (omega arith)))

  is_shown : IsMoment second (moment_text second)
  is_shown = (shown, nanos, text_is)

pub moments_are_shown_so : IsShownSo
moments_are_shown_so second low = is_shown second low
