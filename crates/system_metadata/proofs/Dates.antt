-- The date of a day that is counted from 1970-01-01.
use Rattle.std.proofs.Common.{◌≡◌, ◌∙◌, ◌<◌, ◌≤◌, inl, inr, ℕ, zero, suc, ◌+◌, ◌-◌, ◌*◌, ◌/◌, nat_le, Bool, true, false, pos, neg_ℤ, ◌+ℤ◌, ◌≤ℤ◌, refl, sym, ap, arith}
use Rattle.std.proofs.lemmas.Bool.{cases_order}
use Rattle.std.proofs.lemmas.Bool.Decides.{nat_tests}
use Rattle.jiff.specs.Types.{Date}
use Rattle.jiff.specs.Words.{days_in_month, days_in_year, epoch_day}
use Rattle.jiff_core.specs.Calendar.{day_count}
use Rattle.jiff_core.specs.Calendar as calendar
use Rattle.jiff_core.proofs.CalendarLemmas.{day_count-day_of_year, day_count-end, day_count-epoch, day_count-next_year, days_from_civil-day_count, days_in_year_bounds, days_of_months_all}
use Rattle.jiff_core.proofs.SignedLemmas.{signed_arith}
use Rattle.system_metadata.specs.Moments.{day_of_month, days_of_months, days_of_years, days_over, last_such, months_over, year_of}
use Rattle.system_metadata.proofs.LastSuch.{such_fits, such_holds, such_last}

-- ---- days of years and of months

no_year : days_of_years 0 ≡ 0
unfolding days_of_years
no_year = refl

one_year_more : (n : ℕ) → days_of_years (suc n) ≡ days_of_years n + days_in_year (pos (1970 + n))
unfolding days_of_years
one_year_more n = refl

-- as jiff counts them
years_counted : (n : ℕ) → day_count (pos (1970 + n)) 1 1 ≡ 4_371_953 + days_of_years n
years_counted zero =
    let same : 1970 + 0 ≡ 1970 = omega arith in
    ap (λ y. day_count (pos y) 1 1) same ∙ day_count-epoch ∙ omega (arith, no_year)
years_counted (suc n) =
    let next : pos (1970 + suc n) ≡ pos (1970 + n) +ℤ pos 1 = omega (arith, signed_arith) in
    let low : neg_ℤ (pos 10000) ≤ℤ pos (1970 + n) = omega (arith, signed_arith) in
    omega (arith, day_count-next_year (pos (1970 + n)) (pos (1970 + suc n)) low next, years_counted n, one_year_more n)

years_are_long : (n : ℕ) → 365 * n ≤ days_of_years n
years_are_long zero = omega arith
years_are_long (suc n) = omega (arith, years_are_long n, one_year_more n, (days_in_year_bounds (pos (1970 + n))).1)

years_add : (n k : ℕ) → days_of_years n ≤ days_of_years (k + n)
years_add n zero = let same : 0 + n ≡ n = omega arith in rw same (omega arith)
years_add n (suc k) =
    let next : suc k + n ≡ suc (k + n) = omega arith in
    rw next (omega (arith, years_add n k, one_year_more (k + n)))

-- those up to the end of the year 9999
last_years : days_of_years 8030 ≡ 2_932_897
last_years =
    let same : 1970 + 8030 ≡ 10000 = omega arith in
    omega (arith, years_counted 8030, ap (λ y. day_count (pos y) 1 1) same, day_count-end)

months_counted : (year n : ℕ) → days_of_months year n ≡ calendar.days_of_months (pos year) n
unfolding days_of_months calendar.days_of_months
months_counted year zero = refl
months_counted year (suc n) = ap (λ days. days + days_in_month (pos year) (suc n)) (months_counted year n)

no_month : (year : ℕ) → days_of_months year 0 ≡ 0
unfolding days_of_months
no_month year = refl

pub one_month_more : (year n : ℕ) → days_of_months year (suc n) ≡ days_of_months year n + days_in_month (pos year) (suc n)
unfolding days_of_months
one_month_more year n = refl

-- ---- the date

at_most : (m n : ℕ) → nat_le m n ≡ true → m ≤ n
at_most m n h = grind (arith, nat_tests)

above : (m n : ℕ) → nat_le m n ≡ false → n < m
above m n h = grind (arith, nat_tests)

fits_so : (m n : ℕ) → m ≤ n → nat_le m n ≡ true
fits_so m n h = grind (arith, nat_tests)

module _ (day : ℕ) (low : day ≤ 2_932_896) where
  abbrev pub years : ℕ
  years = last_such (λ n. nat_le (days_of_years n) day) (day / 365)

  begun : days_of_years years ≤ day
  begun = at_most _ _ (such_holds (λ n. nat_le (days_of_years n) day) (day / 365) (fits_so _ _ (omega (arith, no_year))))

  lasts : day < days_of_years (suc years)
  lasts = elim (cases_order years (day / 365)) [
    | inl same ↦ let long = years_are_long (suc years) in omega (arith, same, long)
    | inr (inl lt) ↦ above _ _ (such_last (λ n. nat_le (days_of_years n) day) (day / 365) (suc years) (omega arith) (omega (arith, lt)))
    | inr (inr gt) ↦ absurd (omega (arith, gt, such_fits (λ n. nat_le (days_of_years n) day) (day / 365)))
  ]

  pub written : years < 8030
  written = elim (cases_order years 8030) [
    | inl same ↦ absurd (omega (arith, ap days_of_years same, last_years, begun, low))
    | inr (inl lt) ↦ lt
    | inr (inr gt) ↦
        let same : years - 8030 + 8030 ≡ years = omega (arith, gt) in absurd (omega (arith, ap days_of_years same, years_add 8030 (years - 8030), last_years, begun, low))
  ]

  abbrev pub year : ℕ
  year = year_of day

  over_is : days_over day ≡ day - days_of_years years
  over_is = let same : 1970 + years - 1970 ≡ years = omega arith in ap (λ n. day - days_of_years n) same

  within : days_over day < days_in_year (pos year)
  within = omega (arith, over_is, begun, lasts, one_year_more years)

  abbrev pub months : ℕ
  months = months_over day

  abbrev pub has_begun : ℕ → Bool
  has_begun n = nat_le (days_of_months year n) (days_over day)

  pub month_begun : days_of_months year months ≤ days_over day
  month_begun = at_most _ _ (such_holds has_begun 11 (fits_so _ _ (omega (arith, no_month year))))

  pub twelve : months ≤ 11
  twelve = such_fits has_begun 11

  pub month_lasts : days_over day < days_of_months year (suc months)
  month_lasts = elim (cases_order months 11) [
    | inl same ↦ omega (arith, ap (λ n. days_of_months year (suc n)) same, months_counted year 12, days_of_months_all (pos year), within)
    | inr (inl lt) ↦ above _ _ (such_last has_begun 11 (suc months) (omega arith) (omega (arith, lt)))
    | inr (inr gt) ↦ absurd (omega (arith, gt, twelve))
  ]

  abbrev pub date : Date
  date = record {
    year = pos year;
    month = suc months;
    day = day_of_month day;
    year_in = (omega (arith, signed_arith), omega (arith, signed_arith, written));
    month_in = (omega arith, omega (arith, twelve));
    day_in = (omega arith, omega (arith, month_begun, month_lasts, one_month_more year months));
  }

  pub year_is_written : year < 10000
  year_is_written = omega (arith, written)

  pub day_is : epoch_day date ≡ pos day
  day_is =
      let back : suc months - 1 ≡ months = omega arith in
      let first = day_count-day_of_year (pos year) (suc months) (day_of_month day) (omega arith) in
      let before = ap (calendar.days_of_months (pos year)) back ∙ sym (months_counted year months) in
      let counted = days_from_civil-day_count (pos year) (suc months) (day_of_month day) in
      omega (arith, signed_arith, first, before, counted, years_counted years, over_is, begun, month_begun)
