-- The months from January 1992 to December 1998.
use Rattle.std.proofs.Common.{◌≡◌, ℕ, zero, suc, ◌+◌, ◌-◌, ◌*◌, ◌/◌, ◌%◌, ◌<◌, ◌≤◌, ◌∙◌, ◌&&◌, nat_le, Bool, true, false, cond, Some, None, pos, refl, ap, arith, le_of_eq, ⊎_elim, le-leb, leb-true}
use Rattle.std.proofs.lemmas.Bool.{cases_lt, lt-leb, and_parts}
use Rattle.std.proofs.lemmas.Int.{ints}
use Rattle.jiff_core.specs.Calendar.{day_count, days_in_month}
use Rattle.jiff_core.proofs.CalendarLemmas.{day_count-next_month, day_count-next_year, day_count-last_of_year, day_count-day}
use Rattle.cubit_base.specs.Day.{is_day, day_number, day_value}
use Rattle.column_bins.specs.Month.{month_length, month_start, month_by, month_of}

-- a month has some days
month_length-some : (b : ℕ) → 28 ≤ month_length b
month_length-some b = some _ _ _
  where
    some : (x y z : Bool) → 28 ≤ cond x (cond y 29 28) (cond z 30 31)
    some true true z = omega arith
    some true false z = omega arith
    some false y true = omega arith
    some false y false = omega arith

-- a month begins where the one before it ends
pub month_start-next : (b : ℕ) → month_start (b + 1) ≡ month_start b + month_length b
unfolding month_start
month_start-next b = let e : b + 1 ≡ suc b = omega arith in rw e refl

start-suc : (b : ℕ) → month_start (suc b) ≡ month_start b + month_length b
unfolding month_start
start-suc b = refl

pub month_start-zero : month_start 0 ≡ 0
unfolding month_start
month_start-zero = refl

pub month_start-end : month_start 84 ≡ 2557
unfolding month_start
month_start-end = refl

pub month_start-below : (b : ℕ) → month_start b < month_start (b + 1)
month_start-below b = omega (arith, month_start-next b, month_length-some b)

-- later months begin later
pub month_start-mono : (a b : ℕ) → a ≤ b → month_start a ≤ month_start b
month_start-mono a zero le = let e : a ≡ 0 = omega arith in rw e (omega arith)
month_start-mono a (suc b) le = ⊎_elim
    (λ less.
    let before = month_start-mono a b (omega arith) in
    let next = month_start-below b in
    let e : b + 1 ≡ suc b = omega arith in
    let here = rw e at next in
    omega arith)
    (λ same. le_of_eq (ap month_start (reached same)))
    (cases_lt a (suc b))
  where
    reached : suc b ≤ a → a ≡ suc b
    reached same = omega arith

month_by-suc : (n day : ℕ) → month_start (n + 1) ≤ day → month_by (n + 1) day ≡ n + 1
unfolding month_by
month_by-suc n day le =
    let e : n + 1 ≡ suc n = omega arith in
    let l = rw e at le in
    rw e (ap (λ t. cond t (suc n) (month_by n day)) (le-leb (month_start (suc n)) day l))

month_by-keeps : (n day : ℕ) → day < month_start (n + 1) → month_by (n + 1) day ≡ month_by n day
unfolding month_by
month_by-keeps n day lt =
    let e : n + 1 ≡ suc n = omega arith in
    let l = rw e at lt in
    rw e (ap (λ t. cond t (suc n) (month_by n day)) (lt-leb (month_start (suc n)) day l))

month_by-zero : (day : ℕ) → month_by 0 day ≡ 0
unfolding month_by
month_by-zero day = refl

-- the last month that has begun by a day
month_by-is : (n b day : ℕ) → b ≤ n → month_start b ≤ day → day < month_start (b + 1) → month_by n day ≡ b
month_by-is zero b day le start end = let e : b ≡ 0 = omega arith in rw e (month_by-zero day)
month_by-is (suc n) b day le start end = ⊎_elim
    (λ less.
    let later = month_start-mono (b + 1) (n + 1) (omega arith) in
    let keeps = month_by-keeps n day (omega arith) in
    let rest = month_by-is n b day (omega arith) start end in
    let e : n + 1 ≡ suc n = omega arith in (rw e at keeps) ∙ rest)
    (λ same.
    let e : n + 1 ≡ suc n = omega arith in
    let b_is : b ≡ n + 1 = omega arith in
    let here = month_by-suc n day (rw b_is at start) in
    (rw e at here) ∙ (let back : suc n ≡ b = omega arith in back))
    (cases_lt b (suc n))

pub month_of-is : (b day : ℕ) → b < 84 → month_start b ≤ day → day < month_start (b + 1) → month_of day ≡ b
unfolding month_of
month_of-is b day below start end = month_by-is 83 b day (omega arith) start end

-- each day has such a month
find_month : (n day : ℕ) → day < month_start n → (b : ℕ) × (b < n) × (month_start b ≤ day) × (day < month_start (b + 1))
find_month zero day end = absurd (omega (arith, month_start-zero))
find_month (suc n) day end = ⊎_elim
    (λ before. let rest = find_month n day before in (rest.0, omega (arith, rest.1), rest.2, rest.3))
    (λ here. let e : suc n ≡ n + 1 = omega arith in (n, omega arith, here, rw e at end))
    (cases_lt day (month_start n))

-- the month of a day begins by it, and ends behind it
pub record IsMonthOf (day b : ℕ) : Type 0 where
  pub within : b < 84
  pub start : month_start b ≤ day
  pub end : day < month_start (b + 1)

pub month_of-bounds : (day : ℕ) → day < 2557 → IsMonthOf day (month_of day)
month_of-bounds day below =
    let m = find_month 84 day (omega (arith, month_start-end)) in
    let is = month_of-is m.0 day m.1 m.2 m.3 in
    let bounds : IsMonthOf day m.0 = record { within = m.1; start = m.2; end = m.3 } in
    rw is bounds

-- from December to January
new_year : (k : ℕ) → day_count (pos (1992 + (k + 1))) 1 1 ≡ day_count (pos (1992 + k)) 12 1 + 31
new_year k =
    let y = pos (1992 + k) in
    let next = day_count-next_year y (pos (1992 + (k + 1))) (omega (arith, ints)) (omega (arith, ints)) in
    omega (arith, next, day_count-last_of_year y, day_count-day y 12 31 1 (omega arith) (omega arith))

-- the months on the calendar
calendar : (b k j : ℕ) → b ≡ k * 12 + j → j < 12
    → month_start b + day_count (pos 1992) 1 1 ≡ day_count (pos (1992 + k)) (j + 1) 1
calendar zero k j is low =
    let k_is : k ≡ 0 = omega arith in let j_is : j ≡ 0 = omega arith in
    rw (k_is, j_is) (omega (arith, month_start-zero))
calendar (suc b) k (suc j) is low =
    let before = calendar b k j (omega arith) (omega arith) in
    let next = day_count-next_month (pos (1992 + k)) (j + 1) (omega arith) in
    let row : b / 12 ≡ k = omega arith in
    let place : b % 12 ≡ j = omega arith in
    let long : month_length b ≡ days_in_month (pos (1992 + k)) (j + 1) = rw (row, place) refl in
    let here : month_start (suc b) ≡ month_start b + month_length b = start-suc b in
    let turned : day_count (pos (1992 + k)) (suc j + 1) 1 ≡ day_count (pos (1992 + k)) (j + 1 + 1) 1 =
    (let e : suc j + 1 ≡ j + 1 + 1 = omega arith in rw e refl) in
    omega (arith, before, next, long, here, turned)
calendar (suc b) (suc k) zero is low =
    let before = calendar b k 11 (omega arith) (omega arith) in
    let row : b / 12 ≡ k = omega arith in
    let place : b % 12 ≡ 11 = omega arith in
    let long : month_length b ≡ 31 = rw (row, place) refl in
    let here : month_start (suc b) ≡ month_start b + month_length b = start-suc b in
    let turned : day_count (pos (1992 + suc k)) (0 + 1) 1 ≡ day_count (pos (1992 + (k + 1))) 1 1 =
    (let e : suc k ≡ k + 1 = omega arith in rw e refl) in
    omega (arith, before, new_year k, long, here, turned)
calendar (suc b) zero zero is low = absurd (omega arith)

-- a day on the calendar, by its month
pub record IsDated (year month day n : ℕ) : Type 0 where
  pub first : 1 ≤ day
  pub year_low : 1992 ≤ year
  pub within : (year - 1992) * 12 + month - 1 < 84
  pub start : month_start ((year - 1992) * 12 + month - 1) + day ≡ n + 1
  pub end : n < month_start ((year - 1992) * 12 + month - 1 + 1)

pub dated : (year month day n : ℕ) → day_value year month day ≡ Some n → IsDated year month day n
dated year month day n is = by (is_day year month day) refl is
  where
    by : (t : Bool) → is_day year month day ≡ t → cond t (Some (day_number year month day)) None ≡ Some n
        → IsDated year month day n
    by false fails value = absurd cc
    by true holds value =
        let p = and_parts (nat_le 1992 year && nat_le year 1998 && nat_le 1 month && nat_le month 12 && nat_le 1 day)
        (nat_le day (days_in_month (pos year) month)) holds in
        let q =
        and_parts (nat_le 1992 year && nat_le year 1998 && nat_le 1 month && nat_le month 12) (nat_le 1 day) p.0 in
        let r = and_parts (nat_le 1992 year && nat_le year 1998 && nat_le 1 month) (nat_le month 12) q.0 in
        let s = and_parts (nat_le 1992 year && nat_le year 1998) (nat_le 1 month) r.0 in
        let t = and_parts (nat_le 1992 year) (nat_le year 1998) s.0 in
        let year_low = leb-true 1992 year t.0 in
        let year_high = leb-true year 1998 t.1 in
        let month_low = leb-true 1 month s.1 in
        let month_high = leb-true month 12 r.1 in
        let day_low = leb-true 1 day q.1 in
        let day_high = leb-true day (days_in_month (pos year) month) p.1 in
        let k = year - 1992 in
        let j = month - 1 in
        let b = k * 12 + month - 1 in
        let start = calendar b k j (omega arith) (omega arith) in
        let y_is : 1992 + k ≡ year = omega arith in
        let m_is : j + 1 ≡ month = omega arith in
        let there = rw (y_is, m_is) at start in
        let row : b / 12 ≡ k = omega arith in
        let place : b % 12 ≡ j = omega arith in
        let long : month_length b ≡ days_in_month (pos year) month = rw (row, place, y_is, m_is) refl in
        let count = day_count-day (pos year) month day 1 day_low (omega arith) in
        let number : day_number year month day ≡ n = inside value in
        record {
          first = day_low;
          year_low = year_low;
          within = omega arith;
          start = omega (arith, there, count, number);
          end = omega (arith, there, count, number, long, day_high, month_start-next b);
        }
      where
        inside : Some (day_number year month day) ≡ Some n → day_number year month day ≡ n
        inside e = cc

-- the month of a day is that of its date
pub month_of-dated : (year month day n : ℕ) → day_value year month day ≡ Some n
    → month_of n ≡ (year - 1992) * 12 + month - 1
month_of-dated year month day n is =
    let d = dated year month day n is in
    month_of-is ((year - 1992) * 12 + month - 1) n d.within (omega (arith, d.start, d.first)) d.end
