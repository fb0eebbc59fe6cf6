-- The bins that a range meets are neighbours.
use Rattle.std.proofs.Common.{◌≡◌, ℕ, ◌+◌, ◌<◌, ◌≤◌, ◌&&◌, true, false, max, min, nat_le, nat_lt, arith, le-leb, leb-true, lt-ltb, ltb-true}
use Rattle.std.proofs.lemmas.Bool.{and_parts, and_from, and_right, false_from_ne_true, le-ltb}
use Rattle.cubit_base.specs.declared.predicate.Range.{Range}
use Rattle.column_bins.specs.declared.column.Column.{Column}
use Rattle.column_bins.specs.Column.{least_value, past_values, bin_at}
use Rattle.column_bins.specs.Plan.{is_met}
use Rattle.column_bins.proofs.Bins.{first_of, IsBinOf, bin_at-bounds, bin_at-is, bin_at-mono, first_of-mono, first_of-below, met-by, met-from, same_tests}

-- the bins from that of the least value of the range to that of the greatest
pub met-between : (column : Column) (r : Range) (lo hi b : ℕ) → lo ≡ max r.lo (least_value column)
    → hi + 1 ≡ min (r.hi + 1) (past_values column) → lo ≤ hi
    → (nat_le (bin_at column lo) b && nat_lt b (bin_at column hi + 1)) ≡ is_met column r b
met-between column r lo hi b lo_is hi_is some =
    same_tests (nat_le (bin_at column lo) b && nat_lt b (bin_at column hi + 1)) (is_met column r b) there back
  where
    first : IsBinOf column lo (bin_at column lo)
    first = bin_at-bounds column lo (omega arith) (omega arith)

    last : IsBinOf column hi (bin_at column hi)
    last = bin_at-bounds column hi (omega arith) (omega arith)

    there : (nat_le (bin_at column lo) b && nat_lt b (bin_at column hi + 1)) ≡ true → is_met column r b ≡ true
    there holds =
        let p = and_parts (nat_le (bin_at column lo) b) (nat_lt b (bin_at column hi + 1)) holds in
        let low = leb-true (bin_at column lo) b p.0 in
        let high = ltb-true b (bin_at column hi + 1) p.1 in
        let to_last = first_of-mono column b (bin_at column hi) (omega arith) in
        let past_first = first_of-mono column (bin_at column lo + 1) (b + 1) (omega arith) in
        let long = first_of-below column b in
        let v = max lo (first_of column b) in
        let is : IsBinOf column v b = record {
          within = omega (arith, last.within);
          start = omega arith;
          end = omega (arith, first.end);
        } in
        met-from column r b v (record {
          least = omega arith;
          past = omega (arith, last.start);
          low = omega arith;
          high = omega (arith, last.start);
          bin = bin_at-is column v b is;
        })

    back : is_met column r b ≡ true → (nat_le (bin_at column lo) b && nat_lt b (bin_at column hi + 1)) ≡ true
    back met =
        let m = met-by column r b met in
        let here = bin_at-bounds column m.0 m.1.least m.1.past in
        let low = bin_at-mono column lo m.0 (bin_at column lo) (bin_at column m.0) first here
        (omega (arith, m.1.least, m.1.low)) in
        let high = bin_at-mono column m.0 hi (bin_at column m.0) (bin_at column hi) here last
        (omega (arith, m.1.past, m.1.high)) in
        and_from (nat_le (bin_at column lo) b) (nat_lt b (bin_at column hi + 1))
        (le-leb (bin_at column lo) b (omega (arith, m.1.bin)))
        (lt-ltb b (bin_at column hi + 1) (omega (arith, m.1.bin)))

-- a range without a value of the column meets none
pub met-nowhere : (column : Column) (r : Range) (lo hi b : ℕ) → lo ≡ max r.lo (least_value column)
    → hi + 1 ≡ min (r.hi + 1) (past_values column) → hi < lo → is_met column r b ≡ false
met-nowhere column r lo hi b lo_is hi_is none = false_from_ne_true (is_met column r b) (λ met.
    let m = met-by column r b met in omega (arith, m.1.least, m.1.past, m.1.low, m.1.high))

-- the empty stretch has no bin
pub in_stretch-empty : (b : ℕ) → (nat_le 0 b && nat_lt b 0) ≡ false
in_stretch-empty b = and_right (nat_le 0 b) (nat_lt b 0) (le-ltb b 0 (omega arith))
