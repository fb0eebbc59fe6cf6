-- Terms of a query: COLUMN=VALUE, or COLUMN=LOW..HIGH with both ends included.
use Rattle.std.specs.Prelude.{ℕ, ◌+◌, ◌==◌, Bool, false, ◌&&◌, nat_le, List, [], ◌∷◌, take, drop, position, codes, bytes_eq, Option, Some, None, option_map, if◌then◌else◌}
use Rattle.cubit_base.specs.Tuple.{flag_number, status_number}
use Rattle.cubit_base.specs.declared.predicate.Predicate.{Predicate}
use Rattle.cubit_base.specs.declared.predicate.Range.{Range}
use Rattle.tbl_text.specs.Field.{money_value, quantity_value, date_value, flag_value, status_value}
use Rattle.refresh_streams.specs.Generator.{everything}
use Rattle.refresh_streams.specs.declared.term.Column.{Column}
use Rattle.refresh_streams.specs.declared.term.Column.TheVariants.{Ship, Disc, Qty, Flag, Status}

abbrev pub column_named : List ℕ → Option Column
column_named name =
    if bytes_eq name (codes "ship") then Some Ship
    else (if bytes_eq name (codes "disc") then Some Disc
    else (if bytes_eq name (codes "qty") then Some Qty
    else (if bytes_eq name (codes "flag") then Some Flag
    else (if bytes_eq name (codes "status") then Some Status
    else None))))

-- the number, where there is one and it lies from low to high
abbrev pub number_within : ℕ → ℕ → Option ℕ → Option ℕ
number_within low high None = None
number_within low high (Some n) = if nat_le low n && nat_le n high then Some n else None

-- the number by which a range selects a column's value
abbrev pub number_of : Column → List ℕ → Option ℕ
number_of Ship value = date_value value
number_of Disc value = number_within 0 10 (money_value value)
number_of Qty value = number_within 1 50 (quantity_value value)
number_of Flag value = option_map flag_number (flag_value value)
number_of Status value = option_map status_number (status_value value)

-- two points stand in front
abbrev pub begins_with_points : List ℕ → Bool
begins_with_points (b ∷ c ∷ bytes) = (b == 46) && (c == 46)
begins_with_points bytes = false

-- what stands before the first two points, and what stands behind them, where they come
abbrev pub cut_at_points : List ℕ → List ℕ × Option (List ℕ)
cut_at_points [] = ([], None)
cut_at_points (b ∷ bytes) =
    if begins_with_points (b ∷ bytes) then ([], Some (drop 1 bytes))
    else (b ∷ (cut_at_points bytes).0, (cut_at_points bytes).1)

-- the low end and the high end; a flag and a status have no ranges
abbrev pub ends_of : Column → List ℕ → List ℕ × Option (List ℕ)
ends_of Ship text = cut_at_points text
ends_of Disc text = cut_at_points text
ends_of Qty text = cut_at_points text
ends_of Flag text = (text, None)
ends_of Status text = (text, None)

abbrev pub range_from_to : Option ℕ → Option ℕ → Option Range
range_from_to (Some lo) (Some hi) = Some (record { lo = lo; hi = hi })
range_from_to lo hi = None

-- one value is a range of its own
abbrev pub range_of_ends : Column → List ℕ × Option (List ℕ) → Option Range
range_of_ends column (low, None) = range_from_to (number_of column low) (number_of column low)
range_of_ends column (low, Some high) = range_from_to (number_of column low) (number_of column high)

abbrev pub range_of : Column → List ℕ → Option Range
range_of column text = range_of_ends column (ends_of column text)

-- the range that a predicate gives a column
abbrev pub range_at : Predicate → Column → Option Range
range_at p Ship = p.ship
range_at p Disc = p.disc
range_at p Qty = p.qty
range_at p Flag = p.flag
range_at p Status = p.status

-- the predicate with this range for a column
abbrev pub restricted : Predicate → Column → Range → Predicate
restricted p Ship r = record { ship = Some r; disc = p.disc; qty = p.qty; flag = p.flag; status = p.status }
restricted p Disc r = record { ship = p.ship; disc = Some r; qty = p.qty; flag = p.flag; status = p.status }
restricted p Qty r = record { ship = p.ship; disc = p.disc; qty = Some r; flag = p.flag; status = p.status }
restricted p Flag r = record { ship = p.ship; disc = p.disc; qty = p.qty; flag = Some r; status = p.status }
restricted p Status r = record { ship = p.ship; disc = p.disc; qty = p.qty; flag = p.flag; status = Some r }

-- a column stands once, and its range is good
abbrev pub with_range : Predicate → Column → Option Range → Option Range → Option Predicate
with_range p column None (Some range) = Some (restricted p column range)
with_range p column before range = None

abbrev pub with_column : Predicate → Option Column → List ℕ → Option Predicate
with_column p None text = None
with_column p (Some column) text = with_range p column (range_at p column) (range_of column text)

abbrev pub is_equals : ℕ → Bool
is_equals b = b == 61

-- a term is cut at its first equals sign
abbrev pub with_cut : Predicate → List ℕ → Option ℕ → Option Predicate
with_cut p term None = None
with_cut p term (Some at) = with_column p (column_named (take at term)) (drop (at + 1) term)

-- the predicate with one more term
abbrev pub with_term : Predicate → List ℕ → Option Predicate
with_term p term = with_cut p term (position is_equals term)

-- the terms from left to right
abbrev pub with_terms : Option Predicate → List (List ℕ) → Option Predicate
with_terms p [] = p
with_terms None (term ∷ terms) = None
with_terms (Some p) (term ∷ terms) = with_terms (with_term p term) terms

abbrev pub predicate_of : List (List ℕ) → Option Predicate
predicate_of terms = with_terms (Some everything) terms
