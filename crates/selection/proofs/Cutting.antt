-- Rows of months that are met in part.
use Rattle.std.proofs.Common.{◌≡◌, ℕ, ◌∙◌, ◌||◌, true, nat_le, Option, Some, None, refl, sym, ap, subst}
use Rattle.std.specs.Prelude.{nat_lt, IsSome}
use Rattle.std.proofs.lemmas.Bool.{and_from, and_parts, le-leb, leb-true, lt-ltb, ltb-true}
use Rattle.cubit_base.specs.Tuple.{TupleValue}
use Rattle.cubit_base.specs.declared.predicate.Range.{Range}
use Rattle.cubit_base.specs.declared.predicate.Predicate.{Predicate}
use Rattle.column_bins.specs.Month.{month_of}
use Rattle.column_bins.specs.Plan.{IsStretch, has_part, in_stretch, is_met, is_part_of}
use Rattle.column_bins.specs.declared.column.Column.{Column}
use Rattle.column_bins.specs.declared.column.Column.TheVariants.{Ship}
use Rattle.column_bins.specs.declared.plan_type.Stretch.{Stretch}
use Rattle.front_patch.specs.Planned.{HasBin}
use Rattle.selection.specs.Candidates.{is_cut_at}
use Rattle.selection.specs.Months.{AreCut}
use Rattle.selection.specs.Scan.{has_bin_at}

-- a range that has a month in part is there, and so is its stretch
pub cut-some : (range : Option Range) → has_part range ≡ true → (r : Range) × (range ≡ Some r)
cut-some None part = absurd cc
cut-some (Some r) part = (r, refl)

pub stretch-some : (column : Column) (range : Option Range) (r : Range) (stretch : Option Stretch) → range ≡ Some r →
    IsStretch column range stretch → (s : Stretch) × (stretch ≡ Some s)
stretch-some column None r stretch is are = absurd cc
stretch-some column (Some q) r None is are = absurd are
stretch-some column (Some q) r (Some s) is are = (s, refl)

pub stretch-bins : (column : Column) (range : Option Range) (stretch : Option Stretch) (r : Range) (s : Stretch) →
    range ≡ Some r → stretch ≡ Some s → IsStretch column range stretch → (b : ℕ) → in_stretch s b ≡ is_met column r b
stretch-bins column range stretch r s is-range is-stretch are =
    subst (λ (o : Option Stretch). IsStretch column (Some r) o) is-stretch
    (subst (λ (o : Option Range). IsStretch column o stretch) is-range are)

-- a bin of a stretch
pub bin-in : (s : Stretch) (bin : ℕ) → HasBin s bin → in_stretch s bin ≡ true
bin-in s bin has =
    and_from (nat_le s.first bin) (nat_lt bin s.after) (le-leb s.first bin has.0) (lt-ltb bin s.after has.1)

pub bin-from : (s : Stretch) (bin : ℕ) → in_stretch s bin ≡ true → HasBin s bin
bin-from s bin is =
    let parts = and_parts (nat_le s.first bin) (nat_lt bin s.after) is in
    (leb-true s.first bin parts.0, ltb-true bin s.after parts.1)

-- the rows with a month in either stretch
pub cut-either : (p : Predicate) (r : Range) (met low high : Stretch) → p.ship ≡ Some r → AreCut r met low high →
    (t : Option TupleValue) → (has_bin_at Ship low t || has_bin_at Ship high t) ≡ is_cut_at p t
cut-either p r met low high is cut None = refl
cut-either p r met low high is cut (Some t) =
    cut.all (month_of t.day) ∙ ap (λ (range : Option Range). is_part_of range t.day) (sym is)

pub some-is : {A : Type 0} (o : Option A) (x : A) → o ≡ Some x → IsSome o
some-is None x is = absurd cc
some-is (Some y) x is = refl
