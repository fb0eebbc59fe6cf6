-- Rows that columns admit.
use Rattle.std.proofs.Common.{◌≡◌, ◌∙◌, ◌&&◌, Bool, true, false, Option, Some, None, is_none, refl, sym, ap, if◌then◌else◌}
use Rattle.cubit_base.specs.Tuple.{TupleValue}
use Rattle.cubit_base.specs.declared.predicate.Predicate.{Predicate}
use Rattle.column_bins.specs.Plan.{is_open, may_match}
use Rattle.column_bins.specs.declared.column.Column.TheVariants.{Ship, Disc, Qty, Flag, Status}
use Rattle.selection.specs.Candidates.{is_candidate_at}
use Rattle.selection.specs.Scan.{begins_at, admits_at}

-- all columns, one after another
abbrev pub admitted_at : Predicate → Option TupleValue → Bool
admitted_at p t =
    begins_at p t && admits_at Disc p.disc t && admits_at Ship p.ship t && admits_at Qty p.qty t
    && admits_at Flag p.flag t && admits_at Status p.status t

turned : (a b c d e : Bool) → (true && b && a && c && d && e) ≡ (a && b && c && d && e)
turned true true c d e = refl
turned true false c d e = refl
turned false true c d e = refl
turned false false c d e = refl

begins-some : (p : Predicate) (t : TupleValue) → begins_at p (Some t) ≡ true
begins-some p t = same (is_open p) where
  same : (b : Bool) → (if b then true else true) ≡ true
  same true = refl
  same false = refl

none-admitted : (a b c d e : Bool) →
    ((if (a && b && c && d && e) then false else true) && b && a && c && d && e) ≡ false
none-admitted true true true true true = refl
none-admitted true true true true false = refl
none-admitted true true true false e = refl
none-admitted true true false d e = refl
none-admitted true false c d e = refl
none-admitted false true c d e = refl
none-admitted false false c d e = refl

-- a row that all of them admit is a candidate
pub admitted-candidate : (p : Predicate) (t : Option TupleValue) → admitted_at p t ≡ is_candidate_at p t
admitted-candidate p None =
    none-admitted (is_none p.ship) (is_none p.disc) (is_none p.qty) (is_none p.flag) (is_none p.status)
admitted-candidate p (Some t) =
    ap (λ b. b && may_match Disc p.disc t && may_match Ship p.ship t && may_match Qty p.qty t
    && may_match Flag p.flag t && may_match Status p.status t) (begins-some p t)
    ∙ turned (may_match Ship p.ship t) (may_match Disc p.disc t) (may_match Qty p.qty t) (may_match Flag p.flag t)
    (may_match Status p.status t)
