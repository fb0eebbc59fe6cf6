use Rattle.std.proofs.Common.{◌≡◌, ℕ, ◌+◌, ◌<◌, [], ◌∷◌, ◌++◌, length, set, sym, ap, ◌∙◌, subst, arith}
use mathlib.Core.Option.{some}
use Rattle.shared_log.specs.Made.{OpeningValue}
use Rattle.shared_log.specs.Shown.{IsRuled, given_of, new_view}
use Rattle.shared_log.specs.declared.views.SeatView.TheVariants.{Pass, Opening}
use Rattle.shared_log.proofs.Splitting.{splits-pass}
use Rattle.shared_log.proofs.log.SharedLog.seat.Goals as goal

pub split_seat-seat-requires : goal.split_seat-seat-requires
split_seat-seat-requires g c =
    let terms = g.T.LogTerms.terms in
    let n : ℕ = c.opening.inside.given in
    let words = c.self.invariant.words in
    let room : n < length terms.shares =
    let e : n ≡ c.args.opening.now.given = ap (λ (y : OpeningValue). y.given) c.opening.view_is in
    let r = c.requires.share in omega arith in (
      ap (λ (y : OpeningValue). y.table) c.opening.view_is ∙ c.requires.log ∙ sym c.self.view_is,
      omega arith,
      λ s ruled at. subst (λ (k : ℕ). IsRuled terms record {
        words = s.words;
        homes = s.homes;
        views = set s.views c.opening.inside.seat.id (Opening (k + 1)) ++ Pass (new_view k) ∷ [];
      }) (sym (ap given_of c.opening.invariant))
          (splits-pass terms c.opening.inside.seat.id n room s ruled (at ∙ ap some c.opening.invariant)),
    )
