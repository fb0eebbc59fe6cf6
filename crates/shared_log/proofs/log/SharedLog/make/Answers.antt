use Rattle.std.proofs.Common.{◌≡◌, ℕ, ◌+◌, ◌*◌, List, [], replicate, sum, sym, refl, ap, ◌∙◌, subst}
use Rattle.atomic_table.specs.Table.{opening}
use Rattle.log_core.specs.Terms.{node_count}
use Rattle.log_core.specs.Core.{made_core}
use Rattle.shared_log.specs.Shown.{IsRuled}
use Rattle.shared_log.specs.declared.views.SeatView.TheVariants.{Opening}
use Rattle.shared_log.proofs.Made.{made-shows}
use Rattle.shared_log.proofs.log.SharedLog.make.Goals as goal

pub of_words-requires : goal.of_words-requires
of_words-requires g c =
    let terms = g.T.LogTerms.terms in
    let n : c.word_count.result ≡ 5 * node_count terms + 1 =
    c.word_count.ensures ∙ ap (λ (shares : List ℕ). 5 * (1 + sum shares) + 1) c.requires.shares in
    let items : c.in_ok-words.words.items ≡ replicate (5 * node_count terms + 1) 0 =
    c.in_ok-words.ensures.items_if_clones_equal (λ y e. e) ∙ ap (λ (k : ℕ). replicate k 0) n in
    subst (λ (ws : List ℕ). IsRuled terms (opening ws [] (Opening 0))) (sym items ∙ sym c.as_slice.ensures.value)
    record {
      core = made_core terms;
      terms_are = refl;
      sound = c.nodes.ensures.made terms;
      shows = made-shows terms;
    }
