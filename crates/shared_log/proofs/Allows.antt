-- What the rule allows a pass, as the steps on the table ask it.
use Rattle.std.proofs.Common.{◌≡◌, ℕ, get_or, sym, refl, ap, ◌∙◌, subst, arith}
use mathlib.Core.Option.{none, some}
use lib.ListN.{get_elem?}
use Rattle.atomic_table.specs.Table.{Me, Act, step, keeps, stepped, carried_after, Valid, Allows}
use Rattle.cubit_base.specs.declared.delta.Delta.{Delta}
use Rattle.log_core.specs.Terms.{CoreTerms, AreTerms}
use Rattle.log_core.specs.Chain.{link_place, tail, link}
use Rattle.shared_log.specs.Shown.{IsRuled}
use Rattle.shared_log.specs.Steps.{Knows}
use Rattle.shared_log.specs.Told.{LoadsTail, LoadsLink, tells_tail, tells_link}
use Rattle.shared_log.specs.declared.views.PassView.{PassView}
use Rattle.shared_log.specs.declared.views.SeatView.{SeatView}
use Rattle.shared_log.specs.declared.views.SeatView.TheVariants.{Pass}
use Rattle.shared_log.specs.CoreLaws.{CoreLaws}
use Rattle.shared_log.proofs.Known.{known-at}
use Rattle.shared_log.proofs.Loads.{tailed, takes-tail, tail-view, loads-tail, linked, takes-link, link-view, loads-link}
use Rattle.shared_log.proofs.Moves.{one-pass}
use Rattle.shared_log.proofs.Ruled.{Table, on-core, ruled-unmoved}

-- what a step on a table comes to, where the word becomes f of what it was
abbrev pub Steps : ℕ → Me Delta SeatView → ℕ → (ℕ → ℕ) → (CoreTerms → ℕ → Me Delta SeatView → Type 0) → CoreTerms →
    Table → Type 0
Steps seat me i f then terms state =
    (w : SeatView) × (a : Act Delta) × Valid state.homes me.1 a
    × IsRuled terms (stepped state i (f (get_or state.words i 0)) seat me.1 w a)
    × then terms (get_or state.words i 0) (w, carried_after me.1 a)

pub allows-tail : CoreLaws → (terms : CoreTerms) → AreTerms terms → (slots seat : ℕ) (me : Me Delta SeatView)
    (view : PassView) → me.0 ≡ Pass view →
    Allows (IsRuled terms) slots seat me 0 (λ n. n) (tells_tail terms (step slots 0 0 0 none) me)
allows-tail laws terms are slots seat me view is state r _ at _ =
    on-core
    (λ t st. AreTerms t → get_elem? st.views seat ≡ some (Pass view) →
    Steps seat me 0 (λ n. n) (λ t. tells_tail t (step slots 0 0 0 none) me) t st)
    (λ core homes views s shows are at. (
      Pass (tail-view laws core homes views seat view s are shows at),
      keeps,
      tt,
      ruled-unmoved laws core (tailed laws core homes views seat view s are shows at) homes views seat view _ _ s shows
          at (takes-tail laws core homes views seat view s are shows at) refl refl 0 me,
      λ v isv. (
        tail-view laws core homes views seat view s are shows at,
        refl,
        subst (λ y. LoadsTail core.terms y (tail core.words) (tail-view laws core homes views seat view s are shows at))
            (one-pass view v (sym is ∙ isv)) (loads-tail laws core homes views seat view s are shows at),
      ),
    ))
    terms state r are (at ∙ ap some is)

pub allows-link : CoreLaws → (terms : CoreTerms) → AreTerms terms → (slots seat : ℕ) (me : Me Delta SeatView)
    (view : PassView) (node place : ℕ) → me.0 ≡ Pass view → Knows terms view node place →
    Allows (IsRuled terms) slots seat me (link_place node) (λ n. n)
    (tells_link terms (step slots (link_place node) 0 0 none) me)
allows-link laws terms are slots seat me view node place is known state r _ at _ =
    on-core
    (λ t st. AreTerms t → Knows t view node place → get_elem? st.views seat ≡ some (Pass view) →
    Steps seat me (link_place node) (λ n. n) (λ t. tells_link t (step slots (link_place node) 0 0 none) me) t st)
    (λ core homes views s shows are known at. (
      Pass (link-view laws core homes views seat view s are shows at node place known),
      keeps,
      tt,
      ruled-unmoved laws core (linked laws core homes views seat view s are shows at node place known) homes views seat
          view _ _ s shows at (takes-link laws core homes views seat view s are shows at node place known) refl refl
          (link_place node) me,
      λ v n k isv isn kn.
          let one : view ≡ v = one-pass view v (sym is ∙ isv) in
          let two : node ≡ n = omega arith in
          let here = known-at core core.words views seat view s shows at in
          let three : place ≡ k = laws.place core node place k s (here node place known)
          (here node k (subst (λ (y : ℕ × PassView). Knows core.terms y.1 y.0 k) (λ i. (sym two i, sym one i)) kn)) in (
            link-view laws core homes views seat view s are shows at node place known,
            refl,
            subst (λ (y : ℕ × ℕ × PassView). LoadsLink core.terms y.2 y.0 y.1 (link core.words node)
                (link-view laws core homes views seat view s are shows at node place known))
                (λ i. (two i, three i, one i))
                (loads-link laws core homes views seat view s are shows at node place known),
          ),
    ))
    terms state r are known (at ∙ ap some is)
