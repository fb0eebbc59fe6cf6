-- What the rule allows a pass, as the steps on the table ask it: a payload word, a store, and the exchanges.
use Rattle.std.proofs.Common.{◌≡◌, ℕ, ◌<◌, true, false, eqb, sym, refl, ap, ◌∙◌, subst, arith, eq-eqb, ne_eqb}
use mathlib.Core.Logic.{dite}
use mathlib.Core.Option.{none, some, some-injective}
use native.Mathlib.Decide.{ℕ_discrete}
use lib.ListN.{get_elem?}
use prog.Atomic.{either}
use Rattle.atomic_table.specs.Table.{Me, step, keeps, stepped, Allows}
use Rattle.cubit_base.specs.declared.delta.Delta.{Delta}
use Rattle.cubit_base.specs.declared.entry.Entry.{Entry}
use Rattle.log_core.specs.declared.step.Step.TheVariants.{SwapTail}
use Rattle.log_core.specs.declared.step.Seen.TheVariants.{Swapped}
use Rattle.log_core.specs.Terms.{CoreTerms, AreTerms}
use Rattle.log_core.specs.Chain.{payload_place, link_place, tail, link, payload}
use Rattle.shared_log.specs.CoreLaws.{CoreLaws}
use Rattle.shared_log.specs.Shown.{IsRuled, view_after}
use Rattle.shared_log.specs.Steps.{Knows, IsNext, MayPut, MayTurn}
use Rattle.shared_log.specs.Told.{LoadsPayload, StoresWord, SwapsLink, SwapsTail, tells_payload, tells_store, tells_swap_link, tells_swap_tail}
use Rattle.shared_log.specs.declared.views.PassView.{PassView}
use Rattle.shared_log.specs.declared.views.SeatView.{SeatView}
use Rattle.shared_log.specs.declared.views.SeatView.TheVariants.{Pass}
use Rattle.shared_log.proofs.Allows.{Steps}
use Rattle.shared_log.proofs.Known.{known-at}
use Rattle.shared_log.proofs.Loads.{takes-payload, payload-view, loads-payload}
use Rattle.shared_log.proofs.Moves.{one-pass}
use Rattle.shared_log.proofs.Ruled.{table_of, on-core, ruled-after, ruled-unmoved}
use Rattle.shared_log.proofs.Writes.{put, put-view, takes-store, stores-word, turned, stayed, takes-turn, takes-stay, swaps-tail, stays-tail, won, lost, won-view, lost-view, takes-won, takes-lost, swaps-won, swaps-lost}

pub allows-payload : CoreLaws → (terms : CoreTerms) → AreTerms terms → (slots seat : ℕ) (me : Me Delta SeatView)
    (view : PassView) (node place word : ℕ) → me.0 ≡ Pass view → word < 4 → Knows terms view node place →
    Allows (IsRuled terms) slots seat me (payload_place node word) (λ n. n)
    (tells_payload terms (step slots (payload_place node word) 0 0 none) me)
allows-payload laws terms are slots seat me view node place word is small known state r _ at _ =
    on-core
    (λ t st. AreTerms t → Knows t view node place → get_elem? st.views seat ≡ some (Pass view) →
    Steps seat me (payload_place node word) (λ n. n)
    (λ t. tells_payload t (step slots (payload_place node word) 0 0 none) me) t st)
    (λ core homes views s shows are known at. (
      Pass (payload-view laws core homes views seat view s are shows at node place word small known),
      keeps,
      tt,
      ruled-unmoved laws core core homes views seat view _ _ s shows at
          (takes-payload laws core homes views seat view s are shows at node place word small known) refl refl
          (payload_place node word) me,
      λ v n k w isv isn small' kn.
          let one : view ≡ v = one-pass view v (sym is ∙ isv) in
          let two : node ≡ n = omega arith in
          let four : word ≡ w = omega arith in
          let here = known-at core core.words views seat view s shows at in
          let three : place ≡ k = laws.place core node place k s (here node place known)
          (here node k (subst (λ (y : ℕ × PassView). Knows core.terms y.1 y.0 k) (λ i. (sym two i, sym one i)) kn)) in (
            payload-view laws core homes views seat view s are shows at node place word small known,
            refl,
            subst (λ (y : ℕ × ℕ × ℕ × PassView). LoadsPayload core.terms y.3 y.0 y.1 y.2
                (payload core.words node word)
                (payload-view laws core homes views seat view s are shows at node place word small known))
                (λ i. (two i, three i, four i, one i))
                (loads-payload laws core homes views seat view s are shows at node place word small known),
          ),
    ))
    terms state r are known (at ∙ ap some is)

pub allows-store : CoreLaws → (terms : CoreTerms) → AreTerms terms → (slots seat : ℕ) (me : Me Delta SeatView)
    (view : PassView) (node word value : ℕ) → me.0 ≡ Pass view → word < 4 → IsNext terms view node →
    Allows (IsRuled terms) slots seat me (payload_place node word) (λ _. value)
    (λ _. tells_store terms (step slots (payload_place node word) value 0 none) me value)
allows-store laws terms are slots seat me view node word value is small next state r _ at _ =
    on-core
    (λ t st. AreTerms t → IsNext t view node → get_elem? st.views seat ≡ some (Pass view) →
    Steps seat me (payload_place node word) (λ _. value)
    (λ t _. tells_store t (step slots (payload_place node word) value 0 none) me value) t st)
    (λ core homes views s shows are next at. (
      Pass (put-view laws core homes views seat view s are shows at node word value next small),
      keeps,
      tt,
      ruled-after laws core (put laws core homes views seat view s are shows at node word value next small) homes views
          seat view _ _ s shows at
          (takes-store laws core homes views seat view s are shows at node word value next small) refl,
      λ v n w isv isn small' nx.
          let one : view ≡ v = one-pass view v (sym is ∙ isv) in
          let two : node ≡ n = omega arith in
          let four : word ≡ w = omega arith in (
            put-view laws core homes views seat view s are shows at node word value next small,
            refl,
            subst (λ (y : ℕ × ℕ × PassView). StoresWord core.terms y.2 y.0 y.1 value
                (put-view laws core homes views seat view s are shows at node word value next small))
                (λ i. (two i, four i, one i))
                (stores-word laws core homes views seat view s are shows at node word value next small),
          ),
    ))
    terms state r are next (at ∙ ap some is)

pub allows-swap-tail : CoreLaws → (terms : CoreTerms) → AreTerms terms → (slots seat : ℕ) (me : Me Delta SeatView)
    (view : PassView) (from to place : ℕ) → me.0 ≡ Pass view → MayTurn terms view from to place →
    Allows (IsRuled terms) slots seat me 0 (λ n. either (eqb n from) to n)
    (tells_swap_tail terms (step slots 0 from to none) me)
allows-swap-tail laws terms are slots seat me view from to place is may state r _ at _ =
    on-core
    (λ t st. AreTerms t → MayTurn t view from to place → get_elem? st.views seat ≡ some (Pass view) →
    Steps seat me 0 (λ n. either (eqb n from) to n) (λ t. tells_swap_tail t (step slots 0 from to none) me) t st)
    (λ core homes views s shows are may at.
    let here = known-at core core.words views seat view s shows at in
    let told : (later : PassView) → SwapsTail core.terms view from to place (tail core.words) later →
    tells_swap_tail core.terms (step slots 0 from to none) me (tail core.words) (Pass later, me.1) = λ later tells v k isv kn.
    let one : view ≡ v = one-pass view v (sym is ∙ isv) in
    let three : place ≡ k = laws.place core from place k s (here from place may.known)
    (here from k (subst (λ y. Knows core.terms y from k) (sym one) kn)) in (
      later,
      refl,
      subst (λ (y : ℕ × PassView). SwapsTail core.terms y.1 from to y.0 (tail core.words) later)
          (λ i. (three i, one i)) tells,
    ) in
    dite (ℕ_discrete (tail core.words) from)
    (λ hit.
    let next = turned laws core homes views seat view s are shows at from to place may in
    let later = view_after next view
    (SwapTail from to)
    (Swapped true) in (
      Pass later,
      keeps,
      tt,
      subst (λ b. IsRuled core.terms (stepped (table_of core homes views) 0
          (either b to (tail core.words)) seat me.1 (Pass later) keeps)) (sym (eq-eqb (tail core.words) from hit))
          (ruled-after laws core next homes views seat view _ _ s shows at
          (takes-turn laws core homes views seat view s are shows at from to place may hit) refl),
      told later (swaps-tail laws core homes views seat view s are shows at from to place may hit),
    ))
    (λ miss.
    let next = stayed laws core homes views seat view s are shows at from to place may in
    let later = view_after next view
    (SwapTail from to)
    (Swapped false) in (
      Pass later,
      keeps,
      tt,
      subst (λ b. IsRuled core.terms (stepped (table_of core homes views) 0
          (either b to (tail core.words)) seat me.1 (Pass later) keeps)) (sym (ne_eqb (tail core.words) from miss))
          (ruled-unmoved laws core next homes views seat view _ _ s shows at
          (takes-stay laws core homes views seat view s are shows at from to place may miss) refl refl 0 me),
      told later (stays-tail laws core homes views seat view s are shows at from to place may miss),
    )))
    terms state r are may (at ∙ ap some is)

pub allows-swap-link : CoreLaws → (terms : CoreTerms) → AreTerms terms → (slots seat : ℕ) (me : Me Delta SeatView)
    (view : PassView) (node to place : ℕ) (e : Entry) → me.0 ≡ Pass view → MayPut terms view node to place e →
    Allows (IsRuled terms) slots seat me (link_place node) (λ n. either (eqb n 0) to n)
    (tells_swap_link terms (step slots (link_place node) 0 to (some e.delta)) me)
allows-swap-link laws terms are slots seat me view node to place e is may state r _ at _ =
    on-core
    (λ t st. AreTerms t → MayPut t view node to place e → get_elem? st.views seat ≡ some (Pass view) →
    Steps seat me (link_place node) (λ n. either (eqb n 0) to n)
    (λ t. tells_swap_link t (step slots (link_place node) 0 to (some e.delta)) me) t st)
    (λ core homes views s shows are may at.
    let here = known-at core core.words views seat view s shows at in
    let found : ℕ = link core.words node in
    let told : (later : PassView) → SwapsLink core.terms view node to place e.delta found later →
    tells_swap_link core.terms (step slots (link_place node) 0 to (some e.delta)) me found (Pass later, me.1) =
    λ later tells v n k e' isv isn may' said.
    let one : view ≡ v = one-pass view v (sym is ∙ isv) in
    let two : node ≡ n = omega arith in
    let four : e.delta ≡ e'.delta = some-injective e.delta e'.delta said in
    let three : place ≡ k = laws.place core node place k s (here node place may.known)
    (here node k (subst (λ (y : ℕ × PassView). Knows core.terms y.1 y.0 k) (λ i. (sym two i, sym one i))
    may'.known)) in (
      later,
      refl,
      subst (λ (y : ℕ × ℕ × Delta × PassView). SwapsLink core.terms y.3 y.0 to y.1 y.2 found later)
          (λ i. (two i, three i, four i, one i)) tells,
    ) in
    dite (ℕ_discrete found 0)
    (λ hit. (
      Pass (won-view laws core homes views seat view s are shows at node to place e may),
      keeps,
      tt,
      subst (λ b. IsRuled core.terms (stepped (table_of core homes views)
          (link_place node) (either b to found) seat me.1
          (Pass (won-view laws core homes views seat view s are shows at node to place e may)) keeps))
          (sym (eq-eqb found 0 hit))
          (ruled-after laws core (won laws core homes views seat view s are shows at node to place e may) homes views
          seat view _ _ s shows at
          (takes-won laws core homes views seat view s are shows at node to place e may hit) refl),
      told (won-view laws core homes views seat view s are shows at node to place e may)
          (swaps-won laws core homes views seat view s are shows at node to place e may hit found hit),
    ))
    (λ miss. (
      Pass (lost-view laws core homes views seat view s are shows at node to place e may),
      keeps,
      tt,
      subst (λ b. IsRuled core.terms (stepped (table_of core homes views)
          (link_place node) (either b to found) seat me.1
          (Pass (lost-view laws core homes views seat view s are shows at node to place e may)) keeps))
          (sym (ne_eqb found 0 miss))
          (ruled-unmoved laws core (lost laws core homes views seat view s are shows at node to place e may) homes views
          seat view _ _ s shows at
          (takes-lost laws core homes views seat view s are shows at node to place e may miss) refl refl
          (link_place node) me),
      told (lost-view laws core homes views seat view s are shows at node to place e may)
          (swaps-lost laws core homes views seat view s are shows at node to place e may miss),
    )))
    terms state r are may (at ∙ ap some is)

-- the same, where the delta is told
pub allows-swap-link-of : CoreLaws → (terms : CoreTerms) → AreTerms terms → (slots seat : ℕ)
    (me : Me Delta SeatView) (view : PassView) (node to place : ℕ) (e : Entry) (d : Delta) → e.delta ≡ d →
    me.0 ≡ Pass view → MayPut terms view node to place e →
    Allows (IsRuled terms) slots seat me (link_place node) (λ n. either (eqb n 0) to n)
    (tells_swap_link terms (step slots (link_place node) 0 to (some d)) me)
allows-swap-link-of laws terms are slots seat me view node to place e d same is may =
    subst (λ x. Allows (IsRuled terms) slots seat me (link_place node) (λ n. either (eqb n 0) to n)
    (tells_swap_link terms (step slots (link_place node) 0 to (some x)) me)) same
    (allows-swap-link laws terms are slots seat me view node to place e is may)
