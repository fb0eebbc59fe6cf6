-- What a pass may do, by what it knows, is lawful in each core that is shown.
use Rattle.std.proofs.Common.{◌≡◌, ℕ, ◌+◌, ◌<◌, true, false, List, [], ◌∷◌, ◌++◌, sym, refl, ap, ◌∙◌, subst, inl, inr, arith}
use mathlib.Core.Logic.{dite}
use mathlib.Core.Option.{some}
use native.Mathlib.Decide.{ℕ_discrete}
use lib.ListN.{get_elem?}
use Rattle.cubit_base.specs.Delta.{IsLawful}
use Rattle.cubit_base.specs.History.{after, rows_after}
use Rattle.cubit_base.specs.declared.delta.Delta.{Delta}
use Rattle.cubit_base.specs.declared.entry.Entry.{Entry}
use Rattle.log_core.specs.declared.step.Step.{Step}
use Rattle.log_core.specs.declared.step.Step.TheVariants.{Store, LoadTail, LoadLink, LoadPayload, SwapLink, SwapTail, Note, Join}
use Rattle.log_core.specs.declared.step.Seen.TheVariants.{Swapped, Done}
use Rattle.log_core.specs.Terms.{first_node}
use Rattle.log_core.specs.Chain.{tail, link, payload, node_at, HasEntry}
use Rattle.log_core.specs.Core.{CoreValue, party, IsSound}
use Rattle.log_core.specs.Steps.{IsNextNode, MayRead, MayLink, MayComeNext, MayMoveTail, IsLawfulStep}
use Rattle.shared_log.specs.Shown.{Shows, stored}
use Rattle.shared_log.specs.Steps.{Knows, IsNext, HasReady, MayPut, MayTurn, MayTake, MayLaw}
use Rattle.shared_log.specs.declared.views.PassView.{PassView}
use Rattle.shared_log.specs.declared.views.SeatView.{SeatView}
use Rattle.shared_log.specs.declared.views.SeatView.TheVariants.{Pass}
use Rattle.shared_log.specs.CoreLaws.{CoreLaws}
use Rattle.shared_log.proofs.Ends.{take-front}
use Rattle.shared_log.proofs.Known.{own, in-core, known-at, known-end, known-seen}

module _ (laws : CoreLaws) (core : CoreValue) (words : List ℕ) (views : List SeatView) (seat : ℕ) (view : PassView)
    (s : IsSound core) (shows : Shows core words views) (at : get_elem? views seat ≡ some (Pass view)) where
  abbrev p : ℕ
  p = view.author

  pub may-use : (node : ℕ) → IsNext core.terms view node → IsNextNode core p node
  may-use node next = let used = (own core words views seat view s shows at).used in let is = next.is in record {
    share = let a = next.share in omega arith;
    is = omega arith;
  }

  pub may-read : (node place : ℕ) → Knows core.terms view node place → MayRead core p node place
  may-read node place known = record {
    at = known-at core words views seat view s shows at node place known;
    seen = known-seen core words views seat view s shows at node place known;
  }

  pub may-link : (node to place : ℕ) (e : Entry) → MayPut core.terms view node to place e →
      MayLink core p node to place
  may-link node to place e m =
      let reached = (own core words views seat view s shows at).reached in
      let end = known-end core words views seat view s shows at node place m.known in record {
        read = may-read node place m.known;
        reached = let a = m.reached in omega arith;
        room = let a = m.room in omega arith;
        next = may-use to m.next;
      }

  -- the node has the words that the pass stored there
  pub has-words : (to : ℕ) → IsNext core.terms view to → (w : ℕ) → w < 4 → payload core.words to w ≡ stored view.trace to w
  has-words to next w small =
      let is : first_node core.terms p + view.used ≡ to = sym next.is in
      subst (λ n. payload core.words n w ≡ stored view.trace n w) is
      ((own core words views seat view s shows at).drafts view.used w next.share small)

  pub has-entry : (to place : ℕ) (e : Entry) → IsNext core.terms view to → HasReady core.terms view to place e →
      HasEntry core.words to e
  has-entry to place e next ready = record {
    fits = ready.fits;
    payload = λ w small. has-words to next w small ∙ ready.words w small;
  }

  pub may-come : (node to place : ℕ) (e : Entry) → Knows core.terms view node place →
      HasReady core.terms view to place e → MayComeNext core p place e
  may-come node to place e known ready =
      let f = own core words views seat view s shows at in
      let end = known-end core words views seat view s shows at node place known in
      let same = take-front core.chain.history view.seen (party core p).seen place f.seen known.within in record {
        author = ready.author;
        seq = let a = ready.seq in omega arith;
        rows = ready.rows ∙ ap (λ (h : List Delta). rows_after core.terms.base (h ++ e.delta ∷ [])) same;
        lawful = subst (λ (h : List Delta). IsLawful core.terms.limits.row_limit (after core.terms.base h) e.delta)
            same ready.lawful;
      }

  pub may-move : (from to place : ℕ) → MayTurn core.terms view from to place → MayMoveTail core p from to place
  may-move from to place m =
      let f = own core words views seat view s shows at in
      let here = known-at core words views seat view s shows at from place m.known in
      let next = known-at core words views seat view s shows at to (place + 1) m.next in
      let end = known-end core words views seat view s shows at from place m.known in record {
        at = here;
        reached = let a = m.reached in let b = f.reached in omega arith;
        link = subst (λ n. link core.words n ≡ node_at core.chain (place + 1)) here.is (s.linked.next place here.within)
            ∙ next.is;
        set = λ e. let head = laws.head core (place + 1) s (record { within = next.within; is = next.is ∙ e }) in
            absurd (omega arith);
        seen = known-seen core words views seat view s shows at to (place + 1) m.next;
      }

  abbrev takes : Step → Type 0
  takes step = IsLawfulStep core p step

  pub lawful : (step : Step) → MayTake core.terms view step → takes step
  lawful (Store node word value) (next, small) =
      (Done, _, record { party = in-core core words views seat view s shows at; gives = (may-use node next, small, refl, refl) })
  lawful LoadTail may = (_, _, record { party = in-core core words views seat view s shows at; gives = (refl, refl) })
  lawful (LoadLink node) (place, known) = (
    _,
    _,
    record {
      party = in-core core words views seat view s shows at;
      gives = (place, may-read node place known, refl, refl);
    },
  )
  lawful (LoadPayload node word) (place, known, small) = (
    _,
    _,
    record {
      party = in-core core words views seat view s shows at;
      gives = (place, may-read node place known, small, refl, refl);
    },
  )
  lawful (SwapLink node to) (place, e, m) = dite (ℕ_discrete (link core.words node) 0)
      (λ free. (
        Swapped true,
        _,
        record {
          party = in-core core words views seat view s shows at;
          gives = (
            place,
            e,
            may-link node to place e m,
            has-entry to place e m.next m.ready,
            may-come node to place e m.known m.ready,
            inl (free, refl, refl),
          );
        },
      ))
      (λ set. (
        Swapped false,
        _,
        record {
          party = in-core core words views seat view s shows at;
          gives = (
            place,
            e,
            may-link node to place e m,
            has-entry to place e m.next m.ready,
            may-come node to place e m.known m.ready,
            inr (set, refl, refl),
          );
        },
      ))
  lawful (SwapTail from to) (place, m) = dite (ℕ_discrete (tail core.words) from)
      (λ is. (
        Swapped true,
        _,
        record {
          party = in-core core words views seat view s shows at;
          gives = (place, may-move from to place m, inl (is, refl, refl));
        },
      ))
      (λ ne. (
        Swapped false,
        _,
        record {
          party = in-core core words views seat view s shows at;
          gives = (place, may-move from to place m, inr (ne, refl, refl));
        },
      ))
  lawful Note may = (_, _, record { party = in-core core words views seat view s shows at; gives = (refl, refl) })
  lawful (Join note) may = absurd may

pub may-law : CoreLaws → (step : Step) → MayLaw step
may-law laws step core words views seat view s shows at may = lawful laws core words views seat view s shows at step may
