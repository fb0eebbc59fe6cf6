-- What the rule allows a pass: a store, and the exchanges of a link and of the tail.
use Rattle.std.proofs.Common.{◌≡◌, ◌≢◌, ℕ, suc, ◌+◌, ◌<◌, ◌≤◌, true, false, eqb, List, [], ◌∷◌, ◌++◌, length, set, take, sym, refl, ap, ◌∙◌, subst, inl, inr, arith, get_or-set_same, length-append, append-nil, eq-eqb, ne_eqb}
use Rattle.std.specs.List.{count_by}
use Rattle.std.proofs.lemmas.List.{take_at, get_or_at}
use mathlib.Core.Option.{Option, some}
use lib.ListN.{get_elem?}
use Rattle.cubit_base.specs.declared.delta.Delta.{Delta}
use Rattle.cubit_base.specs.declared.entry.Entry.{Entry}
use Rattle.log_core.specs.declared.party.Party.{Party}
use Rattle.log_core.specs.declared.step.Step.TheVariants.{Store, SwapLink, SwapTail}
use Rattle.log_core.specs.declared.step.Seen.TheVariants.{Swapped, Done}
use Rattle.log_core.specs.Terms.{first_node, AreTerms}
use Rattle.log_core.specs.Chain.{payload_place, tail, link, no_delta, delta_at, IsNodeAt, end_at, is_by}
use Rattle.log_core.specs.Core.{CoreValue, newcomer, party, with_party, IsSound}
use Rattle.log_core.specs.Steps.{sees, reaches, links, sees_next, reaches_next, linked, tail_moved, TakesStep}
use Rattle.shared_log.specs.Fronts.{IsFront, node_in}
use Rattle.shared_log.specs.Shown.{Shows, view_after}
use Rattle.shared_log.specs.Steps.{IsNext, MayPut, MayTurn}
use Rattle.shared_log.specs.Told.{TookStep, StoresWord, SwapsLink, SwapsTail}
use Rattle.shared_log.specs.declared.views.PassView.{PassView}
use Rattle.shared_log.specs.declared.views.SeatView.{SeatView}
use Rattle.shared_log.specs.declared.views.SeatView.TheVariants.{Pass}
use Rattle.shared_log.specs.CoreLaws.{CoreLaws}
use Rattle.shared_log.proofs.Ends.{end_at-place, end_at-front}
use Rattle.shared_log.proofs.Prefixes.{one-front}
use Rattle.shared_log.proofs.Known.{front-within, own, in-core, known-at}
use Rattle.shared_log.proofs.Law.{follows}
use Rattle.shared_log.proofs.Loads.{more-known}
use Rattle.shared_log.proofs.May.{may-use, may-link, has-entry, may-come, may-move}
use Rattle.shared_log.proofs.Told.{took, knows-log}

module _ (laws : CoreLaws) (core : CoreValue) (homes : List (Option Delta)) (views : List SeatView) (seat : ℕ)
    (view : PassView) (s : IsSound core) (are : AreTerms core.terms) (shows : Shows core core.words views)
    (at : get_elem? views seat ≡ some (Pass view)) where
  abbrev p : ℕ
  p = view.author

  abbrev h : List Delta
  h = core.chain.history

  inp : p < length core.parties
  inp = in-core core core.words views seat view s shows at

  -- a store
  module _ (node word value : ℕ) (next : IsNext core.terms view node) (small : word < 4) where
    abbrev pub put : CoreValue
    put = record core { words = set core.words (payload_place node word) value }

    pub takes-store : TakesStep core p (Store node word value) Done put
    takes-store = record {
      party = inp;
      gives = (may-use laws core core.words views seat view s shows at node next, small, refl, refl);
    }

    abbrev pub put-view : PassView
    put-view = view_after put view (Store node word value) Done

    pub stores-word : StoresWord core.terms view node word value put-view
    stores-word =
        let f = own core core.words views seat view s shows at in record {
          took = took laws (Store node word value) core put core.words views seat view Done s are shows at takes-store;
          seen = one-front h put-view.seen view.seen (party core p).seen
              (follows laws (Store node word value) core put core.words views seat view Done s shows at
              takes-store).seen
              f.seen;
          used = sym f.used;
          reached = sym f.reached;
        }

  -- the exchange of the tail
  module _ (from to place : ℕ) (may : MayTurn core.terms view from to place) where
    abbrev reacher : Party
    reacher = reaches (party core p) (end_at h (place + 1))

    now-reaches : party (with_party core p reacher) p ≡ reacher
    now-reaches = get_or-set_same core.parties p reacher newcomer inp

    abbrev pub turned : CoreValue
    turned = tail_moved core p to place

    abbrev pub stayed : CoreValue
    stayed = reaches_next core p place

    pub takes-turn : tail core.words ≡ from → TakesStep core p (SwapTail from to) (Swapped true) turned
    takes-turn is = record {
      party = inp;
      gives = (
        place,
        may-move laws core core.words views seat view s shows at from to place may,
        inl (is, refl, refl),
      );
    }

    pub takes-stay : tail core.words ≢ from → TakesStep core p (SwapTail from to) (Swapped false) stayed
    takes-stay ne = record {
      party = inp;
      gives = (
        place,
        may-move laws core core.words views seat view s shows at from to place may,
        inr (ne, refl, refl),
      );
    }

    swaps : (next : CoreValue) (won : _) → next.chain.history ≡ h → party next p ≡ reacher →
        (takes : TakesStep core p (SwapTail from to) (Swapped won) next) → (found : ℕ) → eqb found from ≡ won →
        SwapsTail core.terms view from to place found (view_after next view (SwapTail from to) (Swapped won))
    swaps next won same party_is takes found is =
        let f = own core core.words views seat view s shows at in
        let later = view_after next view (SwapTail from to) (Swapped won) in
        let e = end_at-front h view.seen (party core p).seen (place + 1) f.seen may.next.within in
        let x = ap (λ (y : Party). y.reached) party_is in
        let seen : IsFront next.chain.history later.seen (party next p).seen =
        (follows laws (SwapTail from to) core next core.words views seat view (Swapped won) s shows at takes).seen in
        record {
          took = subst (λ b. TookStep core.terms view (SwapTail from to) (Swapped b) later) (sym is)
              (took laws (SwapTail from to) core next core.words views seat view (Swapped won) s are shows at takes);
          seen = one-front h later.seen view.seen (party core p).seen
              (subst (λ (y : List Delta × ℕ). IsFront y.0 later.seen y.1)
              (λ i. (same i, (ap (λ (y : Party). y.seen) party_is) i)) seen)
              f.seen;
          used = ap (λ (y : Party). y.used) party_is ∙ sym f.used;
          reached = omega arith;
        }

    pub swaps-tail : (is : tail core.words ≡ from) → SwapsTail core.terms view from to place (tail core.words)
        (view_after turned view (SwapTail from to) (Swapped true))
    swaps-tail is =
        swaps turned true refl now-reaches (takes-turn is) (tail core.words) (eq-eqb (tail core.words) from is)

    pub stays-tail : (ne : tail core.words ≢ from) → SwapsTail core.terms view from to place (tail core.words)
        (view_after stayed view (SwapTail from to) (Swapped false))
    stays-tail ne =
        swaps stayed false refl now-reaches (takes-stay ne) (tail core.words) (ne_eqb (tail core.words) from ne)

  -- the exchange of a link
  module _ (node to place : ℕ) (e : Entry) (may : MayPut core.terms view node to place e) where
    abbrev d : Delta
    d = e.delta

    here : IsNodeAt core.chain node place
    here = known-at core core.words views seat view s shows at node place may.known

    abbrev pub won : CoreValue
    won = linked core p node to place d

    abbrev pub lost : CoreValue
    lost = sees_next core p place

    pub takes-won : link core.words node ≡ 0 → TakesStep core p (SwapLink node to) (Swapped true) won
    takes-won free = record {
      party = inp;
      gives = (
        place,
        e,
        may-link laws core core.words views seat view s shows at node to place e may,
        has-entry laws core core.words views seat view s shows at to place e may.next may.ready,
        may-come laws core core.words views seat view s shows at node to place e may.known may.ready,
        inl (free, refl, refl),
      );
    }

    pub takes-lost : link core.words node ≢ 0 → TakesStep core p (SwapLink node to) (Swapped false) lost
    takes-lost set = record {
      party = inp;
      gives = (
        place,
        e,
        may-link laws core core.words views seat view s shows at node to place e may,
        has-entry laws core core.words views seat view s shows at to place e may.next may.ready,
        may-come laws core core.words views seat view s shows at node to place e may.known may.ready,
        inr (set, refl, refl),
      );
    }

    abbrev pub won-view : PassView
    won-view = view_after won view (SwapLink node to) (Swapped true)

    abbrev pub lost-view : PassView
    lost-view = view_after lost view (SwapLink node to) (Swapped false)

    now-links : party won p ≡ links (party core p) (end_at h place)
    now-links = get_or-set_same core.parties p (links (party core p) (end_at h place)) newcomer inp

    now-sees : party lost p ≡ sees (party core p) (end_at h (place + 1))
    now-sees = get_or-set_same core.parties p (sees (party core p) (end_at h (place + 1))) newcomer inp

    -- where the link was empty, the pass had seen all
    all-seen : link core.words node ≡ 0 → (place ≡ length view.seen) × (view.seen ≡ h)
    all-seen free =
        let f = own core core.words views seat view s shows at in
        let last = laws.last core node place s here free in
        let short = front-within core s view.seen (party core p).seen f.seen in
        let kn = may.known.within in
        let c = f.seen.count in (
          omega arith,
          one-front h view.seen h (party core p).seen f.seen
              (record { begins = ([], sym (append-nil h)); count = omega arith }),
        )

    won-seen : link core.words node ≡ 0 → won-view.seen ≡ view.seen ++ d ∷ []
    won-seen free =
        let f = own core core.words views seat view s shows at in
        let all = all-seen free in
        let c = f.seen.count in
        let x = ap (λ (y : Party). y.seen) now-links in
        let len = ap (λ (y : List Delta). length y) all.1 in
        let end = end_at-place h place (omega arith) in
        one-front (h ++ d ∷ []) won-view.seen (view.seen ++ d ∷ []) (party won p).seen
        (follows laws (SwapLink node to) core won core.words views seat view (Swapped true) s shows at
        (takes-won free)).seen
        (record {
          begins = (
            [],
            ap (λ (y : List Delta). y ++ d ∷ []) (sym all.1) ∙ sym (append-nil (view.seen ++ d ∷ [])),
          );
          count = omega (arith, length-append view.seen (d ∷ []));
        })

    -- the node is that of the new entry
    to-is : link core.words node ≡ 0 → to ≡ node_in core.terms (view.seen ++ d ∷ []) (place + 1)
    to-is free =
        let f = own core core.words views seat view s shows at in
        let all = all-seen free in
        let count = (knows-log laws core s are view inp f.seen f.used).used in
        let up : place + 1 ≡ suc place = omega arith in
        let len : length view.seen ≡ place = sym all.0 in
        let a : delta_at (view.seen ++ d ∷ []) place ≡ d = get_or_at view.seen d [] no_delta place len in
        let b : take place (view.seen ++ d ∷ []) ≡ view.seen = take_at view.seen (d ∷ []) place len in
        may.next.is ∙ ap (λ n. first_node core.terms p + n) count
        ∙ ap (λ q. first_node core.terms q + count_by (is_by q) view.seen) (sym may.ready.author)
        ∙ (λ i. first_node core.terms (sym a i).author + count_by (is_by (sym a i).author) (sym b i))
        ∙ sym (ap (node_in core.terms (view.seen ++ d ∷ [])) up)

    pub swaps-won : (free : link core.words node ≡ 0) → (found : ℕ) → found ≡ 0 →
        SwapsLink core.terms view node to place d found won-view
    swaps-won free found is =
        let f = own core core.words views seat view s shows at in
        let all = all-seen free in
        let seen = won-seen free in record {
          won = λ _. (
            took laws (SwapLink node to) core won core.words views seat view (Swapped true) s are shows at
                (takes-won free),
            all.0,
            seen,
            ap (λ (y : Party). y.used) now-links ∙ ap (λ n. n + 1) (sym f.used),
            record {
              within = subst (λ (g : List Delta). place + 1 ≤ length g) (sym seen)
                  (let a = all.0 in omega (arith, length-append view.seen (d ∷ [])));
              is = subst (λ (g : List Delta). to ≡ node_in core.terms g (place + 1)) (sym seen) (to-is free);
            },
          );
          lost = λ ne. absurd (ne is);
          reached = ap (λ (y : Party). y.reached) now-links ∙ sym f.reached;
        }

    pub swaps-lost : (set : link core.words node ≢ 0) →
        SwapsLink core.terms view node to place d (link core.words node) lost-view
    swaps-lost set =
        let f = own core core.words views seat view s shows at in
        let more = more-known laws core homes views seat view s are shows at node place may.known set in record {
          won = λ e. absurd (set e);
          lost = λ _. (
            took laws (SwapLink node to) core lost core.words views seat view (Swapped false) s are shows at
                (takes-lost set),
            record { within = more.0.within; is = more.0.is },
            more.1,
            ap (λ (y : Party). y.used) now-sees ∙ sym f.used,
          );
          reached = ap (λ (y : Party). y.reached) now-sees ∙ sym f.reached;
        }
