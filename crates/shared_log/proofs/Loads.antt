-- What the rule allows a pass: the loads.
use Rattle.std.proofs.Common.{◌≡◌, ◌≢◌, ℕ, zero, suc, ◌+◌, ◌<◌, ◌≤◌, max, List, length, set, sym, refl, ap, ◌∙◌, subst, arith, get_or-set_same}
use Rattle.std.proofs.lemmas.List.{get_or_past}
use mathlib.Core.Logic.{dite}
use mathlib.Core.Option.{Option, some}
use native.Mathlib.Decide.{dec_lt}
use lib.ListN.{get_elem?}
use Rattle.std.specs.Prelude.{slice_index}
use Rattle.cubit_base.specs.EntryWords.{entry_words}
use Rattle.cubit_base.specs.declared.delta.Delta.{Delta}
use Rattle.cubit_base.specs.declared.entry.Entry.{Entry}
use Rattle.log_core.specs.declared.party.Party.{Party}
use Rattle.log_core.specs.declared.step.Step.TheVariants.{LoadTail, LoadLink, LoadPayload}
use Rattle.log_core.specs.declared.step.Seen.TheVariants.{Value}
use Rattle.log_core.specs.Terms.{AreTerms}
use Rattle.log_core.specs.Chain.{tail, link, payload, node_at, IsNodeAt, end_at}
use Rattle.log_core.specs.Core.{CoreValue, newcomer, party, with_party, IsSound}
use Rattle.log_core.specs.Steps.{sees, tail_loaded, sees_next, TakesStep}
use Rattle.shared_log.specs.Fronts.{IsFront, node_in}
use Rattle.shared_log.specs.Shown.{Shows, view_after}
use Rattle.shared_log.specs.Steps.{Knows}
use Rattle.shared_log.specs.Told.{LoadsTail, LoadsLink, LoadsPayload, payload_in}
use Rattle.shared_log.specs.declared.views.PassView.{PassView}
use Rattle.shared_log.specs.declared.views.SeatView.{SeatView}
use Rattle.shared_log.specs.declared.views.SeatView.TheVariants.{Pass}
use Rattle.shared_log.specs.CoreLaws.{CoreLaws}
use Rattle.shared_log.proofs.Ends.{end_at-front, end_at-greater, end_at-last, end_at-place}
use Rattle.shared_log.proofs.Prefixes.{one-front}
use Rattle.shared_log.proofs.Known.{node_in-chain, node_in-front, front-within, node-at-front, own, in-core, known-at}
use Rattle.shared_log.proofs.Law.{follows}
use Rattle.shared_log.proofs.May.{may-read}
use Rattle.shared_log.proofs.Told.{took, entry_at-front}

-- a front that reaches the end of a place has that place
pub front-reaches : (h f : List Delta) (n k : ℕ) → IsFront h f n → k ≤ length h → end_at h k ≤ n → k ≤ length f
front-reaches h f n k i within le = dite (dec_lt (length f) k)
    (λ lt.
    let c = i.count in
    let a = end_at-greater h (length f) k lt (omega arith) in
    let b = end_at-front h f n (length f) i (omega arith) in
    let w = end_at-last f (length f) (omega arith) in
    absurd (omega arith))
    (λ ge. omega arith)

-- the node of the chain in a place that a front has
pub node-known : (core : CoreValue) → IsSound core → (f : List Delta) (n k : ℕ) → IsFront core.chain.history f n →
    k ≤ length f → node_at core.chain k ≡ node_in core.terms f k
node-known core s f n k i le =
    let short = front-within core s f n i in
    node_in-chain core s k (omega arith) ∙ sym (node_in-front core.terms core.chain.history f n k i le)

module _ (laws : CoreLaws) (core : CoreValue) (homes : List (Option Delta)) (views : List SeatView) (seat : ℕ)
    (view : PassView) (s : IsSound core) (are : AreTerms core.terms) (shows : Shows core core.words views)
    (at : get_elem? views seat ≡ some (Pass view)) where
  abbrev p : ℕ
  p = view.author

  abbrev h : List Delta
  h = core.chain.history

  inp : p < length core.parties
  inp = in-core core core.words views seat view s shows at

  now : (x : Party) → party (with_party core p x) p ≡ x
  now x = get_or-set_same core.parties p x newcomer inp

  -- the tail
  abbrev pub tailed : CoreValue
  tailed = with_party core p (tail_loaded core (party core p))

  pub takes-tail : TakesStep core p LoadTail (Value (tail core.words)) tailed
  takes-tail = record { party = inp; gives = (refl, refl) }

  abbrev pub tail-view : PassView
  tail-view = view_after tailed view LoadTail (Value (tail core.words))

  tail-front : IsFront h tail-view.seen (party tailed p).seen
  tail-front = (follows laws LoadTail core tailed core.words views seat view (Value (tail core.words)) s shows at
      takes-tail).seen

  pub loads-tail : LoadsTail core.terms view (tail core.words) tail-view
  loads-tail =
      let place : ℕ = core.chain.tail_place in
      let x = now (tail_loaded core (party core p)) in
      let seen = ap (λ (y : Party). y.seen) x in
      let reached = ap (λ (y : Party). y.reached) x in
      let within = s.tail.within in
      let has : place ≤ length tail-view.seen =
      front-reaches h tail-view.seen (party tailed p).seen place tail-front within (omega arith) in
      let count = s.linked.count in
      let node : IsNodeAt core.chain (tail core.words) place = record { within = omega arith; is = sym s.tail.is } in
      let f = own core core.words views seat view s shows at in record {
        took = took laws LoadTail core tailed core.words views seat view (Value (tail core.words)) s are shows at
            takes-tail;
        place = place;
        known = record {
          within = has;
          is = s.tail.is ∙ node-known core s tail-view.seen (party tailed p).seen place tail-front has;
        };
        only = λ k kn. laws.place core (tail core.words) k place s
            (node-at-front core s tail-view.seen (party tailed p).seen tail-front (tail core.words) k kn.within kn.is)
            node;
        late = let a = s.tail.late in let b = front-within core s tail-view.seen (party tailed p).seen tail-front in
            omega arith;
        used = ap (λ (y : Party). y.used) x ∙ sym f.used;
        reached = let a = end_at-front h tail-view.seen (party tailed p).seen place tail-front has in omega arith;
      }

  -- a link
  module _ (node place : ℕ) (known : Knows core.terms view node place) where
    here : IsNodeAt core.chain node place
    here = known-at core core.words views seat view s shows at node place known

    abbrev pub linked : CoreValue
    linked = sees_next core p place

    pub takes-link : TakesStep core p (LoadLink node) (Value (link core.words node)) linked
    takes-link = record {
      party = inp;
      gives = (place, may-read laws core core.words views seat view s shows at node place known, refl, refl);
    }

    abbrev pub link-view : PassView
    link-view = view_after linked view (LoadLink node) (Value (link core.words node))

    link-front : IsFront h link-view.seen (party linked p).seen
    link-front = (follows laws (LoadLink node) core linked core.words views seat view
        (Value (link core.words node)) s shows at takes-link).seen

    link-is : link core.words node ≡ node_at core.chain (place + 1)
    link-is = subst (λ n. link core.words n ≡ node_at core.chain (place + 1)) here.is
        (s.linked.next place here.within)

    seen-is : (party linked p).seen ≡ max (party core p).seen (end_at h (place + 1))
    seen-is = ap (λ (y : Party). y.seen) (now (sees (party core p) (end_at h (place + 1))))

    -- a link that is set names a node of the chain
    set-within : link core.words node ≢ 0 → place + 1 ≤ length h
    set-within set = dite (dec_lt (place + 1) (length core.chain.nodes))
        (λ lt. let count = s.linked.count in omega arith)
        (λ ge. absurd (set (link-is ∙ get_or_past core.chain.nodes (place + 1) 0 (omega arith))))

    last-known : link core.words node ≡ 0 → (link-view.seen ≡ view.seen) × (length view.seen ≡ place)
    last-known free =
        let f = own core core.words views seat view s shows at in
        let last = laws.last core node place s here free in
        let short = front-within core s view.seen (party core p).seen f.seen in
        let kn = known.within in
        let c = f.seen.count in
        let e = end_at-last h (place + 1) (omega arith) in
        let x = seen-is in (
          one-front h link-view.seen view.seen (party core p).seen
              (subst (λ n. IsFront h link-view.seen n) (omega arith) link-front) f.seen,
          omega arith,
        )

    pub more-known : link core.words node ≢ 0 → Knows core.terms link-view (link core.words node) (place + 1)
        × (length link-view.seen ≡ max (length view.seen) (place + 1))
    more-known set =
        let f = own core core.words views seat view s shows at in
        let within = set-within set in
        let x = seen-is in
        let has : place + 1 ≤ length link-view.seen =
        front-reaches h link-view.seen (party linked p).seen (place + 1) link-front within (omega arith) in
        let one = end_at-place h (place + 1) within in
        let c = f.seen.count in let d = link-front.count in (
          record {
            within = has;
            is = link-is ∙ node-known core s link-view.seen (party linked p).seen (place + 1) link-front has;
          },
          omega arith,
        )

    pub loads-link : LoadsLink core.terms view node place (link core.words node) link-view
    loads-link =
        let f = own core core.words views seat view s shows at in
        let x = now (sees (party core p) (end_at h (place + 1))) in record {
          took = took laws (LoadLink node) core linked core.words views seat view (Value (link core.words node)) s are
              shows at takes-link;
          none = last-known;
          next = more-known;
          used = ap (λ (y : Party). y.used) x ∙ sym f.used;
          reached = ap (λ (y : Party). y.reached) x ∙ sym f.reached;
        }

  -- a word of a payload
  payload-is : (node place word : ℕ) → word < 4 → Knows core.terms view node place →
      payload core.words node word ≡ payload_in core.terms view.seen place word
  payload-is node zero word small known =
      ap (λ n. payload core.words n word) known.is ∙ s.filled.head word small
  payload-is node (suc k) word small known =
      let f = own core core.words views seat view s shows at in
      let short = front-within core s view.seen (party core p).seen f.seen in
      let within = known.within in
      let node-is = known-at core core.words views seat view s shows at node (suc k) known in
      let up : k + 1 ≡ suc k = omega arith in
      ap (λ n. payload core.words n word) (sym node-is.is ∙ ap (node_at core.chain) (sym up))
      ∙ (s.filled.entries k (omega arith)).payload word small
      ∙ ap (λ (e : Entry). slice_index (entry_words e) word)
      (sym (entry_at-front core.terms h view.seen (party core p).seen k f.seen (omega arith)))

  module _ (node place word : ℕ) (small : word < 4) (known : Knows core.terms view node place) where
    pub takes-payload : TakesStep core p (LoadPayload node word) (Value (payload core.words node word)) core
    takes-payload = record {
      party = inp;
      gives = (place, may-read laws core core.words views seat view s shows at node place known, small, refl, refl);
    }

    abbrev pub payload-view : PassView
    payload-view = view_after core view (LoadPayload node word) (Value (payload core.words node word))

    payload-seen : payload-view.seen ≡ view.seen
    payload-seen =
        one-front h payload-view.seen view.seen (party core p).seen
        (follows laws (LoadPayload node word) core core core.words views seat view
        (Value (payload core.words node word)) s shows at takes-payload).seen
        (own core core.words views seat view s shows at).seen

    pub loads-payload : LoadsPayload core.terms view node place word (payload core.words node word) payload-view
    loads-payload =
        let f = own core core.words views seat view s shows at in record {
          took = took laws (LoadPayload node word) core core core.words views seat view
              (Value (payload core.words node word)) s are shows at takes-payload;
          is = payload-is node place word small known;
          seen = payload-seen;
          used = sym f.used;
          reached = sym f.reached;
        }
