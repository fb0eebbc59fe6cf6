-- A store and a move of the tail leave a sound core.
use Rattle.std.proofs.Common.{◌≡◌, ◌≢◌, ℕ, ◌+◌, ◌*◌, ◌<◌, ◌≤◌, List, length, set, sym, ap, ◌∙◌, subst, arith, get_or-set_other, get_or-set_same, length-set}
use mathlib.Core.Logic.{dite}
use native.Mathlib.Decide.{ℕ_discrete}
use Rattle.log_core.specs.declared.party.Party.{Party}
use Rattle.log_core.specs.Chain.{Chain, tail, payload_place, payload, link, node_at, IsInChain, end_at}
use Rattle.log_core.specs.Core.{CoreValue, newcomer, party, IsSoundParty, IsSound}
use Rattle.log_core.specs.Steps.{IsNextNode, MayStore, MayMoveTail, reaches, tail_moved, reaches_next}
use Rattle.log_core.proofs.Ends.{end_at-rising}
use Rattle.log_core.proofs.Nodes.{one-place, place-before, full-inner, unused-outside}
use Rattle.log_core.proofs.Looks.{each-set, keeps-shares, sound-reaches, keeps-reaches_next}

-- a party's next node is not in the chain
pub next-outside : (c : CoreValue) → IsSound c → (p node : ℕ) → p < length c.parties → IsNextNode c p node →
    IsInChain c.chain node → ⊥
next-outside c s p node inp next within =
    let count = s.party_count in
    let x = s.parties p inp in
    let used = x.used in
    unused-outside c.terms c.words c.chain s.linked s.filled p (party c p).used (omega arith) (omega arith) next.share
    (keeps-shares c s) (subst (IsInChain c.chain) next.is within)

module _ (c : CoreValue) (s : IsSound c) (p node word value : ℕ) (inp : p < length c.parties)
    (may : MayStore c p node) (small : word < 4) where
  abbrev stored : List ℕ
  stored = set c.words (payload_place node word) value

  same-link : (n : ℕ) → link stored n ≡ link c.words n
  same-link n = get_or-set_other c.words (payload_place node word) (5 * n + 5) value 0 (λ e. absurd (omega arith))

  same-payload : (n w : ℕ) → w < 4 → n ≢ node → payload stored n w ≡ payload c.words n w
  same-payload n w lt other =
      get_or-set_other c.words (payload_place node word) (payload_place n w) value 0 (λ e. other (omega arith))

  pub keeps-store : IsSound (record c { words = stored })
  keeps-store = record {
    word_count = length-set c.words (payload_place node word) value ∙ s.word_count;
    linked = let l = s.linked in record {
      count = l.count;
      head = l.head;
      next = λ k lt. same-link (node_at c.chain k) ∙ l.next k lt;
      apart = l.apart;
      others = λ n lt out. same-link n ∙ l.others n lt out;
    };
    filled = let f = s.filled in record {
      head = λ w lt. same-payload 0 w lt (λ e. let is = may.is in absurd (omega arith)) ∙ f.head w lt;
      entries = λ k lt.
          let count = s.linked.count in
          let outside = next-outside c s p node inp may in
          let old = f.entries k lt in
          record {
            fits = old.fits;
            payload = λ w small.
                same-payload (node_at c.chain (k + 1)) w small
                (λ e. outside (k + 1, record { within = omega arith; is = e }))
                ∙ old.payload w small;
          };
      authors = f.authors;
      nodes = f.nodes;
    };
    tail = record {
      is = get_or-set_other c.words (payload_place node word) 0 value 0 (λ e. absurd (omega arith)) ∙ s.tail.is;
      within = s.tail.within;
      late = s.tail.late;
    };
    lawful = s.lawful;
    within = s.within;
    party_count = s.party_count;
    parties = s.parties;
    noted = s.noted;
  }

module _ (c : CoreValue) (s : IsSound c) (p from to place : ℕ) (inp : p < length c.parties)
    (may : MayMoveTail c p from to place) where
  pub inner : place < length c.chain.history
  inner =
      full-inner c.terms c.words c.chain s.linked s.filled from place may.at (λ e. may.set (sym may.link ∙ e))

  by-tail : place ≤ c.chain.tail_place
  by-tail =
      let lt = inner in let x = s.parties p inp in let reached = x.reached in let least = may.reached in
      place-before c.chain.history place c.chain.tail_place (omega arith) (omega arith)

  next-node : node_at c.chain (place + 1) ≡ to
  next-node =
      sym (subst (λ z. link c.words z ≡ node_at c.chain (place + 1)) may.at.is (s.linked.next place may.at.within))
      ∙ may.link

  abbrev moved : Chain
  moved = record { nodes = c.chain.nodes; history = c.chain.history; tail_place = place + 1 }

  sound-moved : c.chain.tail_place ≡ place → (q : ℕ) (x : Party) → IsSoundParty c.terms c.chain q x →
      IsSoundParty c.terms moved q x
  sound-moved here q x sound = record {
    seen = sound.seen;
    reached =
        let a = sound.reached in
        let b = end_at-rising c.chain.history c.chain.tail_place (place + 1) (omega arith) in
        omega arith;
    used = sound.used;
    share = sound.share;
    own = sound.own;
    low = sound.low;
    last =
        let l = sound.last in
        (l.0, record { within = l.1.within; is = l.1.is }, l.2);
  }

  no-link : (n : ℕ) → link (set c.words 0 to) n ≡ link c.words n
  no-link n = get_or-set_other c.words 0 (5 * n + 5) to 0 (λ e. absurd (omega arith))

  no-payload : (n w : ℕ) → payload (set c.words 0 to) n w ≡ payload c.words n w
  no-payload n w = get_or-set_other c.words 0 (5 * n + w + 1) to 0 (λ e. absurd (omega arith))

  pub keeps-tail_moved : tail c.words ≡ from → IsSound (tail_moved c p to place)
  keeps-tail_moved hit =
      let count = s.linked.count in
      let t = s.tail.within in
      let here : c.chain.tail_place ≡ place =
      one-place c.terms c.words c.chain s.linked s.filled from c.chain.tail_place place
      (record { within = omega arith; is = sym s.tail.is ∙ hit }) may.at in
      let end = end_at c.chain.history (place + 1) in record {
        word_count = length-set c.words 0 to ∙ s.word_count;
        linked = let l = s.linked in record {
          count = l.count;
          head = l.head;
          next = λ k lt. no-link (node_at c.chain k) ∙ l.next k lt;
          apart = l.apart;
          others = λ n lt out.
              no-link n ∙ l.others n lt (λ w. out (w.0, record { within = w.1.within; is = w.1.is }));
        };
        filled = let f = s.filled in record {
          head = λ w lt. no-payload 0 w ∙ f.head w lt;
          entries = λ k lt.
              let old = f.entries k lt in
              record { fits = old.fits; payload = λ w lt. no-payload (node_at c.chain (k + 1)) w ∙ old.payload w lt };
          authors = f.authors;
          nodes = f.nodes;
        };
        tail = record {
          is = get_or-set_same c.words 0 to 0 (let a = s.word_count in omega arith) ∙ sym next-node;
          within = let lt = inner in omega arith;
          late = let late = s.tail.late in omega arith;
        };
        lawful = s.lawful;
        within = s.within;
        party_count = length-set c.parties p (reaches (party c p) end) ∙ s.party_count;
        parties = each-set (IsSoundParty c.terms moved) c.parties p (reaches (party c p) end) newcomer
            (sound-reaches c.terms moved p (party c p) end (sound-moved here p (party c p) (s.parties p inp))
            (omega arith))
            (λ q lt. sound-moved here q (party c q) (s.parties q lt));
        noted = s.noted;
      }

  pub keeps-tail_missed : tail c.words ≢ from → IsSound (reaches_next c p place)
  keeps-tail_missed miss = keeps-reaches_next c p place s inp
      (end_at-rising c.chain.history (place + 1) c.chain.tail_place
      (dite (ℕ_discrete place c.chain.tail_place)
      (λ e. absurd (miss (s.tail.is ∙ ap (node_at c.chain) (sym e) ∙ may.at.is)))
      (λ ne. let le = by-tail in omega arith)))
