-- The help of a late tail, and a node appended.
use Rattle.std.proofs.Common.{◌≡◌, ◌≢◌, ℕ, ◌+◌, ◌<◌, ◌≤◌, ◌==◌, Bool, true, false, if◌then◌else◌, [], ◌∷◌, length, set, eq-eqb, ne_eqb, inl, sym, refl, ap, ◌∙◌, subst, arith, get_or-set_other, get_or-set_same, length-set}
use mathlib.Core.Logic.{dite}
use native.Mathlib.Decide.{ℕ_discrete}
use Rattle.std.proofs.lemmas.List.{get_or_append_left}
use Rattle.cubit_base.specs.declared.entry.Entry.{Entry}
use Rattle.log_core.specs.declared.party.Party.{Party}
use Rattle.log_core.specs.declared.step.Step.TheVariants.{SwapLink, SwapTail}
use Rattle.log_core.specs.declared.step.Seen.TheVariants.{Swapped}
use Rattle.log_core.specs.Chain.{tail, payload_place, link_place, payload, link, node_at, HasEntry, IsNodeAt, end_at}
use Rattle.log_core.specs.Core.{CoreValue, newcomer, party, IsSound}
use Rattle.log_core.specs.Steps.{MayLink, MayMoveTail, tail_end, reaches, links, linked, tail_moved, TakesStep}
use Rattle.log_core.specs.Run.{RunsAlone, helps, helped, appends}
use Rattle.log_core.proofs.Ends.{end_at-within, end_at-last, end_at-kept, end_at-appended, length-appended}
use Rattle.log_core.proofs.Nodes.{last-link, empty-last, place-before}
use Rattle.log_core.proofs.Bounds.{node-words}
use Rattle.log_core.proofs.Keeping.{keeps-sound}
use Rattle.log_core.proofs.Stored.{IsReady, same-ready}

-- a core that has the same chain, in which all is ready for the link
pub record CanAppend (x z : CoreValue) (p n : ℕ) (e : Entry) : Type 0 where
  pub nodes : z.chain.nodes ≡ x.chain.nodes
  pub history : z.chain.history ≡ x.chain.history
  pub inp : p < length z.parties
  pub ready : IsReady z p n e
  pub has : HasEntry z.words n e
  pub seen : length z.chain.history ≤ (party z p).seen
  pub reached : length z.chain.history ≤ (party z p).reached

-- a late tail is moved on
module _ (x : CoreValue) (s : IsSound x) (p n t : ℕ) (inp : p < length x.parties) (e : Entry) (ready : IsReady x p n e)
    (has : HasEntry x.words n e) (tail_is : tail x.words ≡ t) (seen : length x.chain.history ≤ (party x p).seen)
    (reached : tail_end x ≤ (party x p).reached) where
  abbrev place : ℕ
  place = x.chain.tail_place

  tail-at-place : IsNodeAt x.chain t place
  tail-at-place = record {
    within = let count = s.linked.count in let within = s.tail.within in omega arith;
    is = sym s.tail.is ∙ tail_is;
  }

  abbrev moved : ℕ → CoreValue
  moved m = tail_moved x p m place

  end-behind : end_at x.chain.history (place + 1) ≡ length x.chain.history
  end-behind = let late = s.tail.late in end_at-last x.chain.history (place + 1) (omega arith)

  may-help : (m : ℕ) → link x.words t ≡ m → m ≢ 0 → MayMoveTail x p t m place
  may-help m link_is some = record {
    at = tail-at-place;
    reached = reached;
    link = link_is;
    set = some;
    seen = omega (arith, seen, end-behind);
  }

  moved-party : (m : ℕ) → party (moved m) p ≡ reaches (party x p) (end_at x.chain.history (place + 1))
  moved-party m =
      get_or-set_same x.parties p (reaches (party x p) (end_at x.chain.history (place + 1))) newcomer inp

  moved-word : (m w : ℕ) → payload (moved m).words n w ≡ payload x.words n w
  moved-word m w = get_or-set_other x.words 0 (payload_place n w) m 0 (λ e. absurd (omega arith))

  moved-appends : (m : ℕ) → CanAppend x (moved m) p n e
  moved-appends m = record {
    nodes = refl;
    history = refl;
    inp = omega (arith, inp, length-set x.parties p (reaches (party x p) (end_at x.chain.history (place + 1))));
    ready = same-ready x p n e (set x.words 0 m) (place + 1) x.noted
        (reaches (party x p) (end_at x.chain.history (place + 1))) inp refl ready;
    has = record { fits = has.fits; payload = λ w small. moved-word m w ∙ has.payload w small };
    seen = omega (arith, seen, ap (λ (q : Party). q.seen) (moved-party m));
    reached = omega (arith, end-behind, ap (λ (q : Party). q.reached) (moved-party m));
  }

  whole-appends : link x.words t ≡ 0 → CanAppend x x p n e
  whole-appends none =
      let last = empty-last x.terms x.words x.chain s.linked s.filled t place tail-at-place none in
      let end = end_at-last x.chain.history place (omega arith) in
      record {
        nodes = refl;
        history = refl;
        inp = inp;
        ready = ready;
        has = has;
        seen = seen;
        reached = omega (arith, reached);
      }

  -- by whether the tail has a link
  helps-by : (m : ℕ) (z : CoreValue) (b : Bool) → (m == 0) ≡ b →
      RunsAlone x p (if b then [] else SwapTail t m ∷ []) (if b then [] else Swapped true ∷ []) z →
      RunsAlone x p (helps t m) (helped m) z
  helps-by m z b is r = subst
      (λ (b : Bool). RunsAlone x p (if b then [] else SwapTail t m ∷ []) (if b then [] else Swapped true ∷ []) z)
      (sym is) r

  pub runs-help : (m : ℕ) → link x.words t ≡ m →
      (z : CoreValue) × RunsAlone x p (helps t m) (helped m) z × CanAppend x z p n e
  runs-help m link_is = dite (ℕ_discrete m 0)
      (λ none. (x, helps-by m x true (eq-eqb m 0 none) refl, whole-appends (link_is ∙ none)))
      (λ some. (
        moved m,
        helps-by m (moved m) false (ne_eqb m 0 some) (
          moved m,
          record { party = inp; gives = (place, may-help m link_is some, inl (tail_is, refl, refl)) },
          refl,
        ),
        moved-appends m,
      ))

-- where the party has seen all, and the tail at the last node, its stored node can be appended
module _ (x : CoreValue) (s : IsSound x) (p n : ℕ) (inp : p < length x.parties) (e : Entry) (ready : IsReady x p n e)
    (has : HasEntry x.words n e) (seen : length x.chain.history ≤ (party x p).seen)
    (reached : length x.chain.history ≤ (party x p).reached) where
  abbrev last : ℕ
  last = node_at x.chain (length x.chain.history)

  abbrev k : ℕ
  k = length x.chain.history

  at : IsNodeAt x.chain last k
  at = record { within = let count = s.linked.count in omega arith; is = refl }

  free : link x.words last ≡ 0
  free = last-link x.terms x.words x.chain s.linked s.filled

  may-link : MayLink x p last n k
  may-link =
      let within = end_at-within x.chain.history k in let room = ready.room in record {
        read = record { at = at; seen = omega (arith, seen) };
        reached = omega (arith, reached);
        room = omega arith;
        next = ready.next;
      }

  abbrev pub longer : CoreValue
  longer = linked x p last n k e.delta

  first : TakesStep x p (SwapLink last n) (Swapped true) longer
  first = record { party = inp; gives = (k, e, may-link, has, ready.may, inl (free, refl, refl)) }

  sound-longer : IsSound longer
  sound-longer = keeps-sound x longer p (SwapLink last n) (Swapped true) s first

  longer-party : party longer p ≡ links (party x p) (end_at x.chain.history k)
  longer-party = get_or-set_same x.parties p (links (party x p) (end_at x.chain.history k)) newcomer inp

  may-move : MayMoveTail longer p last n k
  may-move =
      let within = end_at-within x.chain.history k in record {
        at = record {
          within = let a = sound-longer.linked.count in let b = length-appended x.chain.history e.delta in omega arith;
          is = get_or_append_left x.chain.nodes (n ∷ []) 0 k at.within;
        };
        reached = omega (
          arith,
          ap (λ (q : Party). q.reached) longer-party,
          end_at-kept x.chain.history e.delta k (omega arith),
          reached,
        );
        link = get_or-set_same x.words (link_place last) n 0 (node-words x last k s at);
        set = λ zero. let is = ready.next.is in absurd (omega arith);
        seen = omega (
          arith,
          ap (λ (q : Party). q.seen) longer-party,
          end_at-appended x.chain.history e.delta,
        );
      }

  -- the tail stands at the last node
  tail-last : x.chain.tail_place ≡ k
  tail-last =
      let q = s.parties p inp in
      let most = q.reached in
      let end = end_at-last x.chain.history k (omega arith) in
      let le = place-before x.chain.history k x.chain.tail_place (omega arith) (omega (arith, reached)) in
      let within = s.tail.within in
      omega arith

  tail-is : tail longer.words ≡ last
  tail-is =
      get_or-set_other x.words (link_place last) 0 n 0 (λ e. absurd (omega arith)) ∙ s.tail.is
      ∙ ap (node_at x.chain) tail-last

  abbrev pub appended : CoreValue
  appended = tail_moved longer p n k

  second : TakesStep longer p (SwapTail last n) (Swapped true) appended
  second = record {
    party = omega (arith, inp, length-set x.parties p (links (party x p) (end_at x.chain.history k)));
    gives = (k, may-move, inl (tail-is, refl, refl));
  }

  pub runs-appends : RunsAlone x p (appends last n) (Swapped true ∷ Swapped true ∷ []) appended
  runs-appends = (longer, first, (appended, second, refl))

  pub appended-tail : tail appended.words ≡ n
  appended-tail =
      let a = sound-longer.word_count in get_or-set_same longer.words 0 n 0 (omega arith)
