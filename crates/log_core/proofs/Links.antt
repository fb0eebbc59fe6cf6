-- A node linked behind the last one leaves a sound core.
use Rattle.std.proofs.Common.{◌≡◌, ◌≢◌, ℕ, ◌+◌, ◌*◌, ◌<◌, ◌≤◌, max, Bool, cond, List, [], ◌∷◌, ◌++◌, length, get_or, set, take, eqb, sym, refl, ap, ◌∙◌, subst, arith, length-append, eq-eqb, ne_eqb, get_or-set_other, get_or-set_same, length-set}
use mathlib.Core.Logic.{dite}
use native.Mathlib.Decide.{ℕ_discrete, dec_lt}
use Rattle.std.specs.List.{count_by}
use Rattle.std.proofs.lemmas.List.{get_or_append_left, get_or_at, get_or_past, take-append-le, take_all}
use Rattle.std.proofs.lemmas.List.Sums.{sum_by_push}
use Rattle.cubit_base.specs.Table.{Row}
use Rattle.cubit_base.specs.Delta.{applied, IsLawful}
use Rattle.cubit_base.specs.History.{after, rows_after, IsHistory}
use Rattle.cubit_base.specs.declared.delta.Delta.{Delta}
use Rattle.cubit_base.specs.declared.entry.Entry.{Entry}
use Rattle.log_core.specs.declared.party.Party.{Party}
use Rattle.log_core.specs.Terms.{CoreTerms, share, first_node, node_count}
use Rattle.log_core.specs.Chain.{Chain, tail, payload_place, link_place, payload, link, node_at, HasEntry, IsNodeAt, IsInChain, delta_at, end_at, entry_at, is_by, IsLinked, IsFilled}
use Rattle.log_core.specs.Core.{CoreValue, newcomer, party, IsSoundParty, IsSound}
use Rattle.log_core.specs.Steps.{MayLink, MayComeNext, links, linked}
use Rattle.log_core.proofs.Ends.{end_at-within, end_at-greater, end_at-last, end_at-kept, end_at-grows, end_at-appended, length-appended, delta_at-kept, delta_at-appended}
use Rattle.log_core.proofs.Nodes.{empty-last, node-inside, node-small}
use Rattle.log_core.proofs.Linking.{each-place, history-appended, payload-link, other-link, own-link, tail-link}
use Rattle.log_core.proofs.Looks.{keeps-shares}
use Rattle.log_core.proofs.Stores.{next-outside}

module _ (c : CoreValue) (s : IsSound c) (p n to k : ℕ) (e : Entry) (inp : p < length c.parties)
    (m : MayLink c p n to k) (has : HasEntry c.words to e) (o : MayComeNext c p k e) (free : link c.words n ≡ 0) where
  abbrev d : Delta
  d = e.delta

  abbrev t : CoreTerms
  t = c.terms

  abbrev ch : Chain
  ch = c.chain

  abbrev h : List Delta
  h = c.chain.history

  abbrev h' : List Delta
  h' = c.chain.history ++ d ∷ []

  abbrev ch' : Chain
  ch' = record { nodes = ch.nodes ++ to ∷ []; history = h'; tail_place = ch.tail_place }

  abbrev ws' : List ℕ
  ws' = set c.words (link_place n) to

  last : k ≡ length h
  last = empty-last t c.words ch s.linked s.filled n k m.read.at free

  node-count : length ch.nodes ≡ length h + 1
  node-count = s.linked.count

  node-count' : length ch'.nodes ≡ length ch.nodes + 1
  node-count' = length-append ch.nodes (to ∷ [])

  last-node : node_at ch (length h) ≡ n
  last-node = ap (node_at ch) (sym last) ∙ m.read.at.is

  own : p < length t.shares
  own = let a = s.party_count in omega arith

  within-words : 5 * n + 5 < length c.words
  within-words =
      let a = s.word_count in
      let b = node-small t c.words ch s.linked s.filled (keeps-shares c s) k m.read.at.within in
      let is = m.read.at.is in
      omega arith

  -- the tail stands at the last node
  tail-last : ch.tail_place ≡ length h
  tail-last =
      let a = s.tail.within in
      dite (dec_lt ch.tail_place (length h))
      (λ lt.
      let x = s.parties p inp in
      let most = x.reached in
      let least = m.reached in
      let more = end_at-greater h ch.tail_place (length h) lt lt in
      let e : end_at h k ≡ end_at h (length h) = ap (end_at h) last in
      absurd (omega arith))
      (λ ge. omega arith)

  outside : IsInChain ch to → ⊥
  outside = next-outside c s p to inp m.next

  empty-to : link c.words to ≡ 0
  empty-to = s.linked.others to
      (let is = m.next.is in let a = node-inside t p (party c p).used own m.next.share in omega arith) outside

  to-other : to ≢ n
  to-other e = outside (k, record { within = m.read.at.within; is = m.read.at.is ∙ sym e })

  old-node : (i : ℕ) → i < length ch.nodes → node_at ch' i ≡ node_at ch i
  old-node i lt = get_or_append_left ch.nodes (to ∷ []) 0 i lt

  new-node : node_at ch' (length h + 1) ≡ to
  new-node = ap (node_at ch') (sym node-count) ∙ get_or_at ch.nodes to [] 0 (length ch.nodes) refl

  old-at : (x i : ℕ) → IsNodeAt ch x i → IsNodeAt ch' x i
  old-at x i at = record {
    within = let a = at.within in let b = node-count' in omega arith;
    is = old-node i at.within ∙ at.is;
  }

  next' : (i : ℕ) → i < length ch'.nodes → link ws' (node_at ch' i) ≡ node_at ch' (i + 1)
  next' i lt =
      let P = λ (j : ℕ). link ws' (node_at ch' j) ≡ node_at ch' (j + 1) in
      each-place P (length h + 1) i (omega (arith, node-count, node-count'))
      (λ below. each-place P (length h) i below
      (λ inner.
      ap (link ws') (old-node i (omega (arith, node-count)))
      ∙ other-link c.words n to (node_at ch i)
      (λ e. s.linked.apart i (length h) inner (omega (arith, node-count)) (e ∙ sym last-node))
      ∙ s.linked.next i (omega (arith, node-count)) ∙ sym (old-node (i + 1) (omega (arith, node-count))))
      (ap (link ws') (old-node (length h) (omega (arith, node-count)) ∙ last-node)
      ∙ own-link c.words n to within-words ∙ sym new-node))
      (ap (link ws') new-node ∙ other-link c.words n to to to-other ∙ empty-to
      ∙ sym (get_or_past ch'.nodes (length h + 1 + 1) 0 (omega (arith, node-count, node-count'))))

  apart' : (i j : ℕ) → i < j → j < length ch'.nodes → node_at ch' i ≢ node_at ch' j
  apart' i j lt within e = dite (dec_lt j (length ch.nodes))
      (λ below. s.linked.apart i j lt below (sym (old-node i (omega arith)) ∙ e ∙ old-node j below))
      (λ ge.
      let is : j ≡ length h + 1 = omega (arith, node-count, node-count') in
      outside (
        i,
        record {
          within = omega (arith, node-count');
          is = sym (old-node i (omega (arith, node-count'))) ∙ e ∙ ap (node_at ch') is ∙ new-node;
        },
      ))

  others' : (x : ℕ) → x < node_count t → (IsInChain ch' x → ⊥) → link ws' x ≡ 0
  others' x lt out =
      other-link c.words n to x (λ e. out (k, subst (λ z. IsNodeAt ch' z k) (sym e) (old-at n k m.read.at)))
      ∙ s.linked.others x lt (λ w. out (w.0, old-at x w.0 w.1))

  linked' : IsLinked t ws' ch'
  linked' = record {
    count = omega (arith, node-count, node-count', length-appended h d);
    head = old-node 0 (omega (arith, node-count)) ∙ s.linked.head;
    next = next';
    apart = apart';
    others = others';
  }

  -- the entries, after one was appended
  old-entry : (i : ℕ) → i < length h → entry_at t h i ≡ entry_at t h' i
  old-entry i lt = λ j. record {
    seq = sym (end_at-kept h d (i + 1) (omega arith)) j;
    rows = rows_after t.base (sym (take-append-le (i + 1) h (d ∷ []) (omega arith)) j);
    delta = sym (delta_at-kept h d i lt) j;
  }

  whole : take k h ++ d ∷ [] ≡ take (length h + 1) h'
  whole =
      ap (λ (x : List Delta). x ++ d ∷ []) (take_all k h (omega (arith, last)))
      ∙ sym (take_all (length h + 1) h' (omega (arith, length-appended h d)))

  new-seq : end_at h k + 1 ≡ end_at h' (length h + 1)
  new-seq = ap (λ z. end_at h z + 1) last ∙ sym (end_at-appended h d)

  new-entry : e ≡ entry_at t h' (length h)
  new-entry = λ j. record {
    seq = (o.seq ∙ new-seq) j;
    rows = (o.rows ∙ ap (rows_after t.base) whole) j;
    delta = sym (delta_at-appended h d) j;
  }

  has-entry : (x y : ℕ) (u v : Entry) → y ≡ x → u ≡ v → HasEntry c.words x u → HasEntry ws' y v
  has-entry x y u v same is old = subst (λ z. HasEntry ws' z v) (sym same) (subst (HasEntry ws' x) is record {
    fits = old.fits;
    payload = λ w small. payload-link c.words n to x w small ∙ old.payload w small;
  })

  entries' : (i : ℕ) → i < length h' → HasEntry ws' (node_at ch' (i + 1)) (entry_at t h' i)
  entries' i lt =
      each-place (λ j. HasEntry ws' (node_at ch' (j + 1)) (entry_at t h' j)) (length h) i
      (omega (arith, length-appended h d))
      (λ below. has-entry (node_at ch (i + 1)) (node_at ch' (i + 1)) (entry_at t h i) (entry_at t h' i)
      (old-node (i + 1) (omega (arith, node-count))) (old-entry i below) (s.filled.entries i below))
      (has-entry to (node_at ch' (length h + 1)) e (entry_at t h' (length h)) new-node new-entry has)

  each-delta : (P : ℕ → Delta → Type 0) → ((i : ℕ) → i < length h → P i (delta_at h i)) → P (length h) d →
      (i : ℕ) → i < length h' → P i (delta_at h' i)
  each-delta P old new i lt =
      each-place (λ j. P j (delta_at h' j)) (length h) i (omega (arith, length-appended h d))
      (λ below. subst (P i) (sym (delta_at-kept h d i below)) (old i below))
      (subst (P (length h)) (sym (delta_at-appended h d)) new)

  nodes' : (i : ℕ) → i < length h' → node_at ch' (i + 1)
      ≡ first_node t (delta_at h' i).author + count_by (is_by (delta_at h' i).author) (take i h')
  nodes' = each-delta
      (λ i x. node_at ch' (i + 1) ≡ first_node t x.author + count_by (is_by x.author) (take i h'))
      (λ i lt. old-node (i + 1) (omega (arith, node-count)) ∙ s.filled.nodes i lt
      ∙ ap (λ (x : List Delta). first_node t (delta_at h i).author + count_by (is_by (delta_at h i).author) x)
      (sym (take-append-le i h (d ∷ []) (omega arith))))
      (new-node ∙ m.next.is
      ∙ ap (λ z. first_node t p + z)
      ((s.parties p inp).used
      ∙ ap (count_by (is_by p))
      (sym (take-append-le (length h) h (d ∷ []) (omega arith) ∙ take_all (length h) h (omega arith))))
      ∙ ap (λ z. first_node t z + count_by (is_by z) (take (length h) h')) (sym o.author))

  filled' : IsFilled t ws' ch'
  filled' = record {
    head = λ w small. payload-link c.words n to 0 w small ∙ s.filled.head w small;
    entries = entries';
    authors = each-delta (λ i x. x.author < length t.shares) s.filled.authors
        (let a = o.author in omega (arith, own));
    nodes = nodes';
  }

  -- a party after the entry, whoever's it is
  sound-grown : (q : ℕ) (x : Party) → IsSoundParty t ch q x → (seen used : ℕ) → seen ≤ length h + 1 →
      x.seen ≤ seen → used ≡ x.used + cond (eqb p q) 1 0 → used ≤ share t q → (p ≡ q → length h + 1 ≤ seen) →
      IsSoundParty t ch' q record { seen = seen; reached = x.reached; low = x.low; last = x.last; used = used }
  sound-grown q x f seen used most least counted spare by = record {
    seen = omega (arith, length-appended h d);
    reached = let a = f.reached in let b = end_at-grows h d ch.tail_place in omega arith;
    used =
        counted ∙ ap (λ z. z + cond (eqb p q) 1 0) f.used
        ∙ sym (sum_by_push (λ (e : Delta). cond (is_by q e) 1 0) h d
        ∙ ap (λ z. count_by (is_by q) h + cond (eqb z q) 1 0) o.author);
    share = spare;
    own = each-delta (λ i e. e.author ≡ q → end_at h' (i + 1) ≤ seen)
        (λ i lt is. let a = f.own i lt is in let b = end_at-kept h d (i + 1) (omega arith) in omega arith)
        (λ is.
        let a = by (sym o.author ∙ is) in
        let b = end_at-within h' (length h + 1) in
        omega (arith, length-appended h d));
    low = let a = f.low in omega (arith, length-appended h d);
    last = (
      f.last.0,
      old-at x.last f.last.0 f.last.1,
      let a = f.last.2 in let b = end_at-grows h d (f.last.0 + 1) in omega arith,
    );
  }

  end-all : end_at h k ≡ length h
  end-all = ap (end_at h) last ∙ end_at-last h (length h) (omega arith)

  abbrev linker : Party
  linker = links (party c p) (end_at h k)

  sound-linker : IsSoundParty t ch' p linker
  sound-linker =
      let f = s.parties p inp in let a = f.seen in let b = m.next.share in
      sound-grown p (party c p) f (max (party c p).seen (end_at h k + 1)) ((party c p).used + 1)
      (omega (arith, end-all)) (omega arith) (ap (λ z. (party c p).used + cond z 1 0) (sym (eq-eqb p p refl)))
      (omega arith) (λ _. omega (arith, end-all))

  sound-other : (q : ℕ) → q < length c.parties → q ≢ p → IsSoundParty t ch' q (party c q)
  sound-other q lt ne =
      let f = s.parties q lt in let a = f.seen in let b = f.share in
      sound-grown q (party c q) f (party c q).seen (party c q).used (omega arith) (omega arith)
      (omega (arith, ap (λ (z : Bool). let r : ℕ = cond z 1 0 in r) (ne_eqb p q (λ e. ne (sym e))))) b
      (λ e. absurd (ne (sym e)))

  sound-each : (q : ℕ) → q < length (set c.parties p linker) →
      IsSoundParty t ch' q (get_or (set c.parties p linker) q newcomer)
  sound-each q lt = dite (ℕ_discrete q p)
      (λ e. subst (λ z. IsSoundParty t ch' z (get_or (set c.parties p linker) z newcomer)) (sym e)
      (subst (IsSoundParty t ch' p) (sym (get_or-set_same c.parties p linker newcomer inp)) sound-linker))
      (λ ne. subst (IsSoundParty t ch' q) (sym (get_or-set_other c.parties p q linker newcomer ne))
      (sound-other q (omega (arith, length-set c.parties p linker)) ne))

  pub keeps-linked : IsSound (linked c p n to k d)
  keeps-linked = record {
    word_count = length-set c.words (link_place n) to ∙ s.word_count;
    linked = linked';
    filled = filled';
    tail = record {
      is = tail-link c.words n to ∙ s.tail.is
          ∙ sym (old-node ch.tail_place (omega (arith, node-count, tail-last)));
      within = omega (arith, tail-last, length-appended h d);
      late = omega (arith, tail-last, length-appended h d);
    };
    lawful = history-appended t.limits.row_limit t.base h d s.lawful
        (subst (λ (x : List Delta). IsLawful t.limits.row_limit (after t.base x) d)
        (take_all k h (omega (arith, last))) o.lawful);
    within = let a = m.room in omega (arith, length-appended h d, end-all);
    party_count = length-set c.parties p linker ∙ s.party_count;
    parties = sound-each;
    noted = let a = s.noted in omega (arith, length-appended h d);
  }
