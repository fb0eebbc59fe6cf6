-- What the steps of a walk come to.
use Rattle.std.proofs.Common.{◌≡◌, ◌≢◌, ℕ, suc, ◌+◌, ◌-◌, ◌<◌, ◌≤◌, List, [], ◌∷◌, ◌++◌, length, take, slice_index, slice_get, Option, Some, None, sym, refl, ap, ◌∙◌, subst, arith, append_assoc, append-nil, length-append, All, true, false, ◌&&◌, eqb, eq-eqb, eqb-true}
use Rattle.std.proofs.lemmas.Bool.{false≢true, and_parts}
use Rattle.std.proofs.lemmas.List.Elements.{All-append, All-cons, All-nil}
use Rattle.std.proofs.lemmas.Option.{slice_get-get_or, get_or_from_slice_get}
use mathlib.Core.Logic.{dite}
use native.Mathlib.Decide.{ℕ_discrete}
use Rattle.cubit_base.specs.Key.{KeyValue}
use Rattle.cubit_base.specs.EntryWords.{entry_words}
use Rattle.cubit_base.specs.declared.delta.Delta.{Delta}
use Rattle.cubit_base.specs.declared.entry.Entry.{Entry}
use Rattle.log_core.specs.declared.step.Step.TheVariants.{LoadLink}
use Rattle.log_core.specs.declared.step.Seen.TheVariants.{Value}
use Rattle.log_core.specs.Terms.{CoreTerms}
use Rattle.log_core.specs.Chain.{entry_at, no_delta}
use Rattle.commit_log.specs.Log.{Terms, IsPlace, IsEntry, HasNone, IsLatest}
use Rattle.commit_log.specs.declared.front.Cursor.{Cursor}
use Rattle.shared_log.specs.Fronts.{node_in}
use Rattle.shared_log.specs.Steps.{Knows}
use Rattle.shared_log.specs.Told.{shared_terms, LoadsLink, LoadsPayload, payload_in}
use Rattle.shared_log.specs.Walks.{word_load, word_loads, ReadsWords, entry_loads, ReadsEntry, is_load, TakesLoads}
use Rattle.shared_log.specs.declared.views.TakenStep.{TakenStep}
use Rattle.shared_log.specs.declared.views.PassView.{PassView}
use Rattle.shared_log.proofs.Ends.{end_at-place}
use Rattle.shared_log.proofs.Known.{node_in-front}
use Rattle.shared_log.proofs.Looks.{knows-same}
use Rattle.shared_log.proofs.Prefixes.{front-take}
use Rattle.shared_log.proofs.Taking.{begins-same}

-- steps, and more steps after them
pub then-more : (t u w xs ys : List TakenStep) → u ≡ t ++ xs → w ≡ u ++ ys → w ≡ t ++ (xs ++ ys)
then-more t u w xs ys first second = second ∙ ap (λ z. z ++ ys) first ∙ append_assoc t xs ys

four-words : (e : Entry) (a b c d : ℕ) → a ≡ slice_index (entry_words e) 0 → b ≡ slice_index (entry_words e) 1 →
    c ≡ slice_index (entry_words e) 2 → d ≡ slice_index (entry_words e) 3 → (a ∷ b ∷ c ∷ d ∷ []) ≡ entry_words e
unfolding entry_words
four-words e a b c d p q r s = λ i. p i ∷ q i ∷ r i ∷ s i ∷ []

module _ (terms : CoreTerms) where
  word-is : (log : List Delta) (k w : ℕ) →
      payload_in terms log (k + 1) w ≡ slice_index (entry_words (entry_at terms log k)) w
  word-is log k w = let up : k + 1 ≡ suc k = omega arith in ap (λ n. payload_in terms log n w) up

  -- a loaded word is that of the entry that was seen before
  word-of : (log : List Delta) (v w : PassView) (n k i x : ℕ) → v.seen ≡ log →
      LoadsPayload terms v n (k + 1) i x w → x ≡ slice_index (entry_words (entry_at terms log k)) i
  word-of log v w n k i x e p =
      p.is ∙ word-is v.seen k i ∙ ap (λ (l : List Delta). slice_index (entry_words (entry_at terms l k)) i) e

  pub words-read : (u v w x y : PassView) (n k a b c d : ℕ) → LoadsPayload terms u n (k + 1) 0 a v →
      LoadsPayload terms v n (k + 1) 1 b w → LoadsPayload terms w n (k + 1) 2 c x →
      LoadsPayload terms x n (k + 1) 3 d y → ReadsWords terms u n k (a ∷ b ∷ c ∷ d ∷ []) y
  words-read u v w x y n k a b c d p q r s =
      let two = q.seen ∙ p.seen in let three = r.seen ∙ two in record {
        sees = record {
          seen = s.seen ∙ three;
          author = s.took.author ∙ r.took.author ∙ q.took.author ∙ p.took.author;
          used = s.used ∙ r.used ∙ q.used ∙ p.used;
          knows = s.took.knows;
        };
        words_are = four-words (entry_at terms u.seen k) a b c d (word-of u.seen u v n k 0 a refl p)
            (word-of u.seen v w n k 1 b p.seen q) (word-of u.seen w x n k 2 c two r)
            (word-of u.seen x y n k 3 d three s);
        steps = then-more u.trace x.trace y.trace _ _
            (then-more u.trace w.trace x.trace _ _ (then-more u.trace v.trace w.trace _ _ p.took.trace q.took.trace)
            r.took.trace)
            s.took.trace;
      }

  -- the cursor's node is that in its place
  pub place-known : (v : PassView) (cursor : Cursor) → IsPlace (shared_terms terms) v.seen cursor →
      Knows terms v cursor.node cursor.len
  place-known v cursor at =
      let front = front-take v.seen cursor.len at.within in
      let len : length (take cursor.len v.seen) ≡ cursor.len = front.count in record {
        within = at.within;
        is = at.node ∙ ap (node_in terms (take cursor.len v.seen)) len
            ∙ node_in-front terms v.seen (take cursor.len v.seen) cursor.len cursor.len front (omega arith);
      }

  known-place : (v : PassView) (cursor : Cursor) → Knows terms v cursor.node cursor.len →
      IsPlace (shared_terms terms) v.seen cursor
  known-place v cursor kn =
      let front = front-take v.seen cursor.len kn.within in
      let len : length (take cursor.len v.seen) ≡ cursor.len = front.count in record {
        within = kn.within;
        node = kn.is
            ∙ sym (ap (node_in terms (take cursor.len v.seen)) len
            ∙ node_in-front terms v.seen (take cursor.len v.seen) cursor.len cursor.len front (omega arith));
      }

  entry-is : (log : List Delta) (k : ℕ) → k < length log → IsEntry (shared_terms terms) log k (entry_at terms log k)
  entry-is log k lt = record {
    seq = end_at-place log (k + 1) (omega arith);
    delta = slice_get-get_or log k no_delta lt;
    rows = refl;
  }

  -- behind a place that is not the last one the link names the next node, and nothing more is seen
  pub linked-on : (v w : PassView) (n k m : ℕ) → k < length v.seen → LoadsLink terms v n k m w →
      Knows terms w m (k + 1) × (w.seen ≡ v.seen)
  linked-on v w n k m lt link =
      let is : m ≢ 0 = λ e. let o = (link.none e).1 in absurd (omega arith) in
      let next = link.next is in
      let long = next.1 in
      (next.0, begins-same v.seen w.seen link.took.begins (omega arith))

  pub entry-read : (v w x : PassView) (cursor : Cursor) (m : ℕ) (words : List ℕ) (entry : Entry) →
      cursor.len < length v.seen → LoadsLink terms v cursor.node cursor.len m w →
      ReadsWords terms w m cursor.len words x → entry ≡ entry_at terms w.seen cursor.len →
      ReadsEntry terms v cursor x (record { len = cursor.len + 1; node = m }) entry
  entry-read v w x cursor m words entry lt link read is =
      let on = linked-on v w cursor.node cursor.len m lt link in
      let next : Cursor = record { len = cursor.len + 1; node = m } in
      let told : words ≡ entry_words entry = read.words_are ∙ ap entry_words (sym is) in record {
        sees = record {
          seen = read.sees.seen ∙ on.1;
          author = read.sees.author ∙ link.took.author;
          used = read.sees.used ∙ link.used;
          knows = read.sees.knows;
        };
        is_entry = subst (IsEntry (shared_terms terms) v.seen cursor.len)
            (ap (λ (l : List Delta). entry_at terms l cursor.len) (sym on.1) ∙ sym is)
            (entry-is v.seen cursor.len lt);
        is_place = known-place v next (knows-same terms w v m (cursor.len + 1) (sym on.1) on.0);
        moved = refl;
        steps = then-more v.trace w.trace x.trace _ _ link.took.trace read.steps
            ∙ ap (λ (l : List ℕ). v.trace ++ record { step = LoadLink cursor.node; gave = Value m } ∷ word_loads m l)
            told;
      }

-- one more delta that has another key
none-past : (log : List Delta) (key : KeyValue) (from n : ℕ) (d : Delta) → slice_get log n ≡ Some d → d.key ≢ key →
    HasNone log key from n → HasNone log key from (n + 1)
none-past log key from n d is other before place e low high at =
    dite (ℕ_discrete place n)
    (λ here.
    let same : e ≡ d =
    sym (get_or_from_slice_get log n e d (subst (λ k. slice_get log k ≡ Some e) here at))
    ∙ get_or_from_slice_get log n d d is in
    λ k. other (ap (λ (x : Delta). x.key) (sym same) ∙ k))
    (λ ne. before place e low (omega arith) at)

pub latest-past : (terms : Terms) (log : List Delta) (key : KeyValue) (from n : ℕ) (entry : Entry)
    (latest : Option Entry) → IsEntry terms log n entry → entry.delta.key ≢ key → IsLatest terms log key from n latest →
    IsLatest terms log key from (n + 1) latest
latest-past terms log key from n entry None is other old = none-past log key from n entry.delta is.delta other old
latest-past terms log key from n entry (Some x) is other old =
    let high = old.before in record {
      after = old.after;
      before = omega arith;
      is_entry = old.is_entry;
      has_key = old.has_key;
      last = none-past log key x.seq n entry.delta is.delta other old.last;
    }

pub latest-here : (terms : Terms) (log : List Delta) (key : KeyValue) (from n : ℕ) (entry : Entry) →
    IsEntry terms log n entry → from ≤ n → entry.delta.key ≡ key → IsLatest terms log key from (n + 1) (Some entry)
latest-here terms log key from n entry is low has =
    let seq = is.seq in
    let at : n ≡ entry.seq - 1 = omega arith in
    record {
      after = omega arith;
      before = omega arith;
      is_entry = subst (λ k. IsEntry terms log k entry) at is;
      has_key = has;
      last = λ place d above below. absurd (omega arith);
    }

pub same-key : (a b : KeyValue) → true ≡ (eqb a.order b.order && eqb a.line b.line) → a ≡ b
same-key a b is =
    let parts = and_parts (eqb a.order b.order) (eqb a.line b.line) (sym is) in
    λ i. record { order = eqb-true a.order b.order parts.0 i; line = eqb-true a.line b.line parts.1 i }

pub other-key : (a b : KeyValue) → false ≡ (eqb a.order b.order && eqb a.line b.line) → a ≢ b
other-key a b differ e =
    let order : eqb a.order b.order ≡ true = eq-eqb a.order b.order (ap (λ (k : KeyValue). k.order) e) in
    let line : eqb a.line b.line ≡ true = eq-eqb a.line b.line (ap (λ (k : KeyValue). k.line) e) in
    false≢true (differ ∙ (λ i. order i && line i))

abbrev is-loading : TakenStep → Type 0
is-loading taken = is_load taken.step ≡ true

loads-only : (node next : ℕ) (entry : Entry) → All is-loading (entry_loads node next entry)
loads-only node next entry =
    let words = entry_words entry in
    let w : ℕ → TakenStep = word_load next words in
    All-cons is-loading (record { step = LoadLink node; gave = Value next }) (word_loads next words) refl
    (All-cons is-loading (w 0) (w 1 ∷ w 2 ∷ w 3 ∷ []) refl
    (All-cons is-loading (w 1) (w 2 ∷ w 3 ∷ []) refl
    (All-cons is-loading (w 2) (w 3 ∷ []) refl (All-cons is-loading (w 3) [] refl (All-nil is-loading)))))

-- no step, and the loads of one entry more
pub loads-none : (v : PassView) (n : ℕ) → TakesLoads v v n
loads-none v n = record { steps = []; trace = sym (append-nil v.trace); within = omega arith; only = All-nil is-loading }

pub loads-more : (u v w : PassView) (n m node next : ℕ) (entry : Entry) → TakesLoads u v n →
    w.trace ≡ v.trace ++ entry_loads node next entry → n + 5 ≤ m → TakesLoads u w m
loads-more u v w n m node next entry t more le =
    let five : length (entry_loads node next entry) ≡ 5 = refl in
    let few = t.within in
    record {
      steps = t.steps ++ entry_loads node next entry;
      trace = then-more u.trace v.trace w.trace t.steps (entry_loads node next entry) t.trace more;
      within = omega (arith, length-append t.steps (entry_loads node next entry));
      only = All-append is-loading t.steps (entry_loads node next entry) t.only (loads-only node next entry);
    }
