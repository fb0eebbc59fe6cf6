-- What the three steps of a front come to.
use Rattle.std.proofs.Common.{◌≡◌, ◌≢◌, ℕ, zero, suc, ◌+◌, ◌<◌, ◌≤◌, cond, List, [], ◌∷◌, ◌++◌, length, take, sym, refl, ap, ◌∙◌, subst, arith, append_assoc, eq-eqb, ne_eqb}
use Rattle.std.specs.Prelude.{slice_index}
use Rattle.std.proofs.lemmas.List.{take_all}
use mathlib.Core.Logic.{dite}
use native.Mathlib.Decide.{ℕ_discrete}
use Rattle.cubit_base.specs.EntryWords.{FitsWords, entry_words}
use Rattle.cubit_base.specs.History.{rows_after}
use Rattle.cubit_base.specs.declared.delta.Delta.{Delta}
use Rattle.cubit_base.specs.declared.entry.Entry.{Entry}
use Rattle.log_core.specs.declared.step.Step.TheVariants.{LoadTail, LoadLink, LoadPayload}
use Rattle.log_core.specs.declared.step.Seen.TheVariants.{Value}
use Rattle.log_core.specs.Terms.{CoreTerms, node_count}
use Rattle.log_core.specs.Chain.{entry_at}
use Rattle.log_core.specs.Growing.{behind}
use Rattle.commit_log.specs.Log.{IsWhole}
use Rattle.commit_log.specs.Handle.{Begins}
use Rattle.shared_log.specs.Fronts.{node_in}
use Rattle.shared_log.specs.Steps.{Knows}
use Rattle.shared_log.specs.Told.{shared_terms, KnowsLog, LoadsTail, LoadsLink, LoadsPayload, payload_in}
use Rattle.shared_log.specs.Calls.{TakesFront}
use Rattle.commit_log.specs.declared.front.Front.{Front}
use Rattle.shared_log.specs.declared.views.PassView.{PassView}
use Rattle.shared_log.proofs.Ends.{end_at-last}

pub begins-on : (f g h : List Delta) → Begins f g → Begins g h → Begins f h
begins-on f g h a b = (
  a.0 ++ b.0,
  b.1 ∙ ap (λ (x : List Delta). x ++ b.0) a.1 ∙ append_assoc f a.0 b.0,
)

pub knows-same : (terms : CoreTerms) (v w : PassView) (n k : ℕ) → w.seen ≡ v.seen → Knows terms v n k →
    Knows terms w n k
knows-same terms v w n k e kn = record {
  within = subst (λ (y : List Delta). k ≤ length y) (sym e) kn.within;
  is = subst (λ (y : List Delta). n ≡ node_in terms y k) (sym e) kn.is;
}

pub known-inside : (terms : CoreTerms) (v : PassView) (n k : ℕ) → KnowsLog terms v → Knows terms v n k →
    n < node_count terms
known-inside terms v n k knows kn = let is = kn.is in let a = knows.inside k kn.within in omega arith

-- only the head is node 0
pub node-positive : (terms : CoreTerms) (h : List Delta) (k : ℕ) → 0 < node_in terms h (suc k)
node-positive terms h k = omega arith

module _ (terms : CoreTerms) (v w x : PassView) (t m : ℕ) (a : LoadsTail terms v t w)
    (b : LoadsLink terms w t a.place m x) where
  -- the node behind the tail is the last that is seen
  pub last-known : Knows terms x (behind t m) (length x.seen)
  last-known = dite (ℕ_discrete m 0)
      (λ e.
      let o = b.none e in
      let whole : a.place ≡ length x.seen = sym o.1 ∙ ap (λ (z : List Delta). length z) (sym o.0) in
      let is : t ≡ behind t m = sym (ap (λ z. cond z t m) (eq-eqb m 0 e)) in
      subst (λ (y : ℕ × ℕ). Knows terms x y.0 y.1) (λ i. (is i, whole i)) (knows-same terms w x t a.place o.0 a.known))
      (λ ne.
      let o = b.next ne in
      let late = a.late in
      let whole : a.place + 1 ≡ length x.seen = omega arith in
      let is : m ≡ behind t m = sym (ap (λ z. cond z t m) (ne_eqb m 0 ne)) in
      subst (λ (y : ℕ × ℕ). Knows terms x y.0 y.1) (λ i. (is i, whole i)) o.0)

-- the front that the last node tells is that of all that is seen
front-whole : (terms : CoreTerms) (y : PassView) (node counts base_rows : ℕ) (front : Front) → KnowsLog terms y →
    Knows terms y node (length y.seen) → counts ≡ payload_in terms y.seen (length y.seen) 1 →
    base_rows ≡ length terms.base → (node ≡ 0 → front ≡ record { len = 0; rows = base_rows; node = 0 }) →
    ((e : Entry) → node ≢ 0 → FitsWords e → counts ≡ slice_index (entry_words e) 1 →
    front ≡ record { len = e.seq; rows = e.rows; node = node }) →
    IsWhole (shared_terms terms) y.seen front × (front.node ≡ node)
front-whole terms y node counts base_rows front knows kn told base head entry = go (length y.seen) refl
  where
    whole : (f : Front) → f.len ≡ length y.seen → f.rows ≡ rows_after terms.base y.seen → f.node ≡ node →
        IsWhole (shared_terms terms) y.seen f
    whole f len rows at =
        let all : take f.len y.seen ≡ y.seen = take_all f.len y.seen (omega arith) in record {
          stands = record {
            within = omega arith;
            rows = rows ∙ ap (rows_after terms.base) (sym all);
            node = at ∙ kn.is ∙ sym (ap (λ (z : List Delta). node_in terms z (length z)) all);
          };
          whole = len;
        }

    none : (h : List Delta) → length h ≡ 0 → length terms.base ≡ rows_after terms.base h
    none [] e = refl
    none (d ∷ h) e = absurd (omega arith)

    go : (n : ℕ) → length y.seen ≡ n → IsWhole (shared_terms terms) y.seen front × (front.node ≡ node)
    go zero e =
        let at : node ≡ 0 = kn.is ∙ ap (node_in terms y.seen) e in
        let is = head at in (
          whole front (ap (λ (f : Front). f.len) is ∙ sym e)
              (ap (λ (f : Front). f.rows) is ∙ base ∙ none y.seen e)
              (ap (λ (f : Front). f.node) is ∙ sym at),
          ap (λ (f : Front). f.node) is ∙ sym at,
        )
    go (suc k) e =
        let some = node-positive terms y.seen k in
        let at : node ≡ node_in terms y.seen (suc k) = kn.is ∙ ap (node_in terms y.seen) e in
        let is = entry (entry_at terms y.seen k) (λ z. absurd (omega arith)) (knows.entries k (omega arith))
        (told ∙ ap (λ n. payload_in terms y.seen n 1) e) in
        let end = end_at-last y.seen (k + 1) (omega arith) in
        let all : take (k + 1) y.seen ≡ y.seen = take_all (k + 1) y.seen (omega arith) in (
          whole front (ap (λ (f : Front). f.len) is ∙ end)
              (ap (λ (f : Front). f.rows) is ∙ ap (rows_after terms.base) all)
              (ap (λ (f : Front). f.node) is),
          ap (λ (f : Front). f.node) is,
        )

pub looked : (terms : CoreTerms) (v w x y : PassView) (t m counts base_rows : ℕ) (front : Front)
    (a : LoadsTail terms v t w) (b : LoadsLink terms w t a.place m x) →
    LoadsPayload terms x (behind t m) (length x.seen) 1 counts y → base_rows ≡ length terms.base →
    (behind t m ≡ 0 → front ≡ record { len = 0; rows = base_rows; node = 0 }) →
    ((e : Entry) → behind t m ≢ 0 → FitsWords e → counts ≡ slice_index (entry_words e) 1 →
    front ≡ record { len = e.seq; rows = e.rows; node = behind t m }) →
    TakesFront terms v front y
looked terms v w x y t m counts base_rows front a b p base head entry =
    let kn = last-known terms v w x t m a b in
    let len : length x.seen ≡ length y.seen = ap (λ (z : List Delta). length z) (sym p.seen) in
    let known : Knows terms y (behind t m) (length y.seen) =
    subst (Knows terms y (behind t m)) len (knows-same terms x y (behind t m) (length x.seen) p.seen kn) in
    let told : counts ≡ payload_in terms y.seen (length y.seen) 1 =
    p.is ∙ (λ i. payload_in terms (sym p.seen i) (len i) 1) in
    let all = front-whole terms y (behind t m) counts base_rows front p.took.knows known told base head entry in record {
      sees = record {
        begins = begins-on v.seen x.seen y.seen (begins-on v.seen w.seen x.seen a.took.begins b.took.begins)
            p.took.begins;
        author = p.took.author ∙ b.took.author ∙ a.took.author;
        used = p.used ∙ b.used ∙ a.used;
        knows = p.took.knows;
      };
      whole = all.0;
      steps = (
        t,
        m,
        counts,
        all.1,
        p.took.trace
            ∙ ap (λ z. z ++ record { step = LoadPayload (behind t m) 1; gave = Value counts } ∷ [])
            (b.took.trace ∙ ap (λ z. z ++ record { step = LoadLink t; gave = Value m } ∷ []) a.took.trace)
            ∙ append_assoc (v.trace ++ record { step = LoadTail; gave = Value t } ∷ [])
            (record { step = LoadLink t; gave = Value m } ∷ [])
            (record { step = LoadPayload (behind t m) 1; gave = Value counts } ∷ [])
            ∙ append_assoc v.trace (record { step = LoadTail; gave = Value t } ∷ [])
            (record { step = LoadLink t; gave = Value m }
            ∷ record { step = LoadPayload (behind t m) 1; gave = Value counts } ∷ []),
        told,
      );
    }
