-- What the steps of an append come to.
use Rattle.std.proofs.Common.{◌≡◌, ◌≢◌, ℕ, ◌+◌, ◌<◌, ◌≤◌, Bool, true, false, true≢false, List, [], ◌∷◌, ◌++◌, length, take, sym, refl, ap, ◌∙◌, subst, arith}
use mathlib.Core.Logic.{dite}
use native.Mathlib.Decide.{ℕ_discrete}
use Rattle.std.specs.Prelude.{slice_index}
use Rattle.cubit_base.specs.Delta.{IsLawful}
use Rattle.cubit_base.specs.EntryWords.{entry_words}
use Rattle.cubit_base.specs.History.{after, rows_after}
use Rattle.cubit_base.specs.declared.delta.Delta.{Delta}
use Rattle.cubit_base.specs.declared.entry.Entry.{Entry}
use Rattle.log_core.specs.declared.step.Step.TheVariants.{LoadTail, LoadLink, SwapTail}
use Rattle.log_core.specs.Terms.{CoreTerms, share, first_node}
use Rattle.log_core.specs.Chain.{end_at}
use Rattle.commit_log.specs.declared.front.Front.{Front}
use Rattle.shared_log.specs.Fronts.{node_in}
use Rattle.shared_log.specs.Shown.{stored}
use Rattle.shared_log.specs.Steps.{Knows, IsNext, HasReady, MayPut, MayTurn}
use Rattle.shared_log.specs.Told.{LoadsTail, LoadsLink, SwapsLink, SwapsTail}
use Rattle.shared_log.specs.Calls.{SeesOn}
use Rattle.shared_log.specs.Appends.{linked_behind, IsEntryBehind, TakesSteps, StoresEntry, ReachesFront, LinksDelta, IsBehind, MayLink}
use Rattle.shared_log.specs.declared.views.PassView.{PassView}
use Rattle.shared_log.proofs.Ends.{take-front, end_at-rises, end_at-place}
use Rattle.shared_log.proofs.Looks.{knows-same}
use Rattle.shared_log.proofs.Taking.{begins-length, begins-same, front-of, knows-on, end-on, took-one, takes-on, sees-on, took-keeps}

module _ (terms : CoreTerms) (v w : PassView) (at : Front) (t : ℕ) (a : LoadsTail terms v t w)
    (kn : Knows terms v at.node at.len) where
  tail-sees : SeesOn terms v w
  tail-sees = record { begins = a.took.begins; author = a.took.author; used = a.used; knows = a.took.knows }

  tail-keeps : (n i : ℕ) → stored w.trace n i ≡ stored v.trace n i
  tail-keeps = took-keeps terms v w LoadTail _ a.took (λ n i x. refl)

  kn-tail : Knows terms w at.node at.len
  kn-tail = knows-on terms v w at.node at.len a.took.begins kn

  -- the tail was seen at the front's node
  pub reached-here : t ≡ at.node → ReachesFront terms v at true w
  reached-here e =
      let is : at.len ≡ a.place = a.only at.len (subst (λ n. Knows terms w n at.len) (sym e) kn-tail) in
      let reached = a.reached in record {
        sees = tail-sees;
        keeps = tail-keeps;
        steps = let s = took-one terms v w LoadTail _ a.took in record {
          steps = s.steps;
          trace = s.trace;
          within = omega arith;
          made = s.made;
        };
        reached = λ _. subst (λ k. end_at w.seen k ≤ w.reached) (sym is) reached;
        late = λ e. absurd (true≢false e);
      }

  module _ (x : PassView) (m : ℕ) (b : LoadsLink terms w t a.place m x) where
    link-sees : SeesOn terms v x
    link-sees = sees-on terms v w x tail-sees
        (record { begins = b.took.begins; author = b.took.author; used = b.used; knows = b.took.knows })

    link-keeps : (n i : ℕ) → stored x.trace n i ≡ stored v.trace n i
    link-keeps n i = took-keeps terms w x (LoadLink t) _ b.took (λ n i x. refl) n i ∙ tail-keeps n i

    link-steps : TakesSteps v x 2 []
    link-steps = takes-on v w x 1 1 2 [] [] (took-one terms v w LoadTail _ a.took)
        (took-one terms w x (LoadLink t) _ b.took) (omega arith)

    kn-link : Knows terms x at.node at.len
    kn-link = knows-on terms w x at.node at.len b.took.begins kn-tail

    -- no other node is the last one
    apart : (n k : ℕ) → Knows terms x n k → length x.seen ≤ k → n ≢ at.node → at.len < length x.seen
    apart n k here le ne =
        let c = here.within in let d = kn-link.within in
        dite (ℕ_discrete at.len k)
        (λ e. absurd (ne (here.is ∙ ap (node_in terms x.seen) (sym e) ∙ sym kn-link.is)))
        (λ far. omega arith)

    -- something else stands behind the front
    pub reached-not : (m ≡ 0 → t ≢ at.node) → (m ≢ 0 → m ≢ at.node) → ReachesFront terms v at false x
    reached-not tail link = record {
      sees = link-sees;
      keeps = link-keeps;
      steps = record {
        steps = link-steps.steps;
        trace = link-steps.trace;
        within = let le = link-steps.within in omega arith;
        made = link-steps.made;
      };
      reached = λ e. absurd (true≢false (sym e));
      late = λ _. dite (ℕ_discrete m 0)
          (λ e. let o = b.none e in let len = ap (λ (z : List Delta). length z) o.0 in let c = o.1 in
          apart t a.place (knows-same terms w x t a.place o.0 a.known) (omega arith) (tail e))
          (λ ne. let o = b.next ne in let late = a.late in let c = o.1 in
          apart m (a.place + 1) o.0 (omega arith) (link ne));
    }

    -- a late tail may be moved on
    pub may-help : m ≢ 0 → m ≡ at.node → MayTurn terms x t at.node a.place
    may-help some is = record {
      known = knows-on terms w x t a.place b.took.begins a.known;
      reached =
          let c = end-on w x a.place b.took.begins a.known.within in let r = a.reached in let s = b.reached in
          omega arith;
      next = subst (λ n. Knows terms x n (a.place + 1)) is (b.next some).0;
    }

    -- it was moved on to the front's node
    pub reached-helped : (y : PassView) (found : ℕ) → m ≢ 0 → SwapsTail terms x t at.node a.place found y →
        ReachesFront terms v at true y
    reached-helped y found some c =
        let o = b.next some in let late = a.late in let len = o.1 in let within = kn-link.within in
        let up = end_at-rises x.seen at.len (a.place + 1) (omega arith) in
        let reached = c.reached in record {
          sees = sees-on terms v x y link-sees
              (record { begins = c.took.begins; author = c.took.author; used = c.used; knows = c.took.knows });
          keeps = λ n i. took-keeps terms x y (SwapTail t at.node) _ c.took (λ n i x. refl) n i ∙ link-keeps n i;
          steps = takes-on v x y 2 1 3 [] [] link-steps (took-one terms x y (SwapTail t at.node) _ c.took)
              (omega arith);
          reached = λ _. subst (λ (z : List Delta). end_at z at.len ≤ y.reached) (sym c.seen) (omega arith);
          late = λ e. absurd (true≢false e);
        }

-- the pass's next node was linked behind the front's
module _ (terms : CoreTerms) (v w : PassView) (at : Front) (to : ℕ) (d : Delta) (found : ℕ)
    (a : SwapsLink terms v at.node to at.len d found w) (kn : Knows terms v at.node at.len) (free : found ≡ 0) where
  pub may-turn : end_at v.seen at.len ≤ v.reached → MayTurn terms w at.node to at.len
  may-turn reached =
      let o = a.won free in record {
        known = knows-on terms v w at.node at.len o.0.begins kn;
        reached =
            let c = end-on v w at.len o.0.begins kn.within in let s = a.reached in omega arith;
        next = o.4;
      }

  pub links-delta : (y : PassView) (last : ℕ) → SwapsTail terms w at.node to at.len last y →
      LinksDelta terms v at to d 2 y
  links-delta y last b =
      let o = a.won free in record {
        last = o.1;
        seen = b.seen ∙ o.2;
        author = b.took.author ∙ o.0.author;
        used = b.used ∙ o.3;
        knows = b.took.knows;
        known = knows-same terms w y to (at.len + 1) b.seen o.4;
        steps = takes-on v w y 1 1 2 (linked_behind at.node to ∷ []) [] (took-one terms v w _ _ o.0)
            (took-one terms w y (SwapTail at.node to) _ b.took) (omega arith);
      }

-- the entry that was stored may come next behind the front
module _ (terms : CoreTerms) (v w x : PassView) (at : Front) (node : ℕ) (words : List ℕ) (e : Entry)
    (stores : StoresEntry terms v node words w) (is : words ≡ entry_words e) (next : IsNext terms v node)
    (entry : IsEntryBehind terms v at e) (kn : Knows terms v at.node at.len) where
  pub kn-stored : Knows terms w at.node at.len
  kn-stored = knows-on terms v w at.node at.len stores.sees.begins kn

  module _ (last : Bool) (reaches : ReachesFront terms w at last x) where
    seen-on : SeesOn terms v x
    seen-on = sees-on terms v w x stores.sees reaches.sees

    front-on : take at.len v.seen ≡ take at.len x.seen
    front-on = take-front x.seen v.seen (length v.seen) at.len (front-of v.seen x.seen seen-on.begins) kn.within

    has-ready : HasReady terms x node at.len e
    has-ready =
        let kn-on = knows-on terms v x at.node at.len seen-on.begins kn in
        let end = end_at-place x.seen at.len kn-on.within in let seq = entry.seq in record {
          fits = entry.fits;
          words = λ i small. reaches.keeps node i ∙ stores.holds i small ∙ ap (λ z. slice_index z i) is;
          author = entry.author ∙ sym seen-on.author;
          seq = omega arith;
          rows = entry.rows ∙ ap (λ (h : List Delta). rows_after terms.base (h ++ e.delta ∷ [])) front-on;
          lawful = subst (λ (h : List Delta). IsLawful terms.limits.row_limit (after terms.base h) e.delta) front-on
              entry.lawful;
        }

    pub may-put : last ≡ true → at.len < terms.limits.log_limit → MayPut terms x at.node node at.len e
    may-put met room =
        let kn-on = knows-on terms v x at.node at.len seen-on.begins kn in
        let end = end_at-place x.seen at.len kn-on.within in record {
          known = kn-on;
          reached = reaches.reached met;
          room = omega arith;
          next = record {
            share = subst (λ (y : ℕ × ℕ). y.0 < share terms y.1)
                (λ i. (sym seen-on.used i, sym seen-on.author i)) next.share;
            is = next.is ∙ (λ i. first_node terms (sym seen-on.author i) + sym seen-on.used i);
          };
          ready = has-ready;
        }

    pub append-late : last ≡ false → IsBehind terms v at 8 x
    append-late missed = record {
      sees = seen-on;
      longer = reaches.late missed;
      steps = takes-on v w x 4 3 8 [] [] stores.steps reaches.steps (omega arith);
    }

    -- all that was seen was the front
    pub append-done : (y : PassView) (put : Bool) → MayLink terms x at node e.delta 1 y put →
        MayLink terms v at node e.delta 8 y put
    append-done y true l =
        let kn-on = knows-on terms v x at.node at.len seen-on.begins kn in
        let short = begins-length v.seen x.seen seen-on.begins in
        let within = kn.within in let last = l.last in
        let same : x.seen ≡ v.seen =
        begins-same v.seen x.seen seen-on.begins (omega arith) in record {
          last = omega arith;
          seen = l.seen ∙ ap (λ (h : List Delta). h ++ e.delta ∷ []) same;
          author = l.author ∙ seen-on.author;
          used = l.used ∙ ap (λ n. n + 1) seen-on.used;
          knows = l.knows;
          known = l.known;
          steps = takes-on v x y 7 2 9 [] (linked_behind at.node node ∷ [])
              (takes-on v w x 4 3 7 [] [] stores.steps reaches.steps (omega arith)) l.steps (omega arith);
        }
    append-done y false l = record {
      sees = sees-on terms v x y seen-on l.sees;
      longer = l.longer;
      steps = takes-on v x y 7 1 8 [] [] (takes-on v w x 4 3 7 [] [] stores.steps reaches.steps (omega arith))
          l.steps (omega arith);
    }
