-- A front that one party takes alone.
use Rattle.std.proofs.Common.{◌≡◌, ℕ, ◌+◌, ◌<◌, ◌≤◌, [], ◌∷◌, length, max, sym, refl, ap, ◌∙◌, subst, arith, get_or-set_same, length-set}
use Rattle.log_core.specs.declared.party.Party.{Party}
use Rattle.log_core.specs.declared.step.Step.TheVariants.{LoadTail, LoadLink, LoadPayload}
use Rattle.log_core.specs.declared.step.Seen.{Seen}
use Rattle.log_core.specs.declared.step.Seen.TheVariants.{Value}
use Rattle.log_core.specs.Chain.{tail, payload, link, node_at, IsNodeAt, end_at}
use Rattle.log_core.specs.Core.{CoreValue, newcomer, party, with_party, IsSound}
use Rattle.log_core.specs.Steps.{MayRead, sees, tail_loaded, tail_end, sees_next, TakesStep, IsLawfulStep}
use Rattle.log_core.specs.Growing.{behind}
use Rattle.log_core.specs.Run.{RunsAlone, loads, TakesFront}
use Rattle.log_core.proofs.Ends.{end_at-within, end_at-last}
use Rattle.log_core.proofs.Nodes.{one-place}
use Rattle.log_core.proofs.Grown.{last-by-tail}

module _ (c : CoreValue) (s : IsSound c) (p : ℕ) (inp : p < length c.parties) where
  abbrev pub place : ℕ
  place = c.chain.tail_place

  abbrev pub after_tail : CoreValue
  after_tail = with_party c p (tail_loaded c (party c p))

  abbrev pub after_link : CoreValue
  after_link = sees_next after_tail p place

  inp' : p < length after_tail.parties
  inp' = omega (arith, length-set c.parties p (tail_loaded c (party c p)))

  tail-party : party after_tail p ≡ tail_loaded c (party c p)
  tail-party = get_or-set_same c.parties p (tail_loaded c (party c p)) newcomer inp

  link-party : party after_link p ≡ sees (party after_tail p) (end_at c.chain.history (place + 1))
  link-party =
      get_or-set_same after_tail.parties p (sees (party after_tail p) (end_at c.chain.history (place + 1))) newcomer
      inp'

  tail-seen : (party after_tail p).seen ≡ max (party c p).seen (tail_end c)
  tail-seen = ap (λ (x : Party). x.seen) tail-party

  end : end_at c.chain.history (place + 1) ≡ length c.chain.history
  end = let late = s.tail.late in end_at-last c.chain.history (place + 1) (omega arith)

  pub link-seen : (party after_link p).seen ≡ length c.chain.history
  link-seen =
      let x = s.parties p inp in
      let most = x.seen in
      let tail_most = end_at-within c.chain.history place in
      omega (arith, ap (λ (x : Party). x.seen) link-party, tail-seen, end)

  pub link-reached : tail_end c ≤ (party after_link p).reached
  link-reached = omega (
    arith,
    ap (λ (x : Party). x.reached) link-party,
    ap (λ (x : Party). x.reached) tail-party,
  )

  tail-at : IsNodeAt c.chain (tail c.words) place
  tail-at =
      let count = s.linked.count in let within = s.tail.within in
      record { within = omega arith; is = sym s.tail.is }

  may-link : MayRead after_tail p (tail c.words) place
  may-link = record {
    at = record { within = tail-at.within; is = tail-at.is };
    seen = omega (arith, tail-seen);
  }

  pub lawful-tail : IsLawfulStep c p LoadTail
  lawful-tail = (Value (tail c.words), after_tail, record { party = inp; gives = (refl, refl) })

  pub lawful-link : (y : CoreValue) → y ≡ after_tail → IsLawfulStep y p (LoadLink (tail c.words))
  lawful-link y is = subst (λ z. IsLawfulStep z p (LoadLink (tail c.words))) (sym is)
      (Value (link c.words (tail c.words)), after_link, record { party = inp'; gives = (place, may-link, refl, refl) })

  pub one-link : (y z : CoreValue) (r : Seen) → y ≡ after_tail → TakesStep y p (LoadLink (tail c.words)) r z →
      (r ≡ Value (link c.words (tail c.words))) × (z ≡ after_link)
  one-link y z r is takes =
      let there : TakesStep after_tail p (LoadLink (tail c.words)) r z =
      subst (λ x. TakesStep x p (LoadLink (tail c.words)) r z) is takes in
      let g = there.gives in
      let same : g.0 ≡ place = one-place c.terms c.words c.chain s.linked s.filled (tail c.words) g.0 place
      (record { within = g.1.at.within; is = g.1.at.is }) tail-at in
      (g.2, g.3 ∙ ap (sees_next after_tail p) same)

  pub lawful-last : (z : CoreValue) (n : ℕ) → z ≡ after_link → n ≡ node_at c.chain (length c.chain.history) →
      IsLawfulStep z p (LoadPayload n 1)
  lawful-last z n is last = subst (λ x. IsLawfulStep x p (LoadPayload n 1)) (sym is) (
    Value (payload c.words n 1),
    after_link,
    record {
      party = omega (
        arith,
        inp',
        length-set after_tail.parties p (sees (party after_tail p) (end_at c.chain.history (place + 1))),
      );
      gives = (
        length c.chain.history,
        record {
          at = record { within = let count = s.linked.count in omega arith; is = sym last };
          seen = omega (arith, link-seen, end_at-within c.chain.history (length c.chain.history));
        },
        omega arith,
        refl,
        refl,
      );
    },
  )

  pub runs-loads : (t m : ℕ) → tail c.words ≡ t → link c.words t ≡ m →
      RunsAlone c p (loads t) (Value t ∷ Value m ∷ []) after_link
  runs-loads t m tail_is link_is =
      subst (λ n. RunsAlone c p (loads t) (Value t ∷ Value n ∷ []) after_link) link_is
      (subst (λ n. RunsAlone c p (loads n) (Value n ∷ Value (link c.words n) ∷ []) after_link) tail_is (
        after_tail,
        record { party = inp; gives = (refl, refl) },
        (after_link, record { party = inp'; gives = (place, may-link, refl, refl) }, refl),
      ))

  pub takes-front : (y z w : CoreValue) (a b d : Seen) (n : ℕ) → n ≡ node_at c.chain (length c.chain.history) →
      TakesStep c p LoadTail a y → TakesStep y p (LoadLink (tail c.words)) b z → TakesStep z p (LoadPayload n 1) d w →
      TakesFront c p (a ∷ b ∷ d ∷ []) w
  takes-front y z w a b d n last first second third =
      let two = one-link y z b first.gives.1 second in
      let same : n ≡ behind (tail c.words) (link c.words (tail c.words)) = last ∙ sym (last-by-tail c s) in (
        tail c.words,
        link c.words (tail c.words),
        payload z.words n 1,
        (λ i. first.gives.0 i ∷ two.0 i ∷ third.gives.3 i ∷ []),
        (y, first, (z, second, (w, subst (λ x. TakesStep z p (LoadPayload x 1) d w) same third, refl))),
      )

  pub front-ends : (y z w : CoreValue) (b d : Seen) (n : ℕ) → y ≡ after_tail →
      TakesStep y p (LoadLink (tail c.words)) b z → TakesStep z p (LoadPayload n 1) d w → w ≡ after_link
  front-ends y z w b d n is second third = third.gives.4 ∙ (one-link y z b is second).1

  pub front-seen : (w : CoreValue) → w ≡ after_link → (party w p).seen ≡ length w.chain.history
  front-seen w is = subst (λ x. (party x p).seen ≡ length x.chain.history) (sym is) link-seen
