-- What a step of one party leaves of the other parties, and of the payloads.
use Rattle.std.proofs.Common.{◌≡◌, ◌≢◌, ℕ, ◌+◌, ◌<◌, ◌≤◌, cond, eqb, List, [], ◌∷◌, ◌++◌, length, set, get_or-set_same, get_or-set_other, append-nil, eq-eqb, ne_eqb, sym, refl, ap, ◌∙◌, subst, ⊎_elim, le_refl, arith}
use Rattle.std.specs.Prelude.{◌&&◌}
use mathlib.Core.Logic.{dite}
use native.Mathlib.Decide.{ℕ_discrete}
use Rattle.cubit_base.specs.declared.delta.Delta.{Delta}
use Rattle.log_core.specs.declared.party.Party.{Party}
use Rattle.log_core.specs.declared.step.Step.{Step}
use Rattle.log_core.specs.declared.step.Step.TheVariants.{Store, LoadTail, LoadLink, LoadPayload, SwapLink, SwapTail, Note, Join}
use Rattle.log_core.specs.declared.step.Seen.{Seen}
use Rattle.log_core.specs.Terms.{share, first_node}
use Rattle.log_core.specs.Chain.{payload_place, link_place, payload}
use Rattle.log_core.specs.Core.{CoreValue, newcomer, party, with_party, IsSound}
use Rattle.log_core.specs.Steps.{IsNextNode, Gives}
use Rattle.shared_log.specs.Shown.{stored_by}
use Rattle.shared_log.specs.CoreLaws.{CoreLaws}

pub record LeavesOthers (p : ℕ) (core next : CoreValue) : Type 0 where
  pub terms : next.terms ≡ core.terms
  pub rest : List Delta
  pub history : next.chain.history ≡ core.chain.history ++ rest
  pub parties : (q : ℕ) → q ≢ p → party next q ≡ party core q
  pub noted : core.noted ≤ next.noted
  pub payloads : (q i w : ℕ) → q ≢ p → q < length core.terms.shares → i < share core.terms q → w < 4 →
      payload next.words (first_node core.terms q + i) w ≡ payload core.words (first_node core.terms q + i) w

pub leaves-all : (core : CoreValue) (p : ℕ) → LeavesOthers p core core
leaves-all core p = record {
  terms = refl;
  rest = [];
  history = sym (append-nil core.chain.history);
  parties = λ q ne. refl;
  noted = le_refl core.noted;
  payloads = λ q i w ne inq lt small. refl;
}

-- a step that changes its own party alone
pub leaves-party : (core : CoreValue) (p : ℕ) (x : Party) → LeavesOthers p core (with_party core p x)
leaves-party core p x = record {
  terms = refl;
  rest = [];
  history = sym (append-nil core.chain.history);
  parties = λ q ne. get_or-set_other core.parties p q x newcomer ne;
  noted = le_refl core.noted;
  payloads = λ q i w ne inq lt small. refl;
}

payload-link : (ws : List ℕ) (n to m w : ℕ) → w < 4 → payload (set ws (link_place n) to) m w ≡ payload ws m w
payload-link ws n to m w small =
    get_or-set_other ws (link_place n) (payload_place m w) to 0 (λ e. absurd (omega arith))

payload-tail : (ws : List ℕ) (to m w : ℕ) → payload (set ws 0 to) m w ≡ payload ws m w
payload-tail ws to m w = get_or-set_other ws 0 (payload_place m w) to 0 (λ e. absurd (omega arith))

-- a word of a payload after a store
pub payload-stored : (ws : List ℕ) (n j x m i : ℕ) → j < 4 → i < 4 → payload_place n j < length ws →
    payload (set ws (payload_place n j) x) m i ≡ cond (eqb n m && eqb j i) x (payload ws m i)
payload-stored ws n j x m i sj si room = dite (ℕ_discrete n m)
    (λ e. dite (ℕ_discrete j i)
    (λ f. subst (λ (y : ℕ × ℕ). payload (set ws (payload_place n j) x) y.0 y.1 ≡ x) (λ k. (e k, f k))
    (get_or-set_same ws (payload_place n j) x 0 room)
    ∙ sym (ap (λ b. cond b x (payload ws m i)) (λ k. eq-eqb n m e k && eq-eqb j i f k)))
    (λ ne. get_or-set_other ws (payload_place n j) (payload_place m i) x 0 (λ q. ne (omega arith))
    ∙ sym (ap (λ b. cond b x (payload ws m i)) (λ k. eq-eqb n m e k && ne_eqb j i ne k))))
    (λ ne. get_or-set_other ws (payload_place n j) (payload_place m i) x 0 (λ q. ne (omega arith))
    ∙ sym (ap (λ b. cond b x (payload ws m i)) (λ k. ne_eqb n m ne k && eqb j i)))

module _ (laws : CoreLaws) (core next : CoreValue) (p : ℕ) (s : IsSound core) (inp : p < length core.parties) where
  own-node : (n : ℕ) → IsNextNode core p n → (q i : ℕ) → q ≢ p → q < length core.terms.shares →
      i < share core.terms q → n ≡ first_node core.terms q + i → ⊥
  own-node n at q i ne inq lt is =
      let count = s.party_count in let a = at.is in
      ne (laws.apart core.terms q p i (party core p).used inq (omega arith) lt at.share (omega arith))

  store-room : (n w : ℕ) → IsNextNode core p n → w < 4 → payload_place n w < length core.words
  store-room n w at small =
      let count = s.party_count in let words = s.word_count in let a = at.is in
      let inside = laws.own core.terms p (party core p).used (omega arith) at.share in
      omega arith

  pub leaves-others : (step : Step) (gave : Seen) → Gives core p step gave next → LeavesOthers p core next
  leaves-others (Store n j x) gave d = subst (LeavesOthers p core) (sym d.3) record {
    terms = refl;
    rest = [];
    history = sym (append-nil core.chain.history);
    parties = λ q ne. refl;
    noted = le_refl core.noted;
    payloads = λ q i w ne inq lt small. get_or-set_other core.words (payload_place n j)
        (payload_place (first_node core.terms q + i) w) x 0
        (λ e. let word = d.1 in own-node n d.0 q i ne inq lt (omega arith));
  }
  leaves-others LoadTail gave d = subst (LeavesOthers p core) (sym d.1) (leaves-party core p _)
  leaves-others (LoadLink n) gave d = subst (LeavesOthers p core) (sym d.3) (leaves-party core p _)
  leaves-others (LoadPayload n w) gave d = subst (LeavesOthers p core) (sym d.4) (leaves-all core p)
  leaves-others (SwapLink n to) gave d = ⊎_elim
      (λ t. subst (LeavesOthers p core) (sym t.2) record {
        terms = refl;
        rest = d.1.delta ∷ [];
        history = refl;
        parties = λ q ne. get_or-set_other core.parties p q _ newcomer ne;
        noted = le_refl core.noted;
        payloads = λ q i w ne inq lt small. payload-link core.words n to (first_node core.terms q + i) w small;
      })
      (λ t. subst (LeavesOthers p core) (sym t.2) (leaves-party core p _)) d.5
  leaves-others (SwapTail from to) gave d = ⊎_elim
      (λ t. subst (LeavesOthers p core) (sym t.2) record {
        terms = refl;
        rest = [];
        history = sym (append-nil core.chain.history);
        parties = λ q ne. get_or-set_other core.parties p q _ newcomer ne;
        noted = le_refl core.noted;
        payloads = λ q i w ne inq lt small. payload-tail core.words to (first_node core.terms q + i) w;
      })
      (λ t. subst (LeavesOthers p core) (sym t.2) (leaves-party core p _)) d.2
  leaves-others Note gave d = subst (LeavesOthers p core) (sym d.1) record {
    terms = refl;
    rest = [];
    history = sym (append-nil core.chain.history);
    parties = λ q ne. refl;
    noted = omega arith;
    payloads = λ q i w ne inq lt small. refl;
  }
  leaves-others (Join note) gave d = subst (LeavesOthers p core) (sym d.2) (leaves-party core p _)

  -- what each payload word is after the step
  pub payloads-after : (step : Step) (gave : Seen) → Gives core p step gave next → (m w : ℕ) → w < 4 →
      payload next.words m w ≡ stored_by m w (payload core.words m w) step
  payloads-after (Store n j x) gave d m w small =
      ap (λ (y : CoreValue). payload y.words m w) d.3
      ∙ payload-stored core.words n j x m w d.1 small (store-room n j d.0 d.1)
  payloads-after LoadTail gave d m w small = ap (λ (y : CoreValue). payload y.words m w) d.1
  payloads-after (LoadLink n) gave d m w small = ap (λ (y : CoreValue). payload y.words m w) d.3
  payloads-after (LoadPayload n j) gave d m w small = ap (λ (y : CoreValue). payload y.words m w) d.4
  payloads-after (SwapLink n to) gave d m w small = ⊎_elim
      (λ t. ap (λ (y : CoreValue). payload y.words m w) t.2 ∙ payload-link core.words n to m w small)
      (λ t. ap (λ (y : CoreValue). payload y.words m w) t.2) d.5
  payloads-after (SwapTail from to) gave d m w small = ⊎_elim
      (λ t. ap (λ (y : CoreValue). payload y.words m w) t.2 ∙ payload-tail core.words to m w)
      (λ t. ap (λ (y : CoreValue). payload y.words m w) t.2) d.2
  payloads-after Note gave d m w small = ap (λ (y : CoreValue). payload y.words m w) d.1
  payloads-after (Join note) gave d m w small = ap (λ (y : CoreValue). payload y.words m w) d.2
