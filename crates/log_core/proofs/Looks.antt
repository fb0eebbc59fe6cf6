-- A step that changes no word leaves a sound core.
use Rattle.std.proofs.Common.{◌≡◌, ℕ, ◌+◌, ◌<◌, ◌≤◌, max, List, length, get_or, set, sym, ap, ◌∙◌, subst, arith, get_or-set_other, get_or-set_same, length-set}
use mathlib.Core.Logic.{dite}
use native.Mathlib.Decide.{ℕ_discrete}
use Rattle.log_core.specs.declared.party.Party.{Party}
use Rattle.log_core.specs.Terms.{CoreTerms}
use Rattle.log_core.specs.Chain.{Chain, tail, end_at}
use Rattle.log_core.specs.Core.{CoreValue, newcomer, party, with_party, IsSoundParty, IsSound}
use Rattle.log_core.specs.Steps.{sees, reaches, loads_tail, tail_loaded, tail_end, sees_next, reaches_next}
use Rattle.log_core.proofs.Ends.{end_at-within, end_at-last}
use Rattle.log_core.proofs.Nodes.{KeepsShares}

-- what is true of each element is so after one was set, if it is true of that one
pub each-set : {X : Type 0} (P : ℕ → X → Type 0) (xs : List X) (i : ℕ) (y d : X) → P i y →
    ((j : ℕ) → j < length xs → P j (get_or xs j d)) → (j : ℕ) → j < length (set xs i y) → P j (get_or (set xs i y) j d)
each-set P xs i y d here each j lt =
    let same = length-set xs i y in
    dite (ℕ_discrete j i)
    (λ e. subst (λ z. P z (get_or (set xs i y) z d)) (sym e)
    (subst (P i) (sym (get_or-set_same xs i y d (omega arith))) here))
    (λ ne. subst (P j) (sym (get_or-set_other xs i j y d ne)) (each j (omega arith)))

pub keeps-shares : (c : CoreValue) → IsSound c → KeepsShares c.terms c.chain.history
keeps-shares c s q lt =
    let count = s.party_count in let x = s.parties q (omega arith) in let used = x.used in let most = x.share in
    omega arith

-- another state of one party
pub keeps-party : (c : CoreValue) (p : ℕ) (x : Party) → IsSound c → IsSoundParty c.terms c.chain p x →
    IsSound (with_party c p x)
keeps-party c p x s sound = record {
  word_count = s.word_count;
  linked = s.linked;
  filled = s.filled;
  tail = s.tail;
  lawful = s.lawful;
  within = s.within;
  party_count = length-set c.parties p x ∙ s.party_count;
  parties = each-set (IsSoundParty c.terms c.chain) c.parties p x newcomer sound s.parties;
  noted = s.noted;
}

pub sound-sees : (t : CoreTerms) (ch : Chain) (p : ℕ) (x : Party) (end : ℕ) → IsSoundParty t ch p x →
    end ≤ length ch.history → IsSoundParty t ch p (sees x end)
sound-sees t ch p x end s le = record {
  seen = let a = s.seen in omega arith;
  reached = s.reached;
  used = s.used;
  share = s.share;
  own = λ k lt by. let a = s.own k lt by in omega arith;
  low = s.low;
  last = s.last;
}

pub sound-reaches : (t : CoreTerms) (ch : Chain) (p : ℕ) (x : Party) (end : ℕ) → IsSoundParty t ch p x →
    end ≤ end_at ch.history ch.tail_place → IsSoundParty t ch p (reaches x end)
sound-reaches t ch p x end s le = record {
  seen = s.seen;
  reached = let a = s.reached in omega arith;
  used = s.used;
  share = s.share;
  own = s.own;
  low = s.low;
  last = s.last;
}

pub keeps-sees : (c : CoreValue) (p end : ℕ) → IsSound c → p < length c.parties → end ≤ length c.chain.history →
    IsSound (with_party c p (sees (party c p) end))
keeps-sees c p end s inp le =
    keeps-party c p (sees (party c p) end) s (sound-sees c.terms c.chain p (party c p) end (s.parties p inp) le)

pub keeps-sees_next : (c : CoreValue) (p place : ℕ) → IsSound c → p < length c.parties → IsSound (sees_next c p place)
keeps-sees_next c p place s inp =
    keeps-sees c p (end_at c.chain.history (place + 1)) s inp (end_at-within c.chain.history (place + 1))

pub keeps-reaches_next : (c : CoreValue) (p place : ℕ) → IsSound c → p < length c.parties →
    end_at c.chain.history (place + 1) ≤ tail_end c → IsSound (reaches_next c p place)
keeps-reaches_next c p place s inp le =
    let end = end_at c.chain.history (place + 1) in
    keeps-party c p (reaches (party c p) end) s
    (sound-reaches c.terms c.chain p (party c p) end (s.parties p inp) le)

-- the tail's node is the last one or the one before, so the next one's end is that of the whole
pub keeps-load_tail : (c : CoreValue) (p : ℕ) → IsSound c → p < length c.parties →
    IsSound (with_party c p (tail_loaded c (party c p)))
keeps-load_tail c p s inp =
    let x = s.parties p inp in
    let place = c.chain.tail_place in
    let end = end_at-within c.chain.history place in
    keeps-party c p (tail_loaded c (party c p)) s record {
      seen = let a = x.seen in omega arith;
      reached = let a = x.reached in omega arith;
      used = x.used;
      share = x.share;
      own = λ k lt by. let a = x.own k lt by in omega arith;
      low = omega arith;
      last = (
        place,
        record {
          within = let count = s.linked.count in let a = s.tail.within in omega arith;
          is = sym s.tail.is;
        },
        let late = s.tail.late in let all = end_at-last c.chain.history (place + 1) (omega arith) in omega arith,
      );
    }

pub keeps-note : (c : CoreValue) (p : ℕ) → IsSound c → p < length c.parties →
    IsSound (record c { noted = max c.noted (party c p).seen })
keeps-note c p s inp = record {
  word_count = s.word_count;
  linked = s.linked;
  filled = s.filled;
  tail = s.tail;
  lawful = s.lawful;
  within = s.within;
  party_count = s.party_count;
  parties = s.parties;
  noted = let x = s.parties p inp in let a = x.seen in let b = s.noted in omega arith;
}

-- the same for a state that is made elsewhere
pub sound-seen : (c : CoreValue) (p end : ℕ) (x of : Party) → IsSound c → p < length c.parties → of ≡ party c p →
    x ≡ sees of end → end ≤ length c.chain.history → IsSound (with_party c p x)
sound-seen c p end x of s inp is seen le =
    subst (λ (y : Party). IsSound (with_party c p y)) (sym (seen ∙ ap (λ (y : Party). sees y end) is))
    (keeps-sees c p end s inp le)

pub sound-loaded : (c : CoreValue) (p end low last : ℕ) (x of : Party) → IsSound c → p < length c.parties →
    of ≡ party c p → x ≡ loads_tail of end low last → end ≡ tail_end c → low ≡ length c.chain.history →
    last ≡ tail c.words → IsSound (with_party c p x)
sound-loaded c p end low last x of s inp is loads same_end same_low same_last =
    subst (λ (y : Party). IsSound (with_party c p y))
    (sym (loads ∙ (λ i. loads_tail (is i) (same_end i) (same_low i) (same_last i))))
    (keeps-load_tail c p s inp)
