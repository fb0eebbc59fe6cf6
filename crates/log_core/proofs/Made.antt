-- A core that was just made is sound.
use Rattle.std.proofs.Common.{◌≡◌, ℕ, ◌+◌, ◌*◌, ◌<◌, zero, suc, length, get_or, replicate, refl, sym, subst, arith}
use Rattle.std.proofs.lemmas.List.{length-replicate}
use Rattle.log_core.specs.Terms.{CoreTerms, node_count}
use Rattle.log_core.specs.Chain.{link, node_at}
use Rattle.log_core.specs.Core.{newcomer, made_core, IsSoundParty, IsSound}

-- the same everywhere, past the end too
same-all : {X : Type 0} (n i : ℕ) (x : X) → get_or (replicate n x) i x ≡ x
same-all zero i x = refl
same-all (suc n) zero x = refl
same-all (suc n) (suc i) x = same-all n i x

module _ (t : CoreTerms) where
  abbrev words : ℕ
  words = 5 * node_count t + 1

  next : (k : ℕ) → k < 1 →
      link (made_core t).words (node_at (made_core t).chain k) ≡ node_at (made_core t).chain (k + 1)
  next zero lt = same-all words (5 * 0 + 5) 0
  next (suc k) lt = absurd (omega arith)

  sound-new : (p : ℕ) → IsSoundParty t (made_core t).chain p newcomer
  sound-new p = record {
    seen = omega arith;
    reached = omega arith;
    used = refl;
    share = omega arith;
    own = λ k lt by. absurd (omega arith);
    low = omega arith;
    last = (0, record { within = omega arith; is = refl }, omega arith);
  }

  pub made-sound : IsSound (made_core t)
  made-sound = record {
    word_count = length-replicate words 0;
    linked = record {
      count = refl;
      head = refl;
      next = next;
      apart = λ j k lt within. absurd (omega arith);
      others = λ n lt out. same-all words (5 * n + 5) 0;
    };
    filled = record {
      head = λ w small. same-all words (5 * 0 + w + 1) 0;
      entries = λ k lt. absurd (omega arith);
      authors = λ k lt. absurd (omega arith);
      nodes = λ k lt. absurd (omega arith);
    };
    tail = record { is = same-all words 0 0; within = omega arith; late = omega arith };
    lawful = tt;
    within = omega arith;
    party_count = length-replicate (length t.shares) newcomer;
    parties = λ p lt.
        subst (IsSoundParty t (made_core t).chain p) (sym (same-all (length t.shares) p newcomer)) (sound-new p);
    noted = omega arith;
  }
