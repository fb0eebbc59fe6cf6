-- The four stores of an entry.
use Rattle.std.proofs.Common.{◌≡◌, ◌≢◌, ℕ, zero, suc, ◌+◌, ◌*◌, ◌<◌, List, [], ◌∷◌, length, get_or, set, refl, ap, ◌∙◌, arith, get_or-set_other, get_or-set_same, length-set}
use Rattle.cubit_base.specs.declared.entry.Entry.{Entry}
use Rattle.log_core.specs.declared.party.Party.{Party}
use Rattle.log_core.specs.declared.step.Step.TheVariants.{Store}
use Rattle.log_core.specs.declared.step.Seen.TheVariants.{Done}
use Rattle.cubit_base.specs.EntryWords.{FitsWords, entry_words}
use Rattle.log_core.specs.Chain.{tail, payload_place, link_place, payload, link, HasEntry}
use Rattle.log_core.specs.Core.{CoreValue, newcomer, party, IsSound}
use Rattle.log_core.specs.Steps.{IsNextNode, MayComeNext, TakesStep}
use Rattle.log_core.specs.Run.{RunsAlone, stores}
use Rattle.log_core.proofs.Bounds.{next-words}

-- a core in which the party's next node may take an entry behind the last node
pub record IsReady (x : CoreValue) (p n : ℕ) (e : Entry) : Type 0 where
  pub next : IsNextNode x p n
  pub room : length x.chain.history < x.terms.limits.log_limit
  pub may : MayComeNext x p (length x.chain.history) e

-- the same, where only words and the party's other fields differ
pub same-ready : (x : CoreValue) (p n : ℕ) (e : Entry) (ws : List ℕ) (place noted : ℕ) (q : Party) →
    p < length x.parties → q.used ≡ (party x p).used → IsReady x p n e →
    IsReady record {
      terms = x.terms;
      words = ws;
      chain = record { nodes = x.chain.nodes; history = x.chain.history; tail_place = place };
      parties = set x.parties p q;
      noted = noted;
    } p n e
same-ready x p n e ws place noted q inp used r =
    let is : get_or (set x.parties p q) p newcomer ≡ q = get_or-set_same x.parties p q newcomer inp in
    let same : (get_or (set x.parties p q) p newcomer).used ≡ (party x p).used =
    ap (λ (y : Party). y.used) is ∙ used in
    record {
      next = record {
        share = let a = r.next.share in omega (arith, same);
        is = let a = r.next.is in omega (arith, same);
      };
      room = r.room;
      may = record { author = r.may.author; seq = r.may.seq; rows = r.may.rows; lawful = r.may.lawful };
    }

-- the four stores
module _ (c : CoreValue) (s : IsSound c) (p n : ℕ) (inp : p < length c.parties) (e : Entry) (fits : FitsWords e)
    (ready : IsReady c p n e) where
  abbrev value : ℕ → ℕ
  value w = get_or (entry_words e) w 0

  abbrev put : List ℕ → ℕ → List ℕ
  put ws w = set ws (payload_place n w) (value w)

  abbrev words : List ℕ
  words = put (put (put (put c.words 0) 1) 2) 3

  abbrev pub stored : CoreValue
  stored = record c { words = words }

  takes-store : (x : CoreValue) (w : ℕ) → w < 4 → p < length x.parties → IsNextNode x p n →
      TakesStep x p (Store n w (value w)) Done (record x { words = put x.words w })
  takes-store x w small within next = record { party = within; gives = (next, small, refl, refl) }

  next-of : (ws : List ℕ) → IsNextNode (record c { words = ws }) p n
  next-of ws = record { share = ready.next.share; is = ready.next.is }

  pub runs-stores : RunsAlone c p (stores n e) (Done ∷ Done ∷ Done ∷ Done ∷ []) stored
  runs-stores =
      let one : List ℕ = put c.words 0 in let two : List ℕ = put one 1 in let three : List ℕ = put two 2 in (
        record c { words = one },
        takes-store c 0 (omega arith) inp ready.next,
        (
          record c { words = two },
          takes-store (record c { words = one }) 1 (omega arith) inp (next-of one),
          (
            record c { words = three },
            takes-store (record c { words = two }) 2 (omega arith) inp (next-of two),
            (stored, takes-store (record c { words = three }) 3 (omega arith) inp (next-of three), refl),
          ),
        ),
      )

  pub stored-ready : IsReady stored p n e
  stored-ready = record {
    next = next-of words;
    room = ready.room;
    may = let m = ready.may in record { author = m.author; seq = m.seq; rows = m.rows; lawful = m.lawful };
  }

  long : 5 * n + 5 < length c.words
  long = next-words c p n s inp ready.next

  own-word : (ws : List ℕ) (w : ℕ) → w < 4 → length ws ≡ length c.words → payload (put ws w) n w ≡ value w
  own-word ws w small same = get_or-set_same ws (payload_place n w) (value w) 0 (omega (arith, long))

  put-length : (ws : List ℕ) (w : ℕ) → length ws ≡ length c.words → length (put ws w) ≡ length c.words
  put-length ws w same = length-set ws (payload_place n w) (value w) ∙ same

  other-word : (ws : List ℕ) (w i : ℕ) → i ≢ payload_place n w → get_or (put ws w) i 0 ≡ get_or ws i 0
  other-word ws w i ne = get_or-set_other ws (payload_place n w) i (value w) 0 ne

  has-word : (w : ℕ) → w < 4 → payload words n w ≡ value w
  has-word zero small =
      other-word (put (put (put c.words 0) 1) 2) 3 (payload_place n 0) (λ e. absurd (omega arith))
      ∙ other-word (put (put c.words 0) 1) 2 (payload_place n 0) (λ e. absurd (omega arith))
      ∙ other-word (put c.words 0) 1 (payload_place n 0) (λ e. absurd (omega arith))
      ∙ own-word c.words 0 (omega arith) refl
  has-word (suc zero) small =
      other-word (put (put (put c.words 0) 1) 2) 3 (payload_place n 1) (λ e. absurd (omega arith))
      ∙ other-word (put (put c.words 0) 1) 2 (payload_place n 1) (λ e. absurd (omega arith))
      ∙ own-word (put c.words 0) 1 (omega arith) (put-length c.words 0 refl)
  has-word (suc (suc zero)) small =
      other-word (put (put (put c.words 0) 1) 2) 3 (payload_place n 2) (λ e. absurd (omega arith))
      ∙ own-word (put (put c.words 0) 1) 2 (omega arith) (put-length (put c.words 0) 1 (put-length c.words 0 refl))
  has-word (suc (suc (suc zero))) small =
      own-word (put (put (put c.words 0) 1) 2) 3 (omega arith)
      (put-length (put (put c.words 0) 1) 2 (put-length (put c.words 0) 1 (put-length c.words 0 refl)))
  has-word (suc (suc (suc (suc w)))) small = absurd (omega arith)

  pub has-entry : HasEntry words n e
  has-entry = record { fits = fits; payload = has-word }

  elsewhere : (i : ℕ) → ((w : ℕ) → w < 4 → i ≢ payload_place n w) → get_or words i 0 ≡ get_or c.words i 0
  elsewhere i out =
      other-word (put (put (put c.words 0) 1) 2) 3 i (out 3 (omega arith))
      ∙ other-word (put (put c.words 0) 1) 2 i (out 2 (omega arith))
      ∙ other-word (put c.words 0) 1 i (out 1 (omega arith)) ∙ other-word c.words 0 i (out 0 (omega arith))

  pub stored-tail : tail words ≡ tail c.words
  stored-tail = elsewhere 0 (λ w small e. absurd (omega arith))

  pub stored-link : (m : ℕ) → link words m ≡ link c.words m
  stored-link m = elsewhere (link_place m) (λ w small e. absurd (omega arith))
