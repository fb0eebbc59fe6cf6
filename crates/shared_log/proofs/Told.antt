-- What a pass knows of all that it has seen, and what each step tells it whichever it is.
use Rattle.std.proofs.Common.{◌≡◌, ℕ, suc, ◌+◌, ◌<◌, ◌≤◌, false, cond, eqb, ne_eqb, List, [], ◌∷◌, ◌++◌, length, get_or, set, sym, refl, ap, ◌∙◌, subst, ⊎_elim, arith, length-append, get_or-set_same}
use Rattle.std.specs.List.{count_by}
use Rattle.std.proofs.lemmas.List.{get_or-append-add}
use Rattle.std.proofs.lemmas.List.Elements.{All-from_get_or}
use Rattle.std.proofs.lemmas.List.Sums.{sum_by-cons, sum_by-append}
use mathlib.Core.Option.{some}
use lib.ListN.{get_elem?}
use Rattle.std.specs.Prelude.{IfSome}
use Rattle.cubit_base.specs.Tuple.{IsTuple}
use Rattle.cubit_base.specs.Table.{Row}
use Rattle.cubit_base.specs.Delta.{applied}
use Rattle.cubit_base.specs.History.{rows_after, IsHistory}
use Rattle.cubit_base.specs.EntryWords.{FitsWords}
use Rattle.cubit_base.specs.declared.delta.Delta.{Delta}
use Rattle.log_core.specs.declared.party.Party.{Party}
use Rattle.log_core.specs.declared.step.Step.{Step}
use Rattle.log_core.specs.declared.step.Step.TheVariants.{Store, LoadTail, LoadLink, LoadPayload, SwapLink, SwapTail, Note, Join}
use Rattle.log_core.specs.declared.step.Seen.{Seen}
use Rattle.log_core.specs.Terms.{CoreTerms, AreTerms}
use Rattle.log_core.specs.Chain.{no_delta, delta_at, end_at, entry_at, is_by}
use Rattle.log_core.specs.Core.{CoreValue, newcomer, party, IsSound}
use Rattle.log_core.specs.Steps.{TakesStep, Gives}
use Rattle.commit_log.specs.Handle.{Begins}
use Rattle.shared_log.specs.Fronts.{IsFront, node_in}
use Rattle.shared_log.specs.Shown.{Shows, view_after}
use Rattle.shared_log.specs.Told.{KnowsLog, TookStep}
use Rattle.shared_log.specs.declared.views.PassView.{PassView}
use Rattle.shared_log.specs.declared.views.SeatView.{SeatView}
use Rattle.shared_log.specs.declared.views.SeatView.TheVariants.{Pass}
use Rattle.shared_log.specs.CoreLaws.{CoreLaws}
use Rattle.shared_log.proofs.Ends.{take-front, delta_at-front, end_at-front, end_at-greater, end_at-last}
use Rattle.shared_log.proofs.Prefixes.{front-grows, fronts-begin}
use Rattle.shared_log.proofs.Known.{front-within, node-at-front}
use Rattle.shared_log.proofs.Law.{was, sound-after, leaves, in-next, follows}

-- a front of a history is one
history-front : (limit : ℕ) (table : List Row) (f rest : List Delta) → IsHistory limit table (f ++ rest) →
    IsHistory limit table f
history-front limit table [] rest is = tt
history-front limit table (d ∷ f) rest is = (is.0, history-front limit (applied table d) f rest is.1)

-- where a list has no delta of p, p counts none
count-none : (p : ℕ) (xs : List Delta) → ((i : ℕ) → i < length xs → (delta_at xs i).author ≡ p → ⊥) →
    count_by (is_by p) xs ≡ 0
count-none p [] none = refl
count-none p (x ∷ xs) none =
    let rest = count-none p xs (λ i lt is. none (suc i) (omega arith) is) in
    let here : eqb x.author p ≡ false = ne_eqb x.author p (none 0 (omega arith)) in
    sum_by-cons (λ (d : Delta). cond (is_by p d) 1 0) x xs ∙ (λ i. cond (here i) 1 0 + rest i)

-- a front with all deltas of p counts them all
pub count-front : (h f : List Delta) (n p s : ℕ) → IsFront h f n → s ≤ n →
    ((k : ℕ) → k < length h → (delta_at h k).author ≡ p → end_at h (k + 1) ≤ s) →
    count_by (is_by p) f ≡ count_by (is_by p) h
count-front h f n p s i le own =
    let rest : List Delta = i.begins.0 in
    let none : count_by (is_by p) rest ≡ 0 = count-none p rest (λ k lt is.
    let j : ℕ = length f + k in
    let same : delta_at h j ≡ delta_at rest k =
    ap (λ z. delta_at z j) i.begins.1 ∙ get_or-append-add f rest k no_delta in
    let small : j < length h = omega (arith, length-append f rest, ap (λ (z : List Delta). length z) i.begins.1) in
    let a = own j small (ap (λ (d : Delta). d.author) same ∙ is) in
    let b = end_at-front h f n (length f) i (omega arith) in
    let w = end_at-last f (length f) (omega arith) in
    let c = end_at-greater h (length f) (j + 1) (omega arith) (omega arith) in
    let l = i.count in absurd (omega arith)) in
    omega (
      arith,
      none,
      sum_by-append (λ (d : Delta). cond (is_by p d) 1 0) f rest,
      ap (count_by (is_by p)) i.begins.1,
    )

-- an entry of a front is that of the log
pub entry_at-front : (terms : CoreTerms) (h f : List Delta) (n k : ℕ) → IsFront h f n → k < length f →
    entry_at terms f k ≡ entry_at terms h k
entry_at-front terms h f n k i lt = λ t. record {
  seq = end_at-front h f n (k + 1) i (omega arith) t;
  rows = rows_after terms.base (take-front h f n (k + 1) i (omega arith) t);
  delta = delta_at-front h f n k i lt t;
}

module _ (laws : CoreLaws) (core : CoreValue) (s : IsSound core) (are : AreTerms core.terms) (view : PassView)
    (inp : view.author < length core.parties)
    (seen : IsFront core.chain.history view.seen (party core view.author).seen)
    (used : view.used ≡ (party core view.author).used) where
  abbrev h : List Delta
  h = core.chain.history

  abbrev f : List Delta
  f = view.seen

  abbrev n : ℕ
  n = (party core view.author).seen

  fits : (k : ℕ) → k < length f → FitsWords (entry_at core.terms f k)
  fits k lt =
      let short = front-within core s f n seen in
      subst FitsWords (sym (entry_at-front core.terms h f n k seen lt)) (s.filled.entries k (omega arith)).fits

  pub knows-log : KnowsLog core.terms view
  knows-log = record {
    log = record {
      limits_fit = are.limits;
      history = history-front core.terms.limits.row_limit core.terms.base f seen.begins.0
          (subst (IsHistory core.terms.limits.row_limit core.terms.base) seen.begins.1 s.lawful);
      tuples = All-from_get_or (λ (d : Delta). IfSome d.after IsTuple) f no_delta (λ k lt. (fits k lt).after);
      within = let short = front-within core s f n seen in let a = s.within in omega arith;
    };
    used = used ∙ (s.parties view.author inp).used
        ∙ sym (count-front h f n view.author n seen (omega arith) (s.parties view.author inp).own);
    share = let a = (s.parties view.author inp).share in omega arith;
    author = let count = s.party_count in omega arith;
    inside = λ k le. laws.inside core (node_in core.terms f k) k s (node-at-front core s f n seen
        (node_in core.terms f k) k le refl);
    authors = λ k lt.
        let short = front-within core s f n seen in
        subst (λ (d : Delta). d.author < length core.terms.shares) (sym (delta_at-front h f n k seen lt))
        (s.filled.authors k (omega arith));
    entries = fits;
  }

-- a party never sees less
seen-rises : (core next : CoreValue) (p : ℕ) (step : Step) (gave : Seen) → p < length core.parties →
    Gives core p step gave next → (party core p).seen ≤ (party next p).seen
seen-rises core next p step gave inp d = go step d
  where
    sets : (x : Party) → (party core p).seen ≤ x.seen → party next p ≡ x → (party core p).seen ≤ (party next p).seen
    sets x le e = let a = ap (λ (y : Party). y.seen) e in omega arith

    now : (x : Party) → get_or (set core.parties p x) p newcomer ≡ x
    now x = get_or-set_same core.parties p x newcomer inp

    go : (step : Step) → Gives core p step gave next → (party core p).seen ≤ (party next p).seen
    go (Store n j x) d = sets (party core p) (omega arith) (ap (λ (z : CoreValue). party z p) d.3)
    go LoadTail d = sets _ (omega arith) (ap (λ (z : CoreValue). party z p) d.1 ∙ now _)
    go (LoadLink n) d = sets _ (omega arith) (ap (λ (z : CoreValue). party z p) d.3 ∙ now _)
    go (LoadPayload n j) d = sets (party core p) (omega arith) (ap (λ (z : CoreValue). party z p) d.4)
    go (SwapLink n to) d = ⊎_elim (λ t. sets _ (omega arith) (ap (λ (z : CoreValue). party z p) t.2 ∙ now _))
        (λ t. sets _ (omega arith) (ap (λ (z : CoreValue). party z p) t.2 ∙ now _)) d.5
    go (SwapTail from to) d = ⊎_elim (λ t. sets _ (omega arith) (ap (λ (z : CoreValue). party z p) t.2 ∙ now _))
        (λ t. sets _ (omega arith) (ap (λ (z : CoreValue). party z p) t.2 ∙ now _)) d.2
    go Note d = sets (party core p) (omega arith) (ap (λ (z : CoreValue). party z p) d.1)
    go (Join note) d = sets _ (omega arith) (ap (λ (z : CoreValue). party z p) d.2 ∙ now _)

module _ (laws : CoreLaws) (step : Step) (core next : CoreValue) (words : List ℕ) (views : List SeatView)
    (seat : ℕ) (view : PassView) (gave : Seen) (s : IsSound core) (are : AreTerms core.terms)
    (shows : Shows core words views) (at : get_elem? views seat ≡ some (Pass view))
    (takes : TakesStep core view.author step gave next) where
  abbrev later : PassView
  later = view_after next view step gave

  pub later-begins : Begins view.seen later.seen
  later-begins =
      let own = was laws step core next words views seat view gave s shows at takes in
      let left = leaves laws step core next words views seat view gave s shows at takes in
      let after = follows laws step core next words views seat view gave s shows at takes in
      fronts-begin next.chain.history view.seen later.seen (party core view.author).seen
      (party next view.author).seen
      (front-grows core.chain.history view.seen next.chain.history left.rest (party core view.author).seen own.seen
      left.history)
      after.seen (seen-rises core next view.author step gave takes.party takes.gives)

  pub took : TookStep core.terms view step gave later
  took =
      let own = was laws step core next words views seat view gave s shows at takes in
      let left = leaves laws step core next words views seat view gave s shows at takes in
      let after = follows laws step core next words views seat view gave s shows at takes in record {
        trace = refl;
        author = refl;
        begins = later-begins;
        knows = subst (λ t. KnowsLog t later) left.terms
            (knows-log laws next (sound-after laws step core next words views seat view gave s shows at takes)
            (subst AreTerms (sym left.terms) are) later
            (in-next laws step core next words views seat view gave s shows at takes) after.seen refl);
        had = own.had;
        met = own.met;
      }
