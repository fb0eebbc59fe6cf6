-- Where one pass takes a step and the others stay, the words and the views after it show the core after it.
use Rattle.std.proofs.Common.{◌≡◌, ◌≢◌, ℕ, zero, suc, ◌+◌, ◌<◌, ◌≤◌, List, [], ◌∷◌, length, set, sym, refl, ap, ◌∙◌, subst, ⊎_elim, arith}
use mathlib.Core.Logic.{dite}
use mathlib.Core.Option.{some, some-injective, some-ne-none}
use native.Mathlib.Decide.{ℕ_discrete}
use lib.ListN.{get_elem?}
use Rattle.atomic_table.proofs.Lists.{at_set, set_else, set_here}
use Rattle.log_core.specs.declared.party.Party.{Party}
use Rattle.log_core.specs.Terms.{CoreTerms, share, first_node}
use Rattle.log_core.specs.Chain.{payload}
use Rattle.log_core.specs.Core.{CoreValue, party}
use Rattle.commit_log.specs.Handle.{Begins}
use Rattle.shared_log.specs.Fronts.{IsFront}
use Rattle.shared_log.specs.Shown.{ShowsPass, ShowsSeat, IsIdle, Shows, stored}
use Rattle.shared_log.specs.declared.views.PassView.{PassView}
use Rattle.shared_log.specs.declared.views.SeatView.{SeatView}
use Rattle.shared_log.specs.declared.views.SeatView.TheVariants.{Pass, Date, Opening, Spent}
use Rattle.shared_log.proofs.Prefixes.{front-grows}
use Rattle.shared_log.proofs.Others.{LeavesOthers}

abbrev pass_or : PassView → SeatView → PassView
pass_or other (Pass view) = view
pass_or other _ = other

pub one-pass : (a b : PassView) → Pass a ≡ Pass b → a ≡ b
one-pass a b e = ap (pass_or a) e

pub within : {A : Type 0} (l : List A) (i : ℕ) (a : A) → get_elem? l i ≡ some a → i < length l
within [] i a e = absurd (some-ne-none a (sym e))
within (x ∷ xs) zero a e = omega arith
within (x ∷ xs) (suc i) a e = let r = within xs i a e in omega arith

-- the core with the terms of another
abbrev pub on_terms : CoreTerms → CoreValue → CoreValue
on_terms terms core = record core { terms = terms }

pub same-terms : (terms : CoreTerms) (core : CoreValue) → core.terms ≡ terms → on_terms terms core ≡ core
same-terms terms core e = λ i. on_terms (sym e i) core

module _ (core next : CoreValue) (p given : ℕ) (seats : ℕ → ℕ) (le : given ≤ length core.terms.shares)
    (leaves : LeavesOthers p core next) where
  others-show : (seat : ℕ) (view : SeatView) → ((v : PassView) → view ≡ Pass v → v.author ≢ p) →
      ShowsSeat core given seats seat view → ShowsSeat (on_terms core.terms next) given seats seat view
  others-show seat (Pass v) other f =
      let ne = other v refl in let same = sym (leaves.parties v.author ne) in record {
        author = f.author;
        seat_is = f.seat_is;
        seen = subst (λ (x : Party). IsFront next.chain.history v.seen x.seen) same
            (front-grows core.chain.history v.seen next.chain.history leaves.rest (party core v.author).seen f.seen
            leaves.history);
        reached = f.reached ∙ ap (λ (x : Party). x.reached) same;
        last = f.last ∙ ap (λ (x : Party). x.last) same;
        used = f.used ∙ ap (λ (x : Party). x.used) same;
        had = f.had;
        met = f.met;
        drafts = λ i w lt small. let a = f.author in
            leaves.payloads v.author i w ne (omega arith) lt small ∙ f.drafts i w lt small;
      }
  others-show seat (Date prefix) other f = let a = f.1 in let b = leaves.noted in (
    f.0,
    omega arith,
    front-grows core.chain.history prefix next.chain.history leaves.rest f.0 f.2 leaves.history,
  )
  others-show seat (Opening n) other f = f
  others-show seat Spent other f = tt

  idle-stays : (q : ℕ) → q ≢ p → q < length core.terms.shares → IsIdle core q →
      IsIdle (on_terms core.terms next) q
  idle-stays q ne inq f = let still = leaves.parties q ne in record {
    seen = ap (λ (x : Party). x.seen) still ∙ f.seen;
    reached = ap (λ (x : Party). x.reached) still ∙ f.reached;
    last = ap (λ (x : Party). x.last) still ∙ f.last;
    used = ap (λ (x : Party). x.used) still ∙ f.used;
    blank = λ i w lt small. leaves.payloads q i w ne inq lt small ∙ f.blank i w lt small;
  }

-- what the pass knows after the step, of the core after it
pub record Follows (terms : CoreTerms) (next : CoreValue) (view later : PassView) : Type 0 where
  pub author : later.author ≡ view.author
  pub seen : IsFront next.chain.history later.seen (party next view.author).seen
  pub reached : later.reached ≡ (party next view.author).reached
  pub last : later.last ≡ (party next view.author).last
  pub used : later.used ≡ (party next view.author).used
  pub had : Begins later.had later.seen
  pub met : Begins later.met later.seen
  pub drafts : (i w : ℕ) → i < share terms view.author → w < 4 →
      payload next.words (first_node terms view.author + i) w
      ≡ stored later.trace (first_node terms view.author + i) w

module _ (core next : CoreValue) (words : List ℕ) (views : List SeatView) (seat : ℕ) (view later : PassView)
    (shows : Shows core words views) (at : get_elem? views seat ≡ some (Pass view))
    (leaves : LeavesOthers view.author core next) (follows : Follows core.terms next view later) where
  abbrev was : ShowsPass core shows.given shows.seats seat view
  was = shows.each seat (Pass view) at

  own-shows : ShowsPass (on_terms core.terms next) shows.given shows.seats seat later
  own-shows = let same = sym follows.author in record {
    author = let a = was.author in let b = follows.author in omega arith;
    seat_is = ap shows.seats follows.author ∙ was.seat_is;
    seen = subst (λ a. IsFront next.chain.history later.seen (party next a).seen) same follows.seen;
    reached = follows.reached ∙ ap (λ a. (party next a).reached) same;
    last = follows.last ∙ ap (λ a. (party next a).last) same;
    used = follows.used ∙ ap (λ a. (party next a).used) same;
    had = follows.had;
    met = follows.met;
    drafts = subst (λ a. (i w : ℕ) → i < share core.terms a → w < 4 →
        payload next.words (first_node core.terms a + i) w ≡ stored later.trace (first_node core.terms a + i) w)
        same follows.drafts;
  }

  -- another seat is no pass of the same author
  other-author : (j : ℕ) (u : SeatView) → j ≢ seat → get_elem? views j ≡ some u → (v : PassView) → u ≡ Pass v →
      v.author ≢ view.author
  other-author j u ne there v is own =
      let f : ShowsPass core shows.given shows.seats j v =
      subst (ShowsSeat core shows.given shows.seats j) is (shows.each j u there) in
      ne (sym f.seat_is ∙ ap shows.seats own ∙ was.seat_is)

  each-shows : (j : ℕ) (u : SeatView) → get_elem? (set views seat (Pass later)) j ≡ some u →
      ShowsSeat (on_terms core.terms next) shows.given shows.seats j u
  each-shows j u e = ⊎_elim
      (λ (t : (j ≡ seat) × (Pass later ≡ u)).
      subst (λ (y : ℕ × SeatView). ShowsSeat (on_terms core.terms next) shows.given shows.seats y.0 y.1)
      (λ i. (sym t.0 i, t.1 i)) own-shows)
      (λ (t : (j ≢ seat) × (get_elem? views j ≡ some u)).
      others-show core next view.author shows.given shows.seats shows.within leaves j u
      (other-author j u t.0 t.1) (shows.each j u t.1))
      (at_set views seat j (Pass later) u e)

  has-pass : (author : ℕ) → author < shows.given →
      (v : PassView) × (get_elem? (set views seat (Pass later)) (shows.seats author) ≡ some (Pass v))
      × (v.author ≡ author)
  has-pass author lt = let t = shows.has author lt in dite (ℕ_discrete (shows.seats author) seat)
      (λ e.
      let one : t.0 ≡ view =
      one-pass t.0 view (some-injective (Pass t.0) (Pass view) (sym t.1 ∙ ap (get_elem? views) e ∙ at)) in (
        later,
        ap (get_elem? (set views seat (Pass later))) e
            ∙ set_here views seat (Pass later) (within views seat (Pass view) at),
        follows.author ∙ sym (ap (λ (y : PassView). y.author) one) ∙ t.2,
      ))
      (λ ne. (t.0, set_else views seat (shows.seats author) (Pass later) ne ∙ t.1, t.2))

  pub moves : Shows next next.words (set views seat (Pass later))
  moves = subst (λ z. Shows z next.words (set views seat (Pass later))) (same-terms core.terms next leaves.terms)
      record {
        given = shows.given;
        seats = shows.seats;
        words_are = refl;
        within = shows.within;
        each = each-shows;
        has = has-pass;
        idle = λ q ge inq. idle-stays core next view.author shows.given shows.seats shows.within leaves q
            (λ e. let a = was.author in omega arith) inq (shows.idle q ge inq);
      }
