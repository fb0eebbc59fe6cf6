-- Seats that are split and joined: dates, copies, new passes and meetings.
use Rattle.std.proofs.Common.{◌≡◌, ◌≢◌, ◌⊎◌, ℕ, zero, suc, ◌+◌, ◌<◌, ◌≤◌, max, cond, eqb, List, [], ◌∷◌, ◌++◌, length, set, sym, refl, ap, ◌∙◌, subst, ⊎_elim, inl, inr, arith, length-set, eq-eqb, ne_eqb, get_or-set_same}
use mathlib.Core.Logic.{dite}
use mathlib.Core.Option.{some, some-injective, some-ne-none}
use native.Mathlib.Decide.{ℕ_discrete}
use lib.ListN.{get_elem?}
use Rattle.atomic_table.proofs.Lists.{at_set, at_snoc, set_else, at_longer, at_last}
use Rattle.cubit_base.specs.declared.delta.Delta.{Delta}
use Rattle.log_core.specs.declared.party.Party.{Party}
use Rattle.log_core.specs.declared.step.Step.TheVariants.{Note, Join}
use Rattle.log_core.specs.declared.step.Seen.TheVariants.{Done}
use Rattle.log_core.specs.Terms.{first_node}
use Rattle.log_core.specs.Chain.{delta_count}
use Rattle.log_core.specs.Core.{CoreValue, newcomer, party, with_party, IsSound}
use Rattle.log_core.specs.Steps.{sees, TakesStep}
use Rattle.commit_log.specs.Handle.{Begins}
use Rattle.shared_log.specs.Fronts.{IsFront, longer}
use Rattle.shared_log.specs.Shown.{ShowsPass, ShowsSeat, IsIdle, Shows, new_view, view_after}
use Rattle.shared_log.specs.Steps.{DateLaw, view_met, MeetLaw, CopyLaw, PassLaw}
use Rattle.shared_log.specs.declared.views.PassView.{PassView}
use Rattle.shared_log.specs.declared.views.SeatView.{SeatView}
use Rattle.shared_log.specs.declared.views.SeatView.TheVariants.{Pass, Date, Opening, Spent}
use Rattle.shared_log.specs.CoreLaws.{CoreLaws}
use Rattle.shared_log.proofs.Prefixes.{begins-none, longer-front, longer-begins, longer-met, one-front, front-take, front-length}
use Rattle.shared_log.proofs.Others.{leaves-party}
use Rattle.shared_log.proofs.Moves.{Follows, moves}
use Rattle.shared_log.proofs.Known.{own, in-core}
use Rattle.shared_log.proofs.Law.{step-law, stored-after}

-- one more seat that is no pass
pub adds : (core : CoreValue) (words : List ℕ) (views : List SeatView) (u : SeatView) →
    (s : Shows core words views) → ((seat : ℕ) → ShowsSeat core s.given s.seats seat u) →
    Shows core words (views ++ u ∷ [])
adds core words views u s fits = record {
  given = s.given;
  seats = s.seats;
  words_are = s.words_are;
  within = s.within;
  each = λ j v e. ⊎_elim (s.each j v)
      (λ (same : u ≡ v). subst (ShowsSeat core s.given s.seats j) same (fits j))
      (at_snoc views u v j e);
  has = λ a lt. let t = s.has a lt in (t.0, at_longer views (u ∷ []) (s.seats a) (Pass t.0) t.1, t.2);
  idle = s.idle;
}

pass-no-date : (v : PassView) (f : List Delta) → Pass v ≡ Date f → ⊥
pass-no-date v f e = cc

pass-no-opening : (v : PassView) (n : ℕ) → Pass v ≡ Opening n → ⊥
pass-no-opening v n e = cc

-- a date that is spent
spends : (core : CoreValue) (words : List ℕ) (views : List SeatView) (seat : ℕ) (f : List Delta) →
    Shows core words views → get_elem? views seat ≡ some (Date f) → Shows core words (set views seat Spent)
spends core words views seat f s at = record {
  given = s.given;
  seats = s.seats;
  words_are = s.words_are;
  within = s.within;
  each = λ j v e. ⊎_elim
      (λ (t : (j ≡ seat) × (Spent ≡ v)). subst (ShowsSeat core s.given s.seats j) t.1 tt)
      (λ (t : (j ≢ seat) × (get_elem? views j ≡ some v)). s.each j v t.1) (at_set views seat j Spent v e);
  has = λ a lt. let t = s.has a lt in (
    t.0,
    set_else views seat (s.seats a) Spent
        (λ e. pass-no-date t.0 f (some-injective (Pass t.0) (Date f) (sym t.1 ∙ ap (get_elem? views) e ∙ at))) ∙ t.1,
    t.2,
  );
  idle = s.idle;
}

pub date-law : CoreLaws → DateLaw
date-law laws core next words views seat view gave s shows at takes =
    let p : ℕ = view.author in
    let law = step-law laws Note core next words views seat view gave s shows at takes in
    let seen = (own core words views seat view s shows at).seen in
    let noted : next.noted ≡ max core.noted (party core p).seen =
    ap (λ (z : CoreValue). z.noted) takes.gives.1 in
    let front : IsFront next.chain.history view.seen (party core p).seen =
    subst (λ (z : CoreValue). IsFront z.chain.history view.seen (party core p).seen) (sym takes.gives.1) seen in (
      law.0,
      adds next next.words (set views seat (Pass (view_after next view Note gave))) (Date view.seen) law.1
          (λ j. ((party core p).seen, omega arith, front)),
    )

pub copy-law : CopyLaw
copy-law core words views seat f shows at = adds core words views (Date f) shows (λ j. shows.each seat (Date f) at)

module _ (laws : CoreLaws) (core : CoreValue) (words : List ℕ) (views : List SeatView) (seat other : ℕ)
    (view : PassView) (f : List Delta) (s : IsSound core) (shows : Shows core words views)
    (at : get_elem? views seat ≡ some (Pass view)) (there : get_elem? views other ≡ some (Date f)) where
  abbrev p : ℕ
  p = view.author

  abbrev date : (n : ℕ) × (n ≤ core.noted) × IsFront core.chain.history f n
  date = shows.each other (Date f) there

  abbrev count : ℕ
  count = delta_count f

  f-front : IsFront core.chain.history f count
  f-front = record { begins = date.2.begins; count = refl }

  seen-front : IsFront core.chain.history view.seen (party core p).seen
  seen-front = (own core words views seat view s shows at).seen

  abbrev pub joined : CoreValue
  joined = with_party core p (sees (party core p) count)

  inp : p < length core.parties
  inp = in-core core words views seat view s shows at

  now : party joined p ≡ sees (party core p) count
  now = get_or-set_same core.parties p (sees (party core p) count) newcomer inp

  pub takes-join : TakesStep core p (Join count) Done joined
  takes-join = record {
    party = inp;
    gives = (let a = date.1 in let b = date.2.count in omega arith, refl, refl);
  }

  pub sound-joined : IsSound joined
  sound-joined = laws.sound core joined p (Join count) Done s takes-join

  abbrev met : PassView
  met = view_met joined view f

  longer-is : IsFront core.chain.history (longer view.seen f) (max (party core p).seen count)
  longer-is = longer-front core.chain.history view.seen f (party core p).seen count seen-front f-front

  pub met-seen : met.seen ≡ longer view.seen f
  met-seen =
      let a = ap (λ (x : Party). x.seen) now in
      one-front core.chain.history met.seen (longer view.seen f) (max (party core p).seen count)
      (subst (λ n. IsFront core.chain.history met.seen n) a
      (front-take core.chain.history (party joined p).seen
      (let b = front-length core.chain.history (longer view.seen f) (max (party core p).seen count) longer-is in
      omega arith)))
      longer-is

  follows : Follows core.terms joined view met
  follows = record {
    author = refl;
    seen = subst (λ (g : List Delta). IsFront core.chain.history g (party joined p).seen) (sym met-seen)
        (subst (λ n. IsFront core.chain.history (longer view.seen f) n) (sym (ap (λ (x : Party). x.seen) now))
        longer-is);
    reached = refl;
    last = refl;
    used = refl;
    had = subst (λ (g : List Delta). Begins view.seen g) (sym met-seen)
        (longer-begins core.chain.history view.seen f (party core p).seen count seen-front f-front);
    met = subst (λ (g : List Delta). Begins f g) (sym met-seen)
        (longer-met core.chain.history view.seen f (party core p).seen count seen-front f-front);
    drafts = λ i w lt small. (own core words views seat view s shows at).drafts i w lt small
        ∙ sym (stored-after view.trace (record { step = Join count; gave = Done }) (first_node core.terms p + i) w);
  }

  pub shows-joined : Shows joined joined.words (set (set views seat (Pass met)) other Spent)
  shows-joined =
      spends joined joined.words (set views seat (Pass met)) other f
      (moves core joined words views seat view met shows at (leaves-party core p (sees (party core p) count)) follows)
      (set_else views seat other (Pass met)
      (λ e. pass-no-date view f (some-injective (Pass view) (Date f)
      (sym at ∙ ap (get_elem? views) (sym e) ∙ there))) ∙ there)

pub meet-law : CoreLaws → MeetLaw
meet-law laws core words views seat other view f s shows at there = (
  joined laws core words views seat other view f s shows at there,
  takes-join laws core words views seat other view f s shows at there,
  sound-joined laws core words views seat other view f s shows at there,
  met-seen laws core words views seat other view f s shows at there,
  shows-joined laws core words views seat other view f s shows at there,
)

at_end : {A : Type 0} (l : List A) (a b : A) (j : ℕ) → get_elem? (l ++ a ∷ []) j ≡ some b →
    (get_elem? l j ≡ some b) ⊎ ((j ≡ length l) × (a ≡ b))
at_end [] a b zero e = inr (refl, some-injective a b e)
at_end [] a b (suc j) e = absurd (some-ne-none b (sym e))
at_end (x ∷ xs) a b zero e = inl e
at_end (x ∷ xs) a b (suc j) e = ⊎_elim inl (λ t. inr (ap suc t.0, t.1)) (at_end xs a b j e)

still-shows : (core : CoreValue) (n seat : ℕ) (seats now : ℕ → ℕ) → ((a : ℕ) → a ≢ n → now a ≡ seats a) → seat ≡ 0 →
    (j : ℕ) (u : SeatView) → j ≢ seat → ShowsSeat core n seats j u → ShowsSeat core (n + 1) now j u
still-shows core n seat seats now old first j (Pass v) ne f = record {
  author = let a = f.author in omega arith;
  seat_is = old v.author (λ e. let a = f.author in omega arith) ∙ f.seat_is;
  seen = f.seen;
  reached = f.reached;
  last = f.last;
  used = f.used;
  had = f.had;
  met = f.met;
  drafts = f.drafts;
}
still-shows core n seat seats now old first j (Date h) ne f = f
still-shows core n seat seats now old first j (Opening k) ne f = absurd (ne (f.0 ∙ sym first))
still-shows core n seat seats now old first j Spent ne f = tt

module _ (core : CoreValue) (words : List ℕ) (views : List SeatView) (seat n : ℕ) (shows : Shows core words views)
    (at : get_elem? views seat ≡ some (Opening n)) (room : n < length core.terms.shares) where
  abbrev opened : List SeatView
  opened = set views seat (Opening (n + 1))

  is : (seat ≡ 0) × (n ≡ shows.given)
  is = shows.each seat (Opening n) at

  abbrev seats : ℕ → ℕ
  seats = λ a. cond (eqb a n) (length views) (shows.seats a)

  old : (a : ℕ) → a ≢ n → seats a ≡ shows.seats a
  old a ne = ap (λ b. cond b (length views) (shows.seats a)) (ne_eqb a n ne)

  here : seats n ≡ length views
  here = ap (λ b. cond b (length views) (shows.seats n)) (eq-eqb n n refl)

  idle : IsIdle core n
  idle = let e = is.1 in shows.idle n (omega arith) room

  new-shows : ShowsPass core (n + 1) seats (length views) (new_view n)
  new-shows = record {
    author = omega arith;
    seat_is = here;
    seen = record { begins = begins-none core.chain.history; count = sym idle.seen };
    reached = sym idle.reached;
    last = sym idle.last;
    used = sym idle.used;
    had = begins-none [];
    met = begins-none [];
    drafts = idle.blank;
  }

  each-shows : (j : ℕ) (u : SeatView) → get_elem? (opened ++ Pass (new_view n) ∷ []) j ≡ some u →
      ShowsSeat core (n + 1) seats j u
  each-shows j u e = ⊎_elim
      (λ (t : get_elem? opened j ≡ some u). ⊎_elim
      (λ (y : (j ≡ seat) × (Opening (n + 1) ≡ u)). subst (ShowsSeat core (n + 1) seats j) y.1 (y.0 ∙ is.0, refl))
      (λ (y : (j ≢ seat) × (get_elem? views j ≡ some u)).
      still-shows core n seat shows.seats seats old is.0 j u y.0
      (subst (λ k. ShowsSeat core k shows.seats j u) (sym is.1) (shows.each j u y.1)))
      (at_set views seat j (Opening (n + 1)) u t))
      (λ (t : (j ≡ length opened) × (Pass (new_view n) ≡ u)).
      subst (λ (y : ℕ × SeatView). ShowsSeat core (n + 1) seats y.0 y.1)
      (λ i. (sym (t.0 ∙ length-set views seat (Opening (n + 1))) i, t.1 i)) new-shows)
      (at_end opened (Pass (new_view n)) u j e)

  has-pass : (a : ℕ) → a < n + 1 →
      (v : PassView) × (get_elem? (opened ++ Pass (new_view n) ∷ []) (seats a) ≡ some (Pass v)) × (v.author ≡ a)
  has-pass a lt = dite (ℕ_discrete a n)
      (λ e. (
        new_view n,
        ap (get_elem? (opened ++ Pass (new_view n) ∷ [])) (ap seats e ∙ here)
            ∙ at_last opened (Pass (new_view n)) (length views) (length-set views seat (Opening (n + 1))),
        sym e,
      ))
      (λ ne. let g = is.1 in let t = shows.has a (omega arith) in (
        t.0,
        ap (get_elem? (opened ++ Pass (new_view n) ∷ [])) (old a ne)
            ∙ at_longer opened (Pass (new_view n) ∷ []) (shows.seats a) (Pass t.0)
            (set_else views seat (shows.seats a) (Opening (n + 1))
            (λ e. pass-no-opening t.0 n (some-injective (Pass t.0) (Opening n)
            (sym t.1 ∙ ap (get_elem? views) e ∙ at))) ∙ t.1),
        t.2,
      ))

  pub gives : Shows core words (opened ++ Pass (new_view n) ∷ [])
  gives = record {
    given = n + 1;
    seats = seats;
    words_are = shows.words_are;
    within = omega arith;
    each = each-shows;
    has = has-pass;
    idle = λ a ge ina. let g = is.1 in shows.idle a (omega arith) ina;
  }

pub pass-law : PassLaw
pass-law core words views seat n shows at room = gives core words views seat n shows at room
