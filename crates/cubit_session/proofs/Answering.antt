-- Replies that answer their commands.
use Rattle.std.proofs.Common.{◌≡◌, ℕ, ◌≤◌, List, [], ◌∷◌, ◌++◌, length, slice_get, Some, sym, refl, ap, ◌∙◌, subst, arith, length-append, get_or}
use Rattle.std.proofs.lemmas.List.{get_or_append_left, get_or_push, take_all}
use Rattle.std.proofs.lemmas.Option.{slice_get_within, slice_get-get_or, get_or_from_slice_get}
use Rattle.cubit_base.specs.Change.{Change, Outcome, outcome}
use Rattle.cubit_base.specs.Change as changes
use Rattle.cubit_base.specs.History.{after}
use Rattle.cubit_base.specs.declared.delta.Delta.{Delta}
use Rattle.commit_log.specs.Growing.{begins-length, take-begins}
use Rattle.commit_log.specs.Log.{Terms}
use Rattle.commit_log.specs.Handle.{Handle, Begins, with_look}
use Rattle.table_ops.specs.declared.outcome.Placed.{Placed}
use Rattle.table_ops.specs.declared.outcome.OpStop.{OpStop}
use Rattle.table_ops.specs.Changed.{IsPlaced, IsStopped, stop_front, stop_outcome, outcome_after}
use Rattle.cubit_session.specs.Run.{Setting, Stands, Tells, outcome_at}
use Rattle.cubit_session.specs.Step.{setting_of}

get-begins : (log longer : List Delta) (place : ℕ) (d : Delta) → Begins log longer → slice_get log place ≡ Some d →
    slice_get longer place ≡ Some d
get-begins log longer place d begins is =
    let within = slice_get_within log place d is in
    let long = begins-length log longer begins in
    slice_get-get_or longer place d (omega (arith, within, long))
    ∙ ap (λ (l : List Delta). Some (get_or l place d)) begins.1
    ∙ ap Some (get_or_append_left log begins.0 d place within ∙ get_or_from_slice_get log place d d is)

-- what comes to something behind some deltas of a journal does so in a longer one
outcome-later : (s : Setting) (log longer : List Delta) (author : ℕ) (change : Change) (front : ℕ) →
    Begins log longer → front ≤ length log →
    outcome_at s longer author change front ≡ outcome_at s log author change front
outcome-later s log longer author change front begins within =
    ap (λ (l : List Delta). outcome s.row_limit s.log_limit (after s.base l) front author change)
    (take-begins log longer front begins within)

stands-within : (log : List Delta) (front : ℕ) (o : Outcome) → Stands log front o → front ≤ length log
stands-within log front (changes.Placed d) is = let within = slice_get_within log front d is in omega (arith, within)
stands-within log front (changes.Duplicate row) is = is
stands-within log front changes.Missing is = is
stands-within log front changes.TableFull is = is
stands-within log front changes.LogFull is = is

stands-later : (log longer : List Delta) (front : ℕ) (o : Outcome) → Begins log longer → Stands log front o →
    Stands longer front o
stands-later log longer front (changes.Placed d) begins is = get-begins log longer front d begins is
stands-later log longer front (changes.Duplicate row) begins is =
    let long = begins-length log longer begins in omega (arith, is, long)
stands-later log longer front changes.Missing begins is =
    let long = begins-length log longer begins in omega (arith, is, long)
stands-later log longer front changes.TableFull begins is =
    let long = begins-length log longer begins in omega (arith, is, long)
stands-later log longer front changes.LogFull begins is =
    let long = begins-length log longer begins in omega (arith, is, long)

pub tells-later : {A : Type 0} (s : Setting) (log longer : List Delta) (author : ℕ) (change : Change)
    (tell : ℕ → Outcome → A) (told : A) → Begins log longer → Tells s log author change tell told →
    Tells s longer author change tell told
tells-later s log longer author change tell told begins (front, stands, is) =
    let within = stands-within log front (outcome_at s log author change front) stands in
    let same = outcome-later s log longer author change front begins within in (
      front,
      subst (Stands longer front) (sym same)
          (stands-later log longer front (outcome_at s log author change front) begins stands),
      ap (tell front) same ∙ is,
    )

-- behind all that was read
at-whole : (terms : Terms) (pages : ℕ) (seen : List Delta) (author : ℕ) (change : Change) (front : ℕ) →
    front ≡ length seen →
    outcome_at (setting_of terms pages) seen author change front ≡ outcome_after terms seen author change
at-whole terms pages seen author change front is =
    ap (outcome_at (setting_of terms pages) seen author change) is
    ∙ ap (λ (l : List Delta). outcome terms.limits.row_limit terms.limits.log_limit (after terms.base l)
    (length seen) author change) (take_all (length seen) seen (omega arith))

-- a change that was made stands where its reply says
pub tells-placed : {A : Type 0} (terms : Terms) (pages : ℕ) (a b : Handle) (change : Change) (placed : Placed)
    (tell : ℕ → Outcome → A) (told : A) → IsPlaced terms (with_look a) change b placed →
    ((d : Delta) → placed.row ≡ d.row → tell placed.place (changes.Placed d) ≡ told) →
    Tells (setting_of terms pages) b.seen a.author change tell told
tells-placed terms pages a b change placed tell told is tells =
    let read = is.read.seen in
    let seen = ap (λ (h : Handle). h.seen) is.appended.is in
    let longer = length-append read (is.delta ∷ []) in
    let within : placed.place ≤ length read = omega (arith, is.place) in
    let comes : outcome_at (setting_of terms pages) b.seen a.author change placed.place ≡ changes.Placed is.delta =
    outcome-later (setting_of terms pages) read b.seen a.author change placed.place (is.delta ∷ [], seen) within
    ∙ at-whole terms pages read a.author change placed.place is.place ∙ is.outcome_is in
    let stands : slice_get b.seen placed.place ≡ Some is.delta =
    ap (slice_get b.seen) is.place ∙ ap (λ (l : List Delta). slice_get l (length read)) seen
    ∙ slice_get-get_or (read ++ is.delta ∷ []) (length read) is.delta (omega (arith, longer))
    ∙ ap Some (get_or_push read is.delta is.delta (length read) refl) in (
      placed.place,
      subst (Stands b.seen placed.place) (sym comes) stands,
      ap (tell placed.place) comes ∙ tells is.delta is.row,
    )

-- a change that was stopped is refused at the front of its stop
pub tells-stopped : {A : Type 0} (terms : Terms) (pages : ℕ) (a b : Handle) (change : Change) (stopped : OpStop)
    (tell : ℕ → Outcome → A) (told : A) → IsStopped terms (with_look a) change b stopped →
    Stands b.seen (stop_front stopped).len (stop_outcome stopped) →
    tell (stop_front stopped).len (stop_outcome stopped) ≡ told →
    Tells (setting_of terms pages) b.seen a.author change tell told
tells-stopped terms pages a b change stopped tell told is stands tells =
    let comes = at-whole terms pages b.seen a.author change (stop_front stopped).len is.whole.whole
    ∙ is.outcome_is in (
      (stop_front stopped).len,
      subst (Stands b.seen (stop_front stopped).len) (sym comes) stands,
      ap (tell (stop_front stopped).len) comes ∙ tells,
    )
