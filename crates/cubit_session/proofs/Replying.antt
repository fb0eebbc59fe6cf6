-- What each reply tells.
use Rattle.std.proofs.Common.{Bool, true, false, ◌≡◌, ℕ, ◌+◌, List, [], ◌∷◌, length, take, map, flat_map, Ok, Err, Option, Some, None, sym, refl, ap, ◌∙◌, subst, arith}
use Rattle.std.proofs.lemmas.List.{take_all}
use Rattle.std.proofs.lemmas.Option.{none-some}
use Rattle.std.specs.Option.{unwrap_or}
use Rattle.cubit_base.specs.Key.{KeyValue}
use Rattle.cubit_base.specs.LiveRow.{live_row}
use Rattle.cubit_base.specs.History.{after}
use Rattle.cubit_base.specs.Answer.{Answer, answer}
use Rattle.cubit_base.specs.Change.{Change}
use Rattle.cubit_base.specs.Change as changes
use Rattle.cubit_base.specs.Tuple.{TupleValue}
use Rattle.cubit_base.specs.declared.delta.Delta.{Delta}
use Rattle.cubit_base.specs.declared.command.Command.{Command}
use Rattle.cubit_base.specs.declared.predicate.Predicate.{Predicate}
use Rattle.cubit_base.specs.declared.command.Command.TheVariants.{Insert, Update, Delete, DropOrder, Lookup, Rows, Count, Sum, Q6, Merge}
use Rattle.commit_log.specs.Log.{Terms}
use Rattle.commit_log.specs.Handle.{Handle, Grows}
use Rattle.commit_log.specs.declared.front.Front.{Front}
use Rattle.table_ops.specs.declared.outcome.OpStop.TheVariants as stop
use Rattle.selection.specs.Answered.{IsAnswered}
use Rattle.query_report.specs.declared.reply.DropLine.{DropLine}
use Rattle.query_report.specs.declared.reply.DropLine.TheVariants as line
use Rattle.query_report.specs.declared.reply.Reply.{Reply}
use Rattle.query_report.specs.declared.reply.Reply.TheVariants as reply
use Rattle.cubit_session.specs.Run.{Answers, Tells, TellsLines, TellsAnswer, outcome_reply, outcome_line, live_reply, mark_at, line_mark, line_places, marks_of, places_of, table_at}
use Rattle.cubit_session.specs.Step.{Told, RepliesToChange, DropsLine, Drops, LooksUp, Reads, Replies, AddsTo, found_reply, setting_of}
use Rattle.cubit_session.proofs.Adding.{adds-on, adds-none, adds-front, adds-nothing, adds-placed, adds-stopped, reads-grow}
use Rattle.cubit_session.proofs.Answering.{tells-placed, tells-stopped, tells-later}

-- changes
pub answers-change : (terms : Terms) (pages : ℕ) (change : Change) (before now : Told) (told : Reply) →
    RepliesToChange terms change before now told →
    Tells (setting_of terms pages) now.log.seen before.log.author change outcome_reply told
answers-change terms pages change before now told (Ok placed, is, made) =
    tells-placed terms pages before.log now.log change placed outcome_reply told made.changed
    (λ d row. ap (reply.Placed placed.place) (sym row) ∙ sym is)
answers-change terms pages change before now told (Err (stop.Duplicate front row), is, made) =
    tells-stopped terms pages before.log now.log change (stop.Duplicate front row) outcome_reply told made.changed
    (omega (arith, made.changed.whole.whole)) (sym is)
answers-change terms pages change before now told (Err (stop.Missing front), is, made) =
    tells-stopped terms pages before.log now.log change (stop.Missing front) outcome_reply told made.changed
    (omega (arith, made.changed.whole.whole)) (sym is)
answers-change terms pages change before now told (Err (stop.TableFull front), is, made) =
    tells-stopped terms pages before.log now.log change (stop.TableFull front) outcome_reply told made.changed
    (omega (arith, made.changed.whole.whole)) (sym is)
answers-change terms pages change before now told (Err (stop.LogFull front), is, made) =
    tells-stopped terms pages before.log now.log change (stop.LogFull front) outcome_reply told made.changed
    (omega (arith, made.changed.whole.whole)) (sym is)

-- the part of a reply
abbrev pub Adds : Told → Told → Reply → Type 0
Adds before now told = AddsTo before.log now.log (marks_of told) (places_of told)

pub adds-change : (terms : Terms) (change : Change) (before now : Told) (told : Reply) →
    RepliesToChange terms change before now told → Adds before now told
adds-change terms change before now told (Ok placed, is, made) =
    subst (Adds before now) (sym is) (adds-placed terms before.log now.log change placed made.changed)
adds-change terms change before now told (Err (stop.Duplicate front row), is, made) =
    subst (Adds before now) (sym is)
    (adds-stopped terms before.log now.log change (stop.Duplicate front row) made.changed)
adds-change terms change before now told (Err (stop.Missing front), is, made) =
    subst (Adds before now) (sym is)
    (adds-stopped terms before.log now.log change (stop.Missing front) made.changed)
adds-change terms change before now told (Err (stop.TableFull front), is, made) =
    subst (Adds before now) (sym is)
    (adds-stopped terms before.log now.log change (stop.TableFull front) made.changed)
adds-change terms change before now told (Err (stop.LogFull front), is, made) =
    subst (Adds before now) (sym is)
    (adds-stopped terms before.log now.log change (stop.LogFull front) made.changed)

-- lines of an order
some-same : (a b : DropLine) → Some a ≡ Some b → a ≡ b
some-same a b is = ap (λ o. unwrap_or o b) is

abbrev pub line_key : ℕ → ℕ → KeyValue
line_key order number = record { order = order; line = number }

answers-line : (terms : Terms) (pages order number : ℕ) (before now : Told) (told : DropLine) →
    DropsLine terms order number before now told →
    Tells (setting_of terms pages) now.log.seen before.log.author (changes.Delete (line_key order number))
    outcome_line (Some told)
answers-line terms pages order number before now told (Ok placed, is, made) =
    tells-placed terms pages before.log now.log (changes.Delete (line_key order number)) placed outcome_line (Some told)
    made.changed (λ d row. is)
answers-line terms pages order number before now told (Err (stop.Duplicate front row), is, made) =
    absurd (none-some told is)
answers-line terms pages order number before now told (Err (stop.Missing front), is, made) =
    tells-stopped terms pages before.log now.log (changes.Delete (line_key order number)) (stop.Missing front)
    outcome_line (Some told) made.changed (omega (arith, made.changed.whole.whole)) is
answers-line terms pages order number before now told (Err (stop.TableFull front), is, made) =
    absurd (none-some told is)
answers-line terms pages order number before now told (Err (stop.LogFull front), is, made) =
    tells-stopped terms pages before.log now.log (changes.Delete (line_key order number)) (stop.LogFull front)
    outcome_line (Some told) made.changed (omega (arith, made.changed.whole.whole)) is

abbrev pub AddsLine : Told → Told → DropLine → Type 0
AddsLine before now told = AddsTo before.log now.log (line_mark told ∷ []) (line_places told)

adds-line : (terms : Terms) (order number : ℕ) (before now : Told) (told : DropLine) →
    DropsLine terms order number before now told → AddsLine before now told
adds-line terms order number before now told (Ok placed, is, made) =
    subst (AddsLine before now) (some-same (line.Placed placed.place) told is)
    (adds-placed terms before.log now.log (changes.Delete (line_key order number)) placed made.changed)
adds-line terms order number before now told (Err (stop.Duplicate front row), is, made) =
    absurd (none-some told is)
adds-line terms order number before now told (Err (stop.Missing front), is, made) =
    subst (AddsLine before now) (some-same (line.Missing front.len) told is)
    (adds-stopped terms before.log now.log (changes.Delete (line_key order number)) (stop.Missing front)
    made.changed)
adds-line terms order number before now told (Err (stop.TableFull front), is, made) =
    absurd (none-some told is)
adds-line terms order number before now told (Err (stop.LogFull front), is, made) =
    subst (AddsLine before now) (some-same (line.LogFull front.len) told is)
    (adds-stopped terms before.log now.log (changes.Delete (line_key order number)) (stop.LogFull front)
    made.changed)

pub adds-drop : (terms : Terms) (order number : ℕ) (before now : Told) (lines : List DropLine) →
    Drops terms order number before now lines →
    AddsTo before.log now.log (map line_mark lines) (flat_map line_places lines)
adds-drop terms order number before now [] (end, same) =
    subst (λ (t : Told). AddsTo before.log t.log [] []) (sym same) (adds-none before.log)
adds-drop terms order number before now (told ∷ lines) (between, drops, rest) =
    adds-on before.log between.log now.log (line_mark told ∷ []) (map line_mark lines) (line_places told)
    (flat_map line_places lines) (adds-line terms order number before between told drops)
    (adds-drop terms order (number + 1) between now lines rest)

pub answers-drop : (terms : Terms) (pages order number : ℕ) (before now : Told) (lines : List DropLine) →
    Drops terms order number before now lines →
    TellsLines (setting_of terms pages) now.log.seen before.log.author order number lines
answers-drop terms pages order number before now [] (end, same) = end
answers-drop terms pages order number before now (told ∷ lines) (between, drops, rest) =
    let later = adds-drop terms order (number + 1) between now lines rest in
    let first = adds-line terms order number before between told drops in (
      tells-later (setting_of terms pages) between.log.seen now.log.seen before.log.author
          (changes.Delete (line_key order number)) outcome_line (Some told) later.grows.begins
          (answers-line terms pages order number before between told drops),
      subst (λ author. TellsLines (setting_of terms pages) now.log.seen author order (number + 1) lines)
          first.grows.author (answers-drop terms pages order (number + 1) between now lines rest),
    )

-- the table behind all that was seen
at-whole : (terms : Terms) (pages : ℕ) (seen : List Delta) (front : ℕ) → front ≡ length seen →
    table_at (setting_of terms pages) seen front ≡ after terms.base seen
at-whole terms pages seen front is =
    ap (λ (l : List Delta). after terms.base l)
    (ap (λ n. take n seen) is ∙ take_all (length seen) seen (omega arith))

-- look-ups
found-live : (front : Front) (live : Option (ℕ × TupleValue)) → live_reply front.len live ≡ found_reply (front, live)
found-live front None = refl
found-live front (Some (row, tuple)) = refl

answers-found : (terms : Terms) (pages : ℕ) (key : KeyValue) (before now : Told) (told : Reply) →
    LooksUp terms key before now told →
    Answers (setting_of terms pages) now.log.seen before.log.author (Lookup key) told
answers-found terms pages key before now told looks =
    let front = looks.found.0 in
    let whole = looks.is_found.whole.whole in (
      front.len,
      omega (arith, whole),
      ap (λ table. live_reply front.len (live_row table key)) (at-whole terms pages now.log.seen front.len whole)
          ∙ ap (live_reply front.len) looks.is_found.live ∙ found-live front looks.found.1 ∙ sym looks.reply_is,
    )

adds-found : (terms : Terms) (key : KeyValue) (before now : Told) (told : Reply) → LooksUp terms key before now told →
    Adds before now told
adds-found terms key before now told looks =
    by looks.found looks.reply_is looks.is_found.whole.whole where
      grows : Grows before.log now.log
      grows = record { begins = looks.more.begins; author = ap (λ (h : Handle). h.author) looks.more.is }

      by : (found : Front × Option (ℕ × TupleValue)) → told ≡ found_reply found → found.0.len ≡ length now.log.seen →
          Adds before now told
      by (front, None) is whole =
          subst (Adds before now) (sym is) (adds-front before.log now.log front.len grows looks.more.mine whole)
      by (front, Some (row, tuple)) is whole =
          subst (Adds before now) (sym is) (adds-front before.log now.log front.len grows looks.more.mine whole)

-- queries
module _ (terms : Terms) (pages tries : ℕ) (p : Predicate) (sum : Bool) (before now : Told) (front : Front)
    (patched : ℕ) (reads : Reads before now)
    (is : IsAnswered terms p sum tries before.log before.store now.log now.store front patched) where
  pub at : (tell : ℕ → Answer → ℕ → Reply) (told : Reply) →
      tell front.len (answer (after terms.base now.log.seen) p) patched ≡ told →
      TellsAnswer (setting_of terms pages) now.log.seen p tell told
  at tell told tells = (
    front.len,
    patched,
    omega (arith, is.whole.whole),
    omega (arith, is.patched_is),
    ap (λ table. tell front.len (answer table p) patched)
        (at-whole terms pages now.log.seen front.len is.whole.whole) ∙ tells,
  )

  pub adds : AddsTo before.log now.log (mark_at front.len ∷ []) []
  adds = adds-front before.log now.log front.len reads.sees.grows reads.sees.mine is.whole.whole

pub answers-command : (terms : Terms) (tries : ℕ) (command : Command) (before now : Told) (told : Reply) →
    Replies terms tries command before now told →
    Answers (setting_of terms before.store.pages) now.log.seen before.log.author command told
answers-command terms tries (Insert key tuple) before now told is =
    answers-change terms before.store.pages (changes.Insert key tuple) before now told is
answers-command terms tries (Update key tuple) before now told is =
    answers-change terms before.store.pages (changes.Update key tuple) before now told is
answers-command terms tries (Delete key) before now told is =
    answers-change terms before.store.pages (changes.Delete key) before now told is
answers-command terms tries (DropOrder order) before now told (lines, is, drops) =
    (lines, answers-drop terms before.store.pages order 1 before now lines drops, sym is)
answers-command terms tries (Lookup key) before now told is =
    answers-found terms before.store.pages key before now told is
answers-command terms tries (Rows p) before now told (a, is, reads, (list, answered)) =
    at terms before.store.pages tries p false before now a.front a.patched reads answered
    (λ front x patched. reply.Rows front x.rows patched) told
    (ap (λ rows. reply.Rows a.front.len rows a.patched) (sym list) ∙ sym is)
answers-command terms tries (Count p) before now told (a, is, reads, (count, answered)) =
    at terms before.store.pages tries p false before now a.front a.patched reads answered
    (λ front x patched. reply.Count front x.count patched) told
    (ap (λ n. reply.Count a.front.len n a.patched) (sym count) ∙ sym is)
answers-command terms tries (Sum p) before now told (a, is, reads, (count, sum, answered)) =
    at terms before.store.pages tries p true before now a.front a.patched reads answered
    (λ front x patched. reply.Sum front x.count x.sum patched) told
    (ap (λ n. reply.Sum a.front.len n (answer (after terms.base now.log.seen) p).sum a.patched) (sym count)
    ∙ ap (λ n. reply.Sum a.front.len a.count n a.patched) (sym sum) ∙ sym is)
answers-command terms tries (Q6 p) before now told (a, is, reads, (count, sum, answered)) =
    at terms before.store.pages tries p true before now a.front a.patched reads answered
    (λ front x patched. reply.Q6 front x.count x.sum patched) told
    (ap (λ n. reply.Q6 a.front.len n (answer (after terms.base now.log.seen) p).sum a.patched) (sym count)
    ∙ ap (λ n. reply.Q6 a.front.len a.count n a.patched) (sym sum) ∙ sym is)
answers-command terms tries Merge before now told (count, is, reads, merged) =
    (count.merged, count.fresh, count.busy, merged.sum, sym is)

pub adds-command : (terms : Terms) (tries : ℕ) (command : Command) (before now : Told) (told : Reply) →
    Replies terms tries command before now told → Adds before now told
adds-command terms tries (Insert key tuple) before now told is =
    adds-change terms (changes.Insert key tuple) before now told is
adds-command terms tries (Update key tuple) before now told is =
    adds-change terms (changes.Update key tuple) before now told is
adds-command terms tries (Delete key) before now told is = adds-change terms (changes.Delete key) before now told is
adds-command terms tries (DropOrder order) before now told (lines, is, drops) =
    subst (Adds before now) (sym is) (adds-drop terms order 1 before now lines drops)
adds-command terms tries (Lookup key) before now told is = adds-found terms key before now told is
adds-command terms tries (Rows p) before now told (a, is, reads, (list, answered)) =
    subst (Adds before now) (sym is)
    (adds terms before.store.pages tries p false before now a.front a.patched reads answered)
adds-command terms tries (Count p) before now told (a, is, reads, (count, answered)) =
    subst (Adds before now) (sym is)
    (adds terms before.store.pages tries p false before now a.front a.patched reads answered)
adds-command terms tries (Sum p) before now told (a, is, reads, (count, sum, answered)) =
    subst (Adds before now) (sym is)
    (adds terms before.store.pages tries p true before now a.front a.patched reads answered)
adds-command terms tries (Q6 p) before now told (a, is, reads, (count, sum, answered)) =
    subst (Adds before now) (sym is)
    (adds terms before.store.pages tries p true before now a.front a.patched reads answered)
adds-command terms tries Merge before now told (count, is, reads, merged) =
    subst (Adds before now) (sym is) (adds-nothing before.log now.log (reads-grow before.log now.log reads) reads.mine)
