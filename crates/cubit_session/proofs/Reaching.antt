-- One command more of a worker that has all to itself.
use Rattle.std.proofs.Common.{◌≡◌, ℕ, ◌+◌, ◌≤◌, List, [], ◌∷◌, ◌++◌, length, refl, sym, ap, ◌∙◌, subst, arith, length-append}
use Rattle.cubit_base.specs.Table.{Row}
use Rattle.cubit_base.specs.declared.delta.Delta.{Delta}
use Rattle.cubit_base.specs.declared.command.Command.{Command}
use Rattle.commit_log.specs.Log.{Terms, Stands}
use Rattle.commit_log.specs.Handle.{Begins}
use Rattle.commit_log.specs.Serial.{SerialValue, serial_handle}
use Rattle.commit_log.specs.declared.front.Front.{Front}
use Rattle.unit_version.specs.Unit.{IsUnit}
use Rattle.version_store.specs.Version.{Version, base_version}
use Rattle.version_store.specs.Memory.{MemoryValue, memory_store, version_of, IsNew}
use Rattle.query_report.specs.declared.reply.Reply.{Reply}
use Rattle.cubit_session.specs.Run.{Setting, table_at, marks_of, places_of}
use Rattle.cubit_session.specs.Step.{Told, Replies, setting_of, told_by}
use Rattle.cubit_session.specs.Alone.{Progress, TellsAlone, went_on, reached, merged_after, from_start, IsAloneFrom, OwnsLog, StandsAt, HasRunAlone}
use Rattle.cubit_session.proofs.Owning.{length-now}
use Rattle.cubit_session.proofs.Lonely.{Units, goes}
use Rattle.cubit_session.proofs.Replying.{adds-command}
use Rattle.cubit_session.proofs.Running.{table-later}

-- no worker falls back
goes-far : (at : Progress) (commands : List Command) (replies : List Reply) →
    at.placed ≤ (reached at commands replies).placed
goes-far at [] replies = omega arith
goes-far at (c ∷ commands) [] = omega arith
goes-far at (c ∷ commands) (r ∷ replies) =
    let rest : at.placed + length (places_of r) ≤ (reached (went_on at c r) commands replies).placed =
    goes-far (went_on at c r) commands replies in omega (arith, rest)

reaches-next : (at : Progress) (commands : List Command) (replies : List Reply) (command : Command) (told : Reply) →
    length commands ≡ length replies →
    reached at (commands ++ command ∷ []) (replies ++ told ∷ []) ≡ went_on (reached at commands replies) command told
reaches-next at [] [] command told each = refl
reaches-next at [] (r ∷ replies) command told each = absurd (omega (arith, each))
reaches-next at (c ∷ commands) [] command told each = absurd (omega (arith, each))
reaches-next at (c ∷ commands) (r ∷ replies) command told each =
    reaches-next (went_on at c r) commands replies command told (omega (arith, each))

-- what was told of a journal is told of a longer one
alone-later : (s : Setting) (log longer : List Delta) (at : Progress) (commands : List Command) (replies : List Reply) →
    Begins log longer → (reached at commands replies).placed ≤ length log →
    IsAloneFrom s log at commands replies → IsAloneFrom s longer at commands replies
alone-later s log longer at [] replies begins within is = tt
alone-later s log longer at (c ∷ commands) [] begins within is = tt
alone-later s log longer at (c ∷ commands) (r ∷ replies) begins within (first, rest) =
    let far : at.placed + length (places_of r) ≤ (reached (went_on at c r) commands replies).placed =
    goes-far (went_on at c r) commands replies in (
      subst (λ (t : List Row). TellsAlone s.units (length t) at c r)
          (sym (table-later s log longer at.placed begins (omega (arith, far, within)))) first,
      alone-later s log longer (went_on at c r) commands replies begins within rest,
    )

alone-next : (s : Setting) (journal : List Delta) (at : Progress) (commands : List Command) (replies : List Reply)
    (command : Command) (told : Reply) → length commands ≡ length replies →
    IsAloneFrom s journal at commands replies →
    TellsAlone s.units (length (table_at s journal (reached at commands replies).placed)) (reached at commands replies)
    command told → IsAloneFrom s journal at (commands ++ command ∷ []) (replies ++ told ∷ [])
alone-next s journal at [] [] command told each is tells = (tells, tt)
alone-next s journal at [] (r ∷ replies) command told each is tells = absurd (omega (arith, each))
alone-next s journal at (c ∷ commands) [] command told each is tells = absurd (omega (arith, each))
alone-next s journal at (c ∷ commands) (r ∷ replies) command told each (first, rest) tells =
    (first, alone-next s journal (went_on at c r) commands replies command told (omega (arith, each)) rest tells)

module _ (terms : Terms) (tries : ℕ) (command : Command) (before now : Told) (told : Reply) (commands : List Command)
    (replies : List Reply) (units : Units terms before.store.pages)
    (few : (front : Front) → Stands terms now.log.seen front → front.rows ≤ terms.limits.row_limit) (some : 1 ≤ tries)
    (run : HasRunAlone (setting_of terms before.store.pages) before commands replies)
    (step : Replies terms tries command before now told) (owns : OwnsLog terms now) (none : now.store.losses ≡ 0)
    (pages : now.store.pages ≡ before.store.pages) where
  abbrev s : Setting
  s = setting_of terms before.store.pages

  abbrev at : Progress
  at = reached from_start commands replies

  came : at ≡ record { placed = length before.log.seen; merged = at.merged }
  came = ap (λ n. record { placed = n; merged = at.merged }) run.placed

  pub next : HasRunAlone s now (commands ++ command ∷ []) (replies ++ told ∷ [])
  next =
      let went = goes terms tries before now at.merged some units owns.own none pages run.stands few command told
      step in
      let adds = adds-command terms tries command before now told step in
      let long = length-now before.log now.log (marks_of told) (places_of told) adds owns.own in
      let last = reaches-next from_start commands replies command told run.each in
      let cs = length-append commands (command ∷ []) in
      let rs = length-append replies (told ∷ []) in
      let tells = subst
      (λ (a : Progress). TellsAlone s.units (length (table_at s now.log.seen a.placed)) a command told)
      (sym came) went.says in
      record {
        each = omega (arith, cs, rs, run.each);
        alone = alone-next s now.log.seen from_start commands replies command told run.each
            (alone-later s before.log.seen now.log.seen from_start commands replies adds.grows.begins
            (omega (arith, run.placed)) run.alone) tells;
        placed = ap (λ (a : Progress). a.placed) last ∙ omega (arith, run.placed, long);
        stands = subst (StandsAt now) (sym (ap (λ (a : Progress). a.merged) last ∙ ap (merged_after command) came))
            went.stands;
      }

-- a new store stands at the start
pub begins-alone : (terms : Terms) (s : Setting) (pages : ℕ) (log : SerialValue) (memory : MemoryValue) →
    log.seen ≡ [] → IsNew pages (base_version terms) memory →
    HasRunAlone s (told_by serial_handle memory_store (log, memory)) [] []
begins-alone terms s pages log memory empty new = record {
  each = refl;
  alone = tt;
  placed = sym (ap (λ (l : List Delta). length l) empty);
  stands = record {
    within = omega arith;
    lossless = refl;
    version = version_of memory.versions;
    told_is = refl;
    each = λ unit is_unit. ap (λ (v : Version). v.front.len)
        (new.is_version unit (subst (λ n. IsUnit n unit) new.pages_are is_unit));
  };
}
