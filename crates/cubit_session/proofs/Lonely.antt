-- What a reply tells besides, where its worker has all to itself.
use Rattle.std.proofs.Common.{◌≡◌, ℕ, ◌+◌, ◌≤◌, Bool, true, false, List, [], ◌∷◌, length, take, All, Option, Some, None, refl, sym, ap, ◌∙◌, subst, arith}
use Rattle.cubit_base.specs.History.{after}
use Rattle.cubit_base.specs.declared.delta.Delta.{Delta}
use Rattle.cubit_base.specs.declared.command.Command.{Command}
use Rattle.cubit_base.specs.declared.command.Command.TheVariants.{Insert, Update, Delete, DropOrder, Lookup, Rows, Count, Sum, Q6, Merge}
use Rattle.cubit_base.specs.declared.predicate.Predicate.{Predicate}
use Rattle.column_bins.specs.Plan as plans
use Rattle.column_bins.specs.declared.plan_type.Plan.{Plan}
use Rattle.commit_log.specs.Growing.{begins-length}
use Rattle.commit_log.specs.Log.{Terms, Stands}
use Rattle.commit_log.specs.Handle.{Begins}
use Rattle.commit_log.specs.declared.front.Front.{Front}
use Rattle.unit_version.specs.Unit.{IsUnit, unit_count}
use Rattle.unit_version.specs.declared.unit.Unit.{Unit as IndexUnit}
use Rattle.version_store.specs.Version.{Version}
use Rattle.selection.specs.Answered.{IsPlanOf, IsAnswered, units_at}
use Rattle.query_report.specs.declared.reply.DropLine.{DropLine}
use Rattle.query_report.specs.declared.reply.Reply.{Reply}
use Rattle.query_report.specs.declared.reply.Reply.TheVariants as reply
use Rattle.cubit_session.specs.Run.{mark_at}
use Rattle.cubit_session.specs.Step.{Told, Replies, Drops, Reads}
use Rattle.cubit_session.specs.Alone.{Progress, StandsAt, TellsAlone, merged_after, patched_alone}
use Rattle.cubit_session.proofs.Bringing.{patched-is}
use Rattle.cubit_session.proofs.Catching.{merges, catches}
use Rattle.cubit_session.proofs.Adding.{adds-nothing, reads-grow}
use Rattle.cubit_session.proofs.Owning.{OwnsAll, same-seen}
use Rattle.cubit_session.proofs.Replying.{adds, adds-command}

-- what is known of the units of a plan
abbrev pub Units : Terms → ℕ → Type 0
Units terms pages =
    (p : Predicate) (sum : Bool) (plan : Plan) (first : Front) → IsPlanOf p sum plan →
    first.rows ≤ terms.limits.row_limit →
    All (IsUnit pages) (units_at plan first) × (length (units_at plan first) ≡ plans.unit_count p sum first.rows)

drop-keeps : (terms : Terms) (order number : ℕ) (before now : Told) (lines : List DropLine) →
    Drops terms order number before now lines → now.store.told ≡ before.store.told
drop-keeps terms order number before now [] (end, same) = ap (λ (t : Told). t.store.told) same
drop-keeps terms order number before now (line ∷ lines) (between, (result, is, made), rest) =
    drop-keeps terms order (number + 1) between now lines rest ∙ made.asks.told

module _ (terms : Terms) (tries : ℕ) (before now : Told) (merged : ℕ) (some : 1 ≤ tries)
    (units : Units terms before.store.pages) (own : OwnsAll now.log) (none : now.store.losses ≡ 0)
    (pages : now.store.pages ≡ before.store.pages) (at : StandsAt before merged)
    (few : (front : Front) → Stands terms now.log.seen front → front.rows ≤ terms.limits.row_limit) where
  -- the rows and the progress before the command
  abbrev rows : ℕ
  rows = length (after terms.base (take (length before.log.seen) now.log.seen))

  abbrev came : Progress
  came = record { placed = length before.log.seen; merged = merged }

  -- what a command tells, and where the versions stand then
  pub record Goes (command : Command) (told : Reply) : Type 0 where
    pub says : TellsAlone (unit_count before.store.pages) rows came command told
    pub stands : StandsAt now (merged_after command came)

  stays : Begins before.log.seen now.log.seen → now.store.told ≡ before.store.told → StandsAt now merged
  stays begins told =
      let long = begins-length before.log.seen now.log.seen begins in record {
        within = omega (arith, at.within, long);
        lossless = none;
        version = at.version;
        told_is = told ∙ at.told_is;
        each = λ unit is_unit. at.each unit (subst (λ n. IsUnit n unit) pages is_unit);
      }

  query : (p : Predicate) (sum : Bool) (front : Front) (patched : ℕ) → Reads before now →
      IsAnswered terms p sum tries before.log before.store now.log now.store front patched →
      patched ≡ patched_alone p sum rows came
  query p sum front patched reads is =
      let same = same-seen before.log now.log (mark_at front.len ∷ [])
      (adds terms before.store.pages tries p sum before now front patched reads is) own in
      let known = units p sum is.plan is.first is.plan_is (few is.first is.stands) in
      patched-is terms tries p sum before now front patched merged some is same none at known.0 known.1

  pub goes : (command : Command) (told : Reply) → Replies terms tries command before now told → Goes command told
  goes (Insert key tuple) told (result, is, made) = record {
    says = tt;
    stands = stays (adds-command terms tries (Insert key tuple) before now told (result, is, made)).grows.begins
        made.asks.told;
  }
  goes (Update key tuple) told (result, is, made) = record {
    says = tt;
    stands = stays (adds-command terms tries (Update key tuple) before now told (result, is, made)).grows.begins
        made.asks.told;
  }
  goes (Delete key) told (result, is, made) = record {
    says = tt;
    stands = stays (adds-command terms tries (Delete key) before now told (result, is, made)).grows.begins
        made.asks.told;
  }
  goes (DropOrder order) told (lines, is, drops) = record {
    says = tt;
    stands = stays (adds-command terms tries (DropOrder order) before now told (lines, is, drops)).grows.begins
        (drop-keeps terms order 1 before now lines drops);
  }
  goes (Lookup key) told looks = record {
    says = tt;
    stands = stays looks.more.begins looks.asks.told;
  }
  goes (Rows p) told (a, is, reads, (list, answered)) = record {
    says = subst (TellsAlone (unit_count before.store.pages) rows came (Rows p)) (sym is)
        (query p false a.front a.patched reads answered);
    stands = stays reads.sees.grows.begins reads.keeps.told;
  }
  goes (Count p) told (a, is, reads, (count, answered)) = record {
    says = subst (TellsAlone (unit_count before.store.pages) rows came (Count p)) (sym is)
        (query p false a.front a.patched reads answered);
    stands = stays reads.sees.grows.begins reads.keeps.told;
  }
  goes (Sum p) told (a, is, reads, (count, sum, answered)) = record {
    says = subst (TellsAlone (unit_count before.store.pages) rows came (Sum p)) (sym is)
        (query p true a.front a.patched reads answered);
    stands = stays reads.sees.grows.begins reads.keeps.told;
  }
  goes (Q6 p) told (a, is, reads, (count, sum, answered)) = record {
    says = subst (TellsAlone (unit_count before.store.pages) rows came (Q6 p)) (sym is)
        (query p true a.front a.patched reads answered);
    stands = stays reads.sees.grows.begins reads.keeps.told;
  }
  goes Merge told (count, is, reads, all) =
      let same = same-seen before.log now.log [] (adds-nothing before.log now.log
      (reads-grow before.log now.log reads) reads.mine) own in record {
        says = subst (TellsAlone (unit_count before.store.pages) rows came Merge) (sym is)
            (merges terms before now merged count all same none at);
        stands = catches terms before now merged count all same none at pages;
      }
