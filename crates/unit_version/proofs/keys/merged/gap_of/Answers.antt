use Rattle.std.proofs.Common.{◌≢◌, ◌-◌, ◌<◌, ◌∙◌, length, get_or, ap, arith}
use Rattle.std.proofs.lemmas.List.{get_or_default, length-map}
use Rattle.unit_version.specs.declared.keys.entry.Entry.{Entry}
use Rattle.unit_version.proofs.Gaps.{gap-one, gap-none, gap-order}
use Rattle.unit_version.proofs.keys.merged.gap_of.Goals as goal
use Rattle.unit_version.proofs.keys.merged.gap_of.Goals.{else-behind-ne0-via-then-behind-ne0+else-entries-behind, else-behind-ne0-via-else-behind-ne0}

pub returns-then-entries-behind : goal.returns-then-entries-behind
returns-then-entries-behind c =
    let entries = c.args.entries.now in
    let behind = c.args.behind in
    let e = c.index-entries-behind.result in
    let gap = gap-one entries c.args.code behind e c.requires.rising c.requires.near (omega arith)
    c.if-entries-behind.true in
    record {
      gap = gap;
      order = gap-order entries c.args.code c.args.from (behind - 1) behind c.requires.within c.requires.before gap;
    }

pub returns : goal.returns
returns c =
    let entries = c.args.entries.now in
    let behind = c.args.behind in
    let other : (e : Entry) → 0 < behind → (get_or entries (behind - 1) e).code ≢ c.args.code = λ e some same.
    elim c.else-behind-ne0.branch [
      | else-behind-ne0-via-then-behind-ne0+else-entries-behind w ↦
          let within : behind - 1 < length entries =
          omega (arith, c.requires.near.within, length-map entries (λ (e : Entry). e.code)) in
          w.if-entries-behind.false
          (ap (λ (e : Entry). e.code) (get_or_default entries (behind - 1) w.index-entries-behind.result e within)
          ∙ same)
      | else-behind-ne0-via-else-behind-ne0 w ↦ omega arith
    ] in
    let gap = gap-none entries c.args.code behind c.requires.rising c.requires.near other in
    record {
      gap = gap;
      order = gap-order entries c.args.code c.args.from behind behind c.requires.within c.requires.before gap;
    }
