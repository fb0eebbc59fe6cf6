use Rattle.std.proofs.Common.{◌≡◌, ◌∙◌, List, [], ◌∷◌, All, sym, refl, ap, subst}
use Rattle.cubit_base.specs.declared.delta.Delta.{Delta}
use Rattle.cubit_base.specs.declared.entry.Limits.{Limits}
use Rattle.cubit_base.specs.Table.{Row}
use Rattle.wah_words.specs.Place.{page_count}
use Rattle.commit_log.specs.Log.{IsLog}
use Rattle.commit_log.specs.Serial.{serial_terms, serial_handle, SerialValue}
use Rattle.query_report.specs.ReplyTable.{replies_of}
use Rattle.cubit_session.specs.Run.{IsRun, Setting}
use Rattle.cubit_session.specs.Step.{setting_of}
use Rattle.cubit_session.specs.Through.{run_setting}
use Rattle.cubit_session.specs.Alone.{IsAlone}
use Rattle.cubit_session.proofs.script.run_over.Goals as goal

pub replies_to-requires-clause-empty : goal.replies_to-requires-clause-empty
replies_to-requires-clause-empty g c =
    ap (λ p. p.0.seen) c.make-worker.ensures
    ∙ ap (λ (l : SerialValue). l.seen) (c.in_ok-store.ensures.same ∙ c.in_ok-log.ensures)

pub returns : goal.returns
returns g c =
    let terms = serial_terms g.S.Setup.base g.S.Setup.limits in
    let pages = page_count c.args.base.now.row_room in
    let start = serial_handle c.make-worker.result.0 in
    let now = serial_handle c.replies_to.new.worker.0 in
    let script = c.args.script.now in
    let replies = c.in_ok-replies.replies in
    let empty : c.make-worker.result.0.seen ≡ [] =
    ap (λ p. p.0.seen) c.make-worker.ensures
    ∙ ap (λ (l : SerialValue). l.seen) (c.in_ok-store.ensures.same ∙ c.in_ok-log.ensures) in
    let same : c.into_parts-log.result.0.seen ≡ c.replies_to.new.worker.0.seen =
    ap (λ p. p.0.seen) c.into_parts-log.ensures in
    let log : IsLog terms now.seen = subst (IsLog terms) same c.in_ok-journal.ensures.log in
    let own : All {X = Delta} (λ d. d.author ≡ 0) now.seen =
    subst (All {X = Delta} (λ d. d.author ≡ 0)) same c.in_ok-journal.ensures.own in
    let whole = c.runs.ensures terms pages start now script replies c.in_ok-replies.ensures.run empty refl log own in
    let setting : setting_of terms pages ≡ run_setting c.args.base.now c.args.limits.now =
    ap (λ (b : List Row). setting_of (serial_terms b g.S.Setup.limits) pages) c.requires.base
    ∙ ap (λ (l : Limits). setting_of (serial_terms c.args.base.now.table l) pages) c.requires.limits in
    let journal : now.seen ≡ c.in_ok-journal.journal = sym (c.in_ok-journal.ensures.journal ∙ same) in
    record {
      run = subst (λ (s : Setting). IsRun s (script ∷ []) replies c.in_ok-journal.journal) setting
          (subst (IsRun (setting_of terms pages) (script ∷ []) replies) journal whole);
      alone = subst (λ (s : Setting). IsAlone s script (replies_of replies 0) c.in_ok-journal.journal) setting
          (subst (IsAlone (setting_of terms pages) script (replies_of replies 0)) journal
          c.in_ok-replies.ensures.alone.alone);
    }
