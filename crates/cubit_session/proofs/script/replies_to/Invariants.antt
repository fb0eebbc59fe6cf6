use Rattle.std.proofs.Common.{◌≤◌, take, drop}
use Rattle.wah_words.specs.Place.{page_count}
use Rattle.commit_log.specs.Serial.{serial_terms, serial_handle}
use Rattle.version_store.specs.Store.{IsStanding}
use Rattle.version_store.specs.Memory.{memory_store, AreVersions}
use Rattle.query_report.specs.ReplyTable.{replies_of}
use Rattle.refresh_streams.specs.Script.{weights}
use Rattle.cubit_session.specs.Step.{setting_of, told_by}
use Rattle.cubit_session.specs.Through.{HasRun}
use Rattle.cubit_session.specs.Alone.{HasRunAlone}
use Rattle.cubit_session.proofs.script.replies_to.Given as goal

abbrev pub invariant-loop-n : goal.invariant-loop-n
invariant-loop-n g l =
    let terms = serial_terms g.S.Setup.base g.S.Setup.limits in
    let s = setting_of terms (page_count l.base.row_room) in
    record {
      run : HasRun s (serial_handle l.fn.worker.0) (serial_handle l.worker.0) (take l.n l.script) l.replies;
      alone : HasRunAlone s (told_by serial_handle memory_store l.worker) (take l.n l.script) (replies_of l.replies 0);
      spare : weights (drop l.n l.script) ≤ l.worker.0.spare;
      standing : IsStanding terms (memory_store l.worker.1) l.base (AreVersions terms l.worker.1 l.worker.0.seen);
    }
