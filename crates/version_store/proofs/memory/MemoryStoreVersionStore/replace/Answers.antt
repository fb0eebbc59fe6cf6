use Rattle.std.proofs.Common.{Some, ap}
use Rattle.commit_log.specs.Serial.{serial_terms}
use Rattle.version_store.specs.Memory.{MemoryValue}
use Rattle.version_store.specs.Version.{Version}
use Rattle.version_store.proofs.Fitting.{put-fits}
use Rattle.version_store.proofs.memory.MemoryStoreVersionStore.replace.Goals as goal

pub returns-clause-over : goal.returns-clause-over
returns-clause-over g c =
    let version : Version = record { front = c.args.front.now; content = Some c.args.content } in
    put-fits (serial_terms g.S.Setup.base g.S.Setup.limits) c.args.log.now.seen c.args.unit version c.args.self.now
    c.put.new.self c.requires.over c.requires.unit
    (record { stands = c.requires.front; content_is = c.requires.content })
    c.put.ensures.put (ap (λ (m : MemoryValue). m.pages) c.put.ensures.same)
