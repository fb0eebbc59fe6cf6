-- What standard error is told of a call that stopped, byte for byte.
use Rattle.std.specs.Prelude.{ℕ, List, [], ◌∷◌, codes, decimal}
use Rattle.std.specs.List.{concat}
use Rattle.query_report.specs.declared.refusal.Refusal.{Refusal}
use Rattle.query_report.specs.declared.stop.Stop.{Stop}
use Rattle.query_report.specs.declared.stop.Stop.TheVariants.{Usage, FileFault, Refused, SinkFault, Memory}
use Rattle.query_report.specs.Refusal.{detail_label, detail_number}

-- how the program is called: a line for each command
abbrev pub usage_text : List ℕ
usage_text =
    concat (codes "usage: cubit q6 BASE YEAR DISCOUNT QUANTITY\n"
    ∷ codes "       cubit run [--row-limit N] [--log-limit N] [--tries N] BASE SCRIPT..\n"
    ∷ codes "       cubit drill SEED ORDERS\n" ∷ [])

-- the file of this name cannot be read
abbrev pub unread_text : List ℕ → List ℕ
unread_text name = concat (codes "cubit: " ∷ name ∷ codes ": cannot be read\n" ∷ [])

-- the refusal of the file of this name
abbrev pub refused_text : List ℕ → Refusal → List ℕ
refused_text name r =
    concat (codes "cubit: " ∷ name ∷ codes ": line " ∷ decimal r.line ∷ codes ": fault " ∷ decimal r.fault
    ∷ detail_label r.detail ∷ detail_number r.detail ∷ codes "\n" ∷ [])

abbrev pub sink_text : List ℕ
sink_text = codes "cubit: output failed\n"

abbrev pub memory_text : List ℕ
memory_text = codes "cubit: out of memory\n"

abbrev pub stop_text : Stop → List ℕ
stop_text Usage = usage_text
stop_text (FileFault name) = unread_text name.now
stop_text (Refused name r) = refused_text name.now r
stop_text SinkFault = sink_text
stop_text Memory = memory_text
