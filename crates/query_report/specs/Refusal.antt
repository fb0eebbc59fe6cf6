-- What a refusal says besides the line and the fault.
use Rattle.std.specs.Prelude.{ℕ, List, [], codes, decimal}
use Rattle.query_report.specs.declared.refusal.Detail.{Detail}
use Rattle.query_report.specs.declared.refusal.Detail.TheVariants.{Nothing, Fields, First}

abbrev pub detail_label : Detail → List ℕ
detail_label Nothing = []
detail_label (Fields count) = codes " fields="
detail_label (First line) = codes " first="

abbrev pub detail_number : Detail → List ℕ
detail_number Nothing = []
detail_number (Fields count) = decimal count
detail_number (First line) = decimal line
