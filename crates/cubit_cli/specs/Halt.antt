-- Why a call wrote no answer, and what standard error is told of it.
use Rattle.std.specs.Prelude.{ℕ, List}
use Rattle.query_report.specs.Stop.{usage_text, unread_text, refused_text, sink_text, memory_text}
use Rattle.cubit_cli.specs.declared.halt.Name.{Name}
use Rattle.cubit_cli.specs.declared.halt.Name.TheVariants.{Word, Given}
use Rattle.cubit_cli.specs.declared.halt.Halt.{Halt}
use Rattle.cubit_cli.specs.declared.halt.Halt.TheVariants.{Usage, FileFault, Refused, SinkFault, Memory}

abbrev pub name_of : Name → List ℕ
name_of (Word word) = word.now
name_of (Given name) = name

abbrev pub halt_text : Halt → List ℕ
halt_text Usage = usage_text
halt_text (FileFault name) = unread_text (name_of name)
halt_text (Refused name refusal) = refused_text (name_of name) refusal
halt_text SinkFault = sink_text
halt_text Memory = memory_text
