-- A handle that takes a front after it has seen more.
use Rattle.std.proofs.Common.{◌≡◌, ◌++◌, List, ap, ◌∙◌}
use Rattle.std.proofs.lemmas.List.{append_assoc}
use Rattle.cubit_base.specs.declared.delta.Delta.{Delta}
use Rattle.commit_log.specs.Handle.{Handle, SeesMore, with_look}

pub looks-after : (handle read later : Handle) → SeesMore handle read → SeesMore (with_look read) later →
    SeesMore (with_look handle) later
looks-after handle read later first then = record {
  is = then.is ∙ ap (λ (h : Handle). record (with_look h) { seen = later.seen }) first.is;
  begins = (
    first.begins.0 ++ then.begins.0,
    then.begins.1 ∙ ap (λ (l : List Delta). l ++ then.begins.0) first.begins.1
        ∙ append_assoc handle.seen first.begins.0 then.begins.0,
  );
  mine = then.mine ∙ first.mine;
}
