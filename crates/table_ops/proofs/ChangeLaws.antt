-- What follows from what a change comes to.
use Rattle.std.proofs.Common.{◌≡◌, ◌+◌, ◌≤◌, List, [], ◌∷◌, ◌++◌, length, Result, Ok, Err, sym, refl, ap, ◌∙◌, subst, arith}
use Rattle.std.proofs.lemmas.List.{append_assoc}
use Rattle.cubit_base.specs.Change.{Change}
use Rattle.cubit_base.specs.declared.delta.Delta.{Delta}
use Rattle.commit_log.specs.Log.{Terms}
use Rattle.commit_log.specs.Handle.{Handle, Begins, Grows, ReadsOn}
use Rattle.table_ops.specs.declared.outcome.Placed.{Placed}
use Rattle.table_ops.specs.declared.outcome.OpStop.{OpStop}
use Rattle.table_ops.specs.Changed.{IsChanged, outcome_after}

begins-on : (log longer last : List Delta) → Begins log longer → Begins longer last → Begins log last
begins-on log longer last first then =
    (first.0 ++ then.0, then.1 ∙ ap (λ (l : List Delta). l ++ then.0) first.1 ∙ append_assoc log first.0 then.0)

reads-on : (handle later last : Handle) → ReadsOn handle later → ReadsOn later last → ReadsOn handle last
reads-on handle later last first then = record {
  is = then.is ∙ ap (λ (h : Handle). record h { seen = last.seen; walked = last.walked }) first.is;
  begins = begins-on handle.seen later.seen last.seen first.begins then.begins;
  mine = then.mine ∙ first.mine;
}

author-read : (handle read : Handle) → ReadsOn handle read → read.author ≡ handle.author
author-read handle read reads = ap (λ (h : Handle). h.author) reads.is

pub change-grows : (terms : Terms) (handle later : Handle) (change : Change) (result : Result Placed OpStop) →
    IsChanged terms handle change later result → Grows handle later
change-grows terms handle later change (Ok placed) is = record {
  begins = begins-on handle.seen is.read.seen later.seen is.reads.begins
      (is.delta ∷ [], ap (λ (h : Handle). h.seen) is.appended.is);
  author = ap (λ (h : Handle). h.author) is.appended.is ∙ author-read handle is.read is.reads;
}
change-grows terms handle later change (Err stop) is = record {
  begins = is.reads.begins;
  author = author-read handle later is.reads;
}

pub change-on : (terms : Terms) (handle read later : Handle) (change : Change) (result : Result Placed OpStop) →
    ReadsOn handle read → IsChanged terms read change later result → IsChanged terms handle change later result
change-on terms handle read later change (Ok placed) reads is = record {
  read = is.read;
  reads = reads-on handle read is.read reads is.reads;
  at = is.at;
  delta = is.delta;
  outcome_is = ap (λ author. outcome_after terms is.read.seen author change) (sym (author-read handle read reads))
      ∙ is.outcome_is;
  appended = is.appended;
  place = is.place;
  row = is.row;
}
change-on terms handle read later change (Err stop) reads is = record {
  reads = reads-on handle read later reads is.reads;
  whole = is.whole;
  outcome_is = ap (λ author. outcome_after terms later.seen author change) (sym (author-read handle read reads))
      ∙ is.outcome_is;
}
