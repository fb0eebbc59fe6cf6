-- Handles that may see more.
use Rattle.std.proofs.Common.{List, [], ◌++◌, refl, sym, ap, ◌∙◌, append_assoc, append-nil}
use Rattle.cubit_base.specs.declared.delta.Delta.{Delta}
use Rattle.commit_log.specs.Handle.{Handle, Begins, SeesMore}

pub begins-same : (log : List Delta) → Begins log log
begins-same log = ([], sym (append-nil log))

pub begins-on : (log longer last : List Delta) → Begins log longer → Begins longer last → Begins log last
begins-on log longer last first second =
    (first.0 ++ second.0, second.1 ∙ ap (λ l. l ++ second.0) first.1 ∙ append_assoc log first.0 second.0)

pub sees-same : (handle : Handle) → SeesMore handle handle
sees-same handle = record { is = refl; begins = begins-same handle.seen; mine = refl }

pub sees-on : (handle middle later : Handle) → SeesMore handle middle → SeesMore middle later → SeesMore handle later
sees-on handle middle later first second = record {
  is = second.is ∙ ap (λ (h : Handle). record h { seen = later.seen }) first.is;
  begins = begins-on handle.seen middle.seen later.seen first.begins second.begins;
  mine = second.mine ∙ first.mine;
}
