use Rattle.std.proofs.Common.{sym, subst, take, drop}
use Rattle.std.proofs.lemmas.List.{take-append-drop}
use Rattle.cubit_base.specs.History.{IsHistory}
use Rattle.cubit_base.proofs.Histories.{after-append, IsHistory-append, IsHistory-first, IsHistory-rest, IsHistory-take, IsLawful-at, IsHistory-wider}
use Rattle.cubit_base.proofs.laws.histories.Goals as goal

pub returns : goal.returns
returns c = record {
  join = after-append;
  append = λ limit table h g. (
    (λ all. (IsHistory-first limit table h g all, IsHistory-rest limit table h g all)),
    (λ parts. IsHistory-append limit table h g parts.0 parts.1),
  );
  front = λ limit table h n. IsHistory-take limit table n h;
  rest = λ limit table h n all.
      IsHistory-rest limit table (take n h) (drop n h) (subst (IsHistory limit table) (sym (take-append-drop n h)) all);
  each = λ limit table h n d. IsLawful-at limit table n h d;
  wider = IsHistory-wider;
}
