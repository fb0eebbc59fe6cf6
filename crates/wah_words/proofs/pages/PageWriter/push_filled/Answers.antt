use Rattle.std.proofs.Common.{◌++◌, ◌∙◌, replicate, sym, ap, subst, arith, length}
use Rattle.std.proofs.lemmas.List.{length-replicate}
use Rattle.wah_words.specs.Pages.{ArePaged}
use Rattle.wah_words.specs.Stretch.{Extends}
use Rattle.wah_words.proofs.Paged.{paged_more}
use Rattle.wah_words.proofs.Copies.{groups-extended, underway-le}
use Rattle.wah_words.proofs.pages.PageWriter.push_filled.Goals as goal
use Rattle.wah_words.proofs.pages.PageWriter.push_filled.Goals.{In_ok-next}

pub push_run-requires-clause-room : goal.push_run-requires-clause-room
push_run-requires-clause-room c =
    omega (
      arith,
      c.part.ensures.count,
      c.requires.room,
      underway-le c.self.inside.words.items c.self.inside.run c.self.invariant.fill,
      ap length c.self.view_is,
    )

-- a page of the run
page : (c : In_ok-next) → Extends c.self.inside.words.items c.self.inside.run (replicate 128 c.args.run.group)
    c.push_run.new.words.items c.in_ok-next.next
page c =
    subst (λ n. Extends c.self.inside.words.items c.self.inside.run (replicate n c.args.run.group)
    c.push_run.new.words.items c.in_ok-next.next) c.part.ensures.count
    (subst (λ g. Extends c.self.inside.words.items c.self.inside.run (replicate c.part.result.count g)
    c.push_run.new.words.items c.in_ok-next.next) c.part.ensures.group c.in_ok-next.ensures.extends)

pub invariant_of-self : goal.invariant_of-self
invariant_of-self c =
    let is = page (goal.at.invariant_of-self c).In_ok-next in
    let start = c.start_behind-start in
    subst (λ all. ArePaged all c.in_ok-next.next c.push.new.self.items) (sym is.is)
    (subst (ArePaged (c.self.inside.words.items ++ is.written) c.in_ok-next.next) (sym c.in_ok-push.ensures.items)
    (paged_more c.self.inside.words.items c.self.inside.run c.self.inside.starts.items (replicate 128 c.args.run.group)
    is.written c.in_ok-next.next start.result c.self.invariant is.writes is.fill
    (length-replicate 128 c.args.run.group) (start.ensures.word ∙ ap length c.deref.ensures.value)
    start.ensures.skipped))

pub returns : goal.returns
returns c =
    groups-extended _ _ _ _ _ (page (goal.at.returns c).In_ok-next)
    ∙ ap (λ front. front ++ replicate 128 c.args.run.group) c.self.view_is
