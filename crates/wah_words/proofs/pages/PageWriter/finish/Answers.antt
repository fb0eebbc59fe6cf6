use Rattle.std.proofs.Common.{◌≡◌, ◌-◌, ◌*◌, ◌∙◌, false, sym, ap, subst, arith, take, drop, length}
use Rattle.std.specs.Prelude.{All}
use Rattle.wah_words.specs.Group.{unpacked}
use Rattle.wah_words.specs.Word.{groups}
use Rattle.wah_words.specs.Canonical.{AreWords, IsCanonical}
use Rattle.wah_words.specs.Place.{HasFences}
use Rattle.wah_words.proofs.Finished.{Holds, Closes, excess, enough_underway, canonical-closed, list-closed}
use Rattle.wah_words.proofs.Fences.{fences-closed}
use Rattle.wah_words.proofs.pages.PageWriter.finish.Goals as goal
use Rattle.wah_words.proofs.pages.PageWriter.finish.Goals.{After-self, After-shortened-run}

-- what was pushed holds the rows
holds : (c : After-self) → Holds c.self.inside.words.items c.self.inside.run c.self.inside.starts.items c.args.rows
holds c = record {
  paged = c.self.invariant;
  size = ap length c.self.view_is ∙ c.requires.size;
  padding = subst (λ gs. All (λ row. row ≡ false) (drop c.args.rows (unpacked gs))) (sym c.self.view_is)
      c.requires.padding;
}

-- the run is shortened by what the rows do not take
closes : (c : After-shortened-run) → Closes c.self.inside.run c.args.rows c.shortened-run.result
closes c =
    let taken : 128 * c.div_ceil.result - c.group_count.result ≡ excess c.args.rows =
    omega (arith, c.div_ceil.ensures, c.group_count.ensures) in
    record {
      none = λ none. c.shortened-run.ensures.none none ∙ taken;
      some = λ some.
          let parts = c.shortened-run.ensures.some some in
          (omega (arith, taken, parts.0), omega (arith, taken, parts.1));
    }

pub shortened-run-requires-clause-within : goal.shortened-run-requires-clause-within
shortened-run-requires-clause-within c =
    omega (arith, c.div_ceil.ensures, c.group_count.ensures, enough_underway _ _ _ _ (holds c))

pub of_words-requires : goal.of_words-requires
of_words-requires c =
    subst (λ words. IsCanonical words c.args.rows) (sym c.in_ok-close.ensures)
    (canonical-closed _ _ _ _ _ (holds (goal.at.of_words-requires c).After-self)
    (closes (goal.at.of_words-requires c).After-shortened-run))

pub returns-clause-list : goal.returns-clause-list
returns-clause-list c =
    c.of_words.ensures.list
    ∙ ap (λ words. take c.args.rows (unpacked (groups words))) c.in_ok-close.ensures
    ∙ list-closed _ _ _ _ _ (holds (goal.at.returns-clause-list c).After-self)
    (closes (goal.at.returns-clause-list c).After-shortened-run)
    ∙ ap (λ gs. take c.args.rows (unpacked gs)) c.self.view_is

pub returns-clause-starts : goal.returns-clause-starts
returns-clause-starts c =
    let list =
    c.of_words.ensures.list ∙ ap (λ words. take c.args.rows (unpacked (groups words))) c.in_ok-close.ensures in
    subst (λ rows. HasFences rows c.self.inside.starts.items) (sym list)
    (fences-closed _ _ _ _ _ (holds (goal.at.returns-clause-starts c).After-self)
    (closes (goal.at.returns-clause-starts c).After-shortened-run) (omega arith)
    (subst AreWords c.in_ok-close.ensures c.of_words.ensures.fit))
