use Rattle.fence_window.proofs.Pages.{window_within}
use Rattle.fence_window.proofs.fenced.tests.pages.page_of.Goals as goal

pub returns-clause-within : goal.returns-clause-within
returns-clause-within c =
    window_within c.args.fenced.now c.args.number c.window.new.out (c.pages_of_list.ensures.within c.args.fenced.now)
    c.window.array_long c.window.ensures
