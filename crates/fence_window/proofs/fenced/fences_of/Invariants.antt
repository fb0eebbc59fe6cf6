use Rattle.std.proofs.Common.{◌≡◌, ◌*◌, length}
use Rattle.wah_words.specs.Canonical.{AreWords}
use Rattle.wah_words.specs.Place.{AreFences, IsAfter}
use Rattle.fence_window.proofs.fenced.fences_of.Given as goal

abbrev pub invariant-loop-page : goal.invariant-loop-page
invariant-loop-page l = record {
  fits : AreWords l.words;
  size : length l.fences.items ≡ l._page;
  so_far : AreFences l.words l.fences.items;
  next : IsAfter l.words (128 * l._page) l.place;
}
