use Rattle.std.proofs.Common.{◌+◌, ◌-◌, ◌≡◌, ℕ, List, arith, subst, sym}
use Rattle.wah_words.specs.Moves.{Moves, first_toggled}
use Rattle.wah_words.specs.Source.{source_left}
use Rattle.wah_words.proofs.Moves.{length-moves, moves-moves}
use Rattle.wah_words.proofs.Toggled.{first_toggled-none, length-first_toggled}
use Rattle.wah_words.proofs.toggle.advance.Goals as goal

pub move_groups-requires-clause-enough : goal.move_groups-requires-clause-enough
move_groups-requires-clause-enough c =
    omega (
      arith,
      c.requires.enough,
      c.in_ok-move_toggled.ensures.size,
      length-moves _ _ _ _ _ c.in_ok-move_toggled.ensures,
      length-first_toggled c.args.mask (source_left c.args.source.now),
    )

pub move_groups-requires-clause-room : goal.move_groups-requires-clause-room
move_groups-requires-clause-room c =
    omega (
      arith,
      c.requires.room,
      length-moves _ _ _ _ _ c.in_ok-move_toggled.ensures,
      length-first_toggled c.args.mask (source_left c.args.source.now),
    )

pub returns-clause-moved : goal.returns-clause-moved
returns-clause-moved c =
    let left = source_left c.move_groups.new.self in
    let one : 1 + (c.args.count - 1) ≡ c.args.count = omega arith in
    subst (λ (gs : List ℕ). Moves c.args.out.now (first_toggled c.args.mask (source_left c.args.source.now))
    c.move_groups.new.out gs c.args.count) (sym (first_toggled-none left))
    (rw one at (moves-moves _ _ _ _ _ _ _ _ c.in_ok-move_toggled.ensures c.in_ok-move_groups.ensures))
