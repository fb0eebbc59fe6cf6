use Rattle.std.proofs.Common.{◌≤◌, take}
use Rattle.std.specs.Prelude.{flat_map}
use Rattle.cubit_io.specs.Pieces.{GrewBy}
use Rattle.cubit_io.proofs.telling.tell.Given as goal

abbrev pub invariant-loop-piece : goal.invariant-loop-piece
invariant-loop-piece g l =
    let told = flat_map (λ piece. piece.now) (take l.piece-index l.pieces) in
    GrewBy (g.S.Sink.taken l.initial.sink) (g.S.Sink.taken l.sink) told
    × (g.S.Sink.faults l.initial.sink ≤ g.S.Sink.faults l.sink)
