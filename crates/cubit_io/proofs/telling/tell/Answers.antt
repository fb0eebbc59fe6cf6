use Rattle.std.proofs.Common.{inl, inr, drop, ◌+◌, List, [], ℕ, Bor}
use Rattle.std.specs.Prelude.{flat_map}
use Rattle.std.proofs.lemmas.List.{take_all}
use Rattle.cubit_io.proofs.Writing.{GrewByPrefix-whole, GrewByPrefix-then, flat_map-at, Rose-later}
use Rattle.cubit_io.proofs.telling.tell.Goals as goal

pub returns-in-Err-clause-text : goal.returns-in-Err-clause-text
returns-in-Err-clause-text g c =
    let i = c.loop-piece.piece-index in
    let pieces = c.args.pieces.now in
    let none : Bor (List ℕ) = record { ref_ptr = (0, 0); now = [] } in
    let cut = flat_map-at (λ (piece : Bor (List ℕ)). piece.now) pieces i none c.loop-piece-test.true in
    let unsaid = flat_map (λ piece. piece.now) (drop (i + 1) pieces) in
    record {
      part = rw cut (GrewByPrefix-then _ _ _ _ _ unsaid c.loop-piece.invariant.0 c.in-Err.ensures.part);
      whole = inl (Rose-later _ _ _ c.loop-piece.invariant.1 c.in-Err.ensures.cause);
    }

pub returns-clause-text : goal.returns-clause-text
returns-clause-text g c =
    let all = take_all c.loop-piece.piece-index c.args.pieces.now c.loop-piece-test.false in
    let whole = rw all at c.loop-piece.invariant.0 in
    record { part = GrewByPrefix-whole _ _ _ whole; whole = inr whole }
