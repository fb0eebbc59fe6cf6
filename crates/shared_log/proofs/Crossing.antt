-- A date may go to another thread, and be shared among threads.
use denote.RattleType.{RattleType}
use denote.Param.Send.{IsSend, IsSync, sendable, part_keyless}
use Rattle.atomic_table.specs.contracts.shared.Seat as seat
use Rattle.atomic_table.proofs.shared.Seat.TheSendSync as seats
use Rattle.cubit_base.specs.contracts.delta.Delta as delta
use Rattle.cubit_base.proofs.delta.Delta.TheSendSync as deltas
use Rattle.shared_log.specs.contracts.views.SeatView as view
use Rattle.shared_log.specs.contracts.date.Date as date
use Rattle.shared_log.specs.declared.rule.WhichLog.{Ghosts}

-- a seat that is only lent tells nothing of the table
seat_sync : (slot shown : RattleType) → IsSend slot → IsSync (seat.the_row slot shown)
seat_sync slot shown send = record {
  shared = λ d b o κ q. part_keyless (seat.the_row slot shown) (seats.the_send slot shown send) q d b o;
}

log_seat_sync : IsSync (seat.the_row delta.the_row view.the_row)
log_seat_sync = seat_sync delta.the_row view.the_row deltas.the_send

inside_sync : (W : RattleType) (g : Ghosts W.Denot) → IsSync (date.TheInside.the_row W g)
inside_sync W g = search (sendable, log_seat_sync) depth 20

pub date_sync : (W : RattleType) (g : Ghosts W.Denot) → IsSync (date.the_row W g)
date_sync W g = record { shared = λ d b o κ x. ((inside_sync W g).shared x.0 b o κ, tt) }
