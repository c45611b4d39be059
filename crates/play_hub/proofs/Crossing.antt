-- Seats of a hub may cross threads, and threads may share the hub.
use denote.RattleType.{RattleType}
use denote.Param.Send.{IsSend, IsSync, AllSend, sendable, recorded_send, struct_send}
use denote.Struct.Declared as D
use Rattle.std.proofs.Crossing.{crosses}
use Rattle.atomic_table.proofs.send_lease.SendLease.TheSendSync.{the_sync as lease-sync}
use Rattle.atomic_table.proofs.shared.Seat.TheSendSync.{the_send as token-send}
use Rattle.atomic_table.proofs.shared.Shared.TheSendSync.{the_sync as shared-sync}
use Rattle.space_row.proofs.Crossing.{row-send, row-sync}
use Rattle.hub_rule.specs.contracts.slot.Slot as Slot
use Rattle.group_locks.specs.contracts.state.SeatState as State
use Rattle.group_locks.specs.contracts.seat.Seat as Seat
use Rattle.group_locks.specs.contracts.hub.Hub as Hub
use Rattle.play_hub.specs.contracts.entry.PlayEntry as Entry
use Rattle.play_hub.specs.contracts.scene.PlayScene as Scene

pub entry-send : IsSend Entry.the_row
entry-send = let a = row-send in search (sendable, crosses) depth 60

pub entry-sync : IsSync Entry.the_row
entry-sync = let a = row-sync in search (sendable, crosses) depth 60

pub slot-send : (X W : RattleType) → IsSend X → IsSend W → IsSend (Slot.the_row X W)
slot-send X W x w = search (sendable, crosses) depth 60

pub slot-sync : (X W : RattleType) → IsSync X → IsSync W → IsSync (Slot.the_row X W)
slot-sync X W x w = search (sendable, crosses) depth 60

pub state-send : (E X W : RattleType) → IsSend E → IsSend X → IsSend W → IsSend (State.the_row E X W)
state-send E X W e x w = search (sendable, crosses, token-send, slot-send) depth 60

pub field-send : (E X W : RattleType) → IsSend E → IsSend X → IsSend W → IsSend (State.the_field E X W).row
field-send E X W e x w = search (sendable, crosses, token-send, slot-send) depth 60

pub seat-send : (S E W X H : RattleType) → IsSend E → IsSend W → IsSend X → IsSend H → IsSend (Seat.the_row S E W X H)
seat-send S E W X H e w x h =
    let all : AllSend (D.shape (Seat.the_type S E W X H)).fields = (field-send E X W e x w, tt) in
    recorded_send _ _ _ (Seat.the_type S E W X H).to_one (struct_send (D.shape (Seat.the_type S E W X H)) all)

pub hub-sync : (S E W X H : RattleType) (g : _) → IsSync S → IsSend W → IsSend X → IsSync (Hub.the_row S E W X H g)
hub-sync S E W X H g s w x = search (sendable, crosses, shared-sync, lease-sync, slot-send) depth 60

pub scene-sync : (J T : RattleType) → IsSync J → IsSync T → IsSync (Scene.the_row J T)
scene-sync J T j t = search (sendable, crosses) depth 40
