-- Seats of a replay's hub may cross threads, and threads may share the hub.
use denote.RattleType.{RattleType}
use denote.Param.Send.{IsSend, IsSync, AllSend, sendable, recorded_send, struct_send}
use denote.Struct.Declared as D
use Rattle.std.proofs.Crossing.{crosses}
use Rattle.atomic_table.proofs.send_lease.SendLease.TheSendSync.{the_sync as lease-sync}
use Rattle.atomic_table.proofs.shared.Seat.TheSendSync.{the_send as token-send}
use Rattle.atomic_table.proofs.shared.Shared.TheSendSync.{the_sync as shared-sync}
use Rattle.hub_rule.specs.contracts.slot.Slot as Slot
use Rattle.group_locks.specs.contracts.state.SeatState as State
use Rattle.group_locks.specs.contracts.seat.Seat as Seat
use Rattle.group_locks.specs.contracts.hub.Hub as Hub
use Rattle.replay_hub.specs.contracts.deed.Entry as Entry
use Rattle.replay_hub.specs.contracts.deed.Task as Task
use Rattle.replay_hub.specs.contracts.scene.ReplayScene as Scene

pub entry-send : (R C : RattleType) → IsSend (Entry.the_row R C)
entry-send R C = search (sendable, crosses) depth 60

pub entry-sync : (R C : RattleType) → IsSync (Entry.the_row R C)
entry-sync R C = search (sendable, crosses) depth 60

pub task-send : (R C : RattleType) → IsSend R → IsSend C → IsSend (Task.the_row R C)
task-send R C r c = search (sendable, crosses) depth 40

scene-sync : (J : RattleType) → IsSync J → IsSync (Scene.the_row J)
scene-sync J j = search (sendable, crosses) depth 40

slot-send : (X W : RattleType) → IsSend X → IsSend W → IsSend (Slot.the_row X W)
slot-send X W x w = search (sendable, crosses) depth 60

field-send : (E X W : RattleType) → IsSend E → IsSend X → IsSend W → IsSend (State.the_field E X W).row
field-send E X W e x w = search (sendable, crosses, token-send, slot-send) depth 60

seat-send : (S E W X H : RattleType) → IsSend E → IsSend W → IsSend X → IsSend (Seat.the_row S E W X H)
seat-send S E W X H e w x =
    let all : AllSend (D.shape (Seat.the_type S E W X H)).fields = (field-send E X W e x w, tt) in
    recorded_send _ _ _ (Seat.the_type S E W X H).to_one (struct_send (D.shape (Seat.the_type S E W X H)) all)

hub-sync : (S E W X H : RattleType) (g : _) → IsSync S → IsSend W → IsSend X → IsSync (Hub.the_row S E W X H g)
hub-sync S E W X H g s w x = search (sendable, crosses, shared-sync, lease-sync, slot-send) depth 60

module _ (J R C X H : RattleType) (r : IsSend R) (c : IsSend C) (x : IsSend X) where
  -- a seat of the hub of a replay over rows, channels and shards that may cross threads
  pub seat-crosses : IsSend (Seat.the_row (Scene.the_row J) (Entry.the_row R C) (Task.the_row R C) X H)
  seat-crosses = seat-send (Scene.the_row J) (Entry.the_row R C) (Task.the_row R C) X H (entry-send R C) (task-send R C r c) x

  -- and the hub
  pub hub-shared : (g : _) → IsSync J → IsSync (Hub.the_row (Scene.the_row J) (Entry.the_row R C) (Task.the_row R C) X H g)
  hub-shared g j = hub-sync (Scene.the_row J) (Entry.the_row R C) (Task.the_row R C) X H g (scene-sync J j) (task-send R C r c) x
