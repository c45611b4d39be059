-- An entry may cross threads where its rows and channels may.
use denote.Param.Send.{IsSend, IsSync, sendable}
use denote.RattleType.{RattleType}
use Rattle.std.proofs.Crossing.{crosses}
use Rattle.replay_hub.specs.contracts.deed.Entry as Entry

-- owned
pub entry-send : (R C : RattleType) → IsSend R → IsSend C → IsSend (Entry.the_row R C)
entry-send R C r c = search (sendable, crosses) depth 60

-- and shared
pub entry-sync : (R C : RattleType) → IsSync R → IsSync C → IsSync (Entry.the_row R C)
entry-sync R C r c = search (sendable, crosses) depth 60
