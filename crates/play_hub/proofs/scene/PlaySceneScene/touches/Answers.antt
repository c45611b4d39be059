use Rattle.play_hub.proofs.Bits.{bits, low}
use Rattle.play_hub.proofs.scene.PlaySceneScene.touches.Goals as goal

pub returns-clause-bits : goal.returns-clause-bits
returns-clause-bits g c k lt = bits c.args.entry.now.touched k lt

pub returns-clause-low : goal.returns-clause-low
returns-clause-low g c k e = low c.args.entry.now.touched k e
