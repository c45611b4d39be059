use Rattle.next_states.proofs.Gathering.{set-here, set-others, set-only, set-bare}
use Rattle.next_states.proofs.changed.Changed.add.Goals as goal

pub returns : goal.returns
returns c = λ f.
    let m = c.args.self.now.groups in
    let n = c.set.new.self.groups in
    let d = c.args.key.now.0 in
    let w = c.new.result in
    let e = c.set.ensures f in
    (e.0, record { here = set-here m n d w e.1; others = set-others m n d w e.1; bare = set-bare m n d w e.1 c.new.ensures.items; only = set-only m n d w e.1 })
