use Rattle.std.proofs.Common.{sym, ◌∙◌}
use Rattle.checkpoint.specs.Groups.{row_of}
use Rattle.checkpoint.proofs.Adding.{codes-added, open-push, apart-more}
use Rattle.checkpoint.proofs.groups.Groups.add.Goals as goal

pub returns-clause-holds : goal.returns-clause-holds
returns-clause-holds g c = λ rows h p.
    let t = c.in_ok-turn.ensures.holds rows h p in
    let e = sym c.requires.0 ∙ sym c.in_ok-turn.ensures.key in
    record {
      codes = codes-added (λ s. s.now) c.turn.new.self.codes.items c.push.new.self.items c.args.keyed.now.code rows (row_of c.args.keyed.now) c.turn.new.self.key.0 c.in_ok-push.ensures.items c.requires.1 t.codes e;
      closed = open-push c.turn.new.self.closed.items c.turn.new.self.key.0 rows (row_of c.args.keyed.now) e t.closed;
      apart = apart-more c.turn.new.self.closed.items rows (row_of c.args.keyed.now) t.apart;
      last = t.last;
    }
