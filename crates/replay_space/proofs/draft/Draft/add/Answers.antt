use Rattle.std.proofs.Common.{◌∙◌, sym, refl, arith}
use Rattle.replay_space.proofs.Drafting.{again, first}
use Rattle.replay_space.proofs.draft.Draft.add.Goals as goal

pub returns-in_ok-push-in-Some-clause-drafted : goal.returns-in_ok-push-in-Some-clause-drafted
returns-in_ok-push-in-Some-clause-drafted c ns d =
    again ns c.args.naming.now c.args.self.now _ d c.in-Some.number c.index_mut.result.now c.push.new.self (sym c.number_of.ensures ∙ c.in-Some.is) c.index_mut.ensures.value refl refl refl c.in_ok-push-in-Some.ensures.items

pub returns-in_ok-push-in-None-2-clause-drafted : goal.returns-in_ok-push-in-None-2-clause-drafted
returns-in_ok-push-in-None-2-clause-drafted c ns d =
    first ns c.args.naming.now c.args.self.now _ d c.len-next.result c.in_ok-list-in-None.list (sym c.number_of.ensures ∙ c.in-None.is) (omega (arith, c.len-next.ensures, c.args.self.now.uses.ok.0)) c.in_ok-insert-in-None.ensures.entries
    c.in_ok-push-in-None-2.ensures.items c.in_ok-list-in-None.ensures c.in_ok-push-in-None.ensures.items
