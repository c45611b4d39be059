use Rattle.std.proofs.Common.{List, sym, subst}
use Rattle.std.specs.Prelude.{Option, IfOk, MatchOption}
use Rattle.calculus.specs.Rows.{Row}
use Rattle.row_search.specs.Meetings.{IsFound, MeetsNothing}
use Rattle.rspace_table.specs.Hands.{rows_for, MeetsAt, MeetsNoneAt}
use Rattle.rspace_table.proofs.held.Held.meet_at.Goals as goal

pub returns-in-Some : goal.returns-in-Some
returns-in-Some c =
    let hand = c.args.self.now in
    let o = c.args.op.now in
    subst (λ (s : Option (List Row)). IfOk c.meet.result (λ f. MatchOption f (MeetsNoneAt hand s o) (MeetsAt hand s o))) (sym c.in-Some.is)
    (subst (λ (rows : List Row). IfOk c.meet.result (λ f. MatchOption f (MeetsNothing (rows_for rows hand) o) (IsFound (rows_for rows hand) o))) c.table.ensures c.meet.ensures)

pub returns-in-None : goal.returns-in-None
returns-in-None c = subst (λ (s : Option (List Row)). MeetsNoneAt c.args.self.now s c.args.op.now) (sym c.in-None.is) tt
