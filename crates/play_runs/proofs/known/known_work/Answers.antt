use Rattle.std.proofs.Common.{ℕ, sym, subst}
use Rattle.play_runs.specs.Rooms.{IsLeastRoom}
use Rattle.play_runs.proofs.Knowing.{least-room}
use Rattle.play_runs.proofs.known.known_work.Goals as goal

pub invariant_of-result : goal.invariant_of-result
invariant_of-result c =
    let p = c.args.prices.now in
    let s = c.args.seed.now in
    record { room = subst (λ t. (n : ℕ) × IsLeastRoom p c.args.cap t s n) (sym c.of.ensures) (least-room p c.args.cap c.args.term.now s c.requires.closed) }
