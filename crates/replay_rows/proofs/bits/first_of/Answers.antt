use Rattle.std.proofs.Common.{sym, ◌∙◌}
use Rattle.replay_rows.proofs.Shifting.{only-home}
use Rattle.replay_rows.proofs.bits.first_of.Goals as goal

pub returns-in-Some : goal.returns-in-Some
returns-in-Some c = only-home c.args.row.now c.in-Some.number (λ k. sym (c.requires k) ∙ c.in-Some.ensures.1 k)
