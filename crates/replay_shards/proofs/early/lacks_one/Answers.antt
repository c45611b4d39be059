use Rattle.std.proofs.Common.{sym, ap, ◌∙◌}
use Rattle.std.specs.Prelude.{option_map, option_copied}
use Rattle.replay_slots.specs.Hands.{all_shown, parts_of}
use Rattle.replay_rows.specs.Rows.{seen_row}
use Rattle.replay_shards.proofs.Lacking.{lacks-here}
use Rattle.replay_shards.proofs.early.lacks_one.Goals as goal

pub returns-in-None : goal.returns-in-None
returns-in-None c e = lacks-here (all_shown (parts_of c.args.slots.now)) c.args.ids.now c.loop-id.id-index _ c.loop-id-test.true (sym c.find_in.ensures ∙ ap (λ o. option_map seen_row (option_copied o)) c.in-None.is)
