use Rattle.std.proofs.Common.{◌∙◌}
use Rattle.match_targets.proofs.Alike.{same_codes}
use Rattle.row_meeting.proofs.binds.same_channel.Goals as goal

pub returns : goal.returns
returns c = c.is_eq.ensures ∙ same_codes c.args.a.now c.args.b.now c.cmp_terms.result c.requires.a c.requires.b c.cmp_terms.ensures
