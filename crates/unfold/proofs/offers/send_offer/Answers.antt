use Rattle.std.proofs.Common.{[]}
use Rattle.rho_eval.proofs.Parts.{members-closed}
use Rattle.unfold.proofs.offers.send_offer.Goals as goal

pub eval_terms-requires-clause-closed : goal.eval_terms-requires-clause-closed
eval_terms-requires-clause-closed c = members-closed [] c.args.args.now.items c.requires.1.0.1.1.0.1
