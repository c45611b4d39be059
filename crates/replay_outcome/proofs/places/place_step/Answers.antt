use Rattle.std.proofs.Common.{◌≡◌, List, ap, sym, subst, ◌∙◌, None, Some}
use Rattle.std.specs.Prelude.{Option, slice_get}
use Rattle.replay_outcome.specs.declared.places.Came.{Came}
use Rattle.replay_outcome.proofs.Placing.{placed, taken}
use Rattle.replay_outcome.proofs.places.place_step.Goals as goal

pub returns-then-is_free-clause-kept : goal.returns-then-is_free-clause-kept
returns-then-is_free-clause-kept g c ds d i p f l k =
    let free = subst (λ (os : List (Option Came)). slice_get os c.args.made.step ≡ Some None) c.as_slice.ensures.value c.if-is_free.ensures in
    placed ds d c.args.made.step (record { price = c.args.made.price; fault = c.args.made.fault; line = c.args.made.line }) c.args.places.now.items i free (sym p) (sym f) (sym l) k

pub returns-clause-kept : goal.returns-clause-kept
returns-clause-kept g c ds d i p f l k =
    taken ds d c.args.made.step c.args.places.now.items i (λ e. c.if-is_free.ensures (ap (λ (os : List (Option Came)). slice_get os c.args.made.step) c.as_slice.ensures.value ∙ e)) k
