use Rattle.std.proofs.Common.{◌≡◌, ◌∷◌, ◌++◌, List, sym, ap, subst, ◌∙◌}
use Rattle.std.specs.Prelude.{IfOk, MatchOption, Option, option_copied}
use Rattle.calculus.specs.declared.ids.Digest.{Digest}
use Rattle.calculus.specs.Log.{Step}
use Rattle.calculus.specs.Rows.{Row}
use Rattle.event_log.specs.View.{step_of}
use Rattle.replay_slots.specs.Hands.{all_shown, parts_of}
use Rattle.replay_shards.specs.Ready.{IsReady}
use Rattle.replay_shards.specs.Taken.{bytes_of, AreTaken, taken_rows, IsNotTaken, IsTaken, FitsNothing, OneIsNotTaken}
use Rattle.replay_shards.specs.declared.taking.TakenRows.{TakenRows}
use Rattle.replay_shards.proofs.Fitting.{may, none-may, none-received, none-taken, answered}
use Rattle.replay_shards.proofs.fit.fit.Goals as goal

pub returns-then-not-may_fit : goal.returns-then-not-may_fit
returns-then-not-may_fit c before s after rig steps small place e =
    none-may (before ++ s ∷ after) (all_shown (parts_of c.args.attempt.now.slots.now)) before s c.args.attempt.now.step small (sym (c.may_fit.ensures before s after rig place e) ∙ c.if-not-may_fit.true)

pub returns-in_default : goal.returns-in_default
returns-in_default c before s after rig steps small place e =
    let ss = before ++ s ∷ after in
    let shown = all_shown (parts_of c.args.attempt.now.slots.now) in
    none-received ss shown before s c.args.attempt.now.step (subst (λ (u : Step). IsNotTaken ss shown c.args.attempt.now.step u.receiver) (sym e) (subst (λ (o : Option Row). MatchOption o (IsNotTaken ss shown c.args.attempt.now.step c.args.wanted.now.cont.0) (IsTaken ss shown c.args.attempt.now.step c.args.wanted.now.cont.0)) (ap option_copied c.in_default.is) (c.lend_row.ensures ss rig)))

pub returns-in_default-2 : goal.returns-in_default-2
returns-in_default-2 c before s after rig steps small place e =
    let ss = before ++ s ∷ after in
    let shown = all_shown (parts_of c.args.attempt.now.slots.now) in
    none-taken ss shown before s c.args.attempt.now.step
    (subst (λ (u : Step). OneIsNotTaken ss shown c.args.attempt.now.step u.data_ids) (sym e)
    (subst (λ (l : List Digest). OneIsNotTaken ss shown c.args.attempt.now.step (bytes_of l)) c.as_slice.ensures.value (subst (λ (o : Option TakenRows). MatchOption o (OneIsNotTaken ss shown c.args.attempt.now.step (bytes_of c.as_slice.result.now)) (λ t. AreTaken ss shown c.args.attempt.now.step (bytes_of c.as_slice.result.now) (taken_rows t))) c.in_default-2.is (c.in_ok-sends.ensures ss rig))))

pub returns : goal.returns
returns c before s after rig steps small place e =
    let ss = before ++ s ∷ after in
    let shown = all_shown (parts_of c.args.attempt.now.slots.now) in
    let u = step_of c.args.wanted.now in
    let fits = subst (λ (z : Step). c.may_fit.result ≡ may ss shown before z c.args.attempt.now.step) e (c.may_fit.ensures before s after rig place e) in
    subst (λ (z : Step). IfOk c.meet_taken.result (λ o. MatchOption o (FitsNothing ss shown before z c.args.attempt.now.step) (IsReady ss shown before z c.args.attempt.now.step))) (sym e)
    (answered ss shown before u c.args.attempt.now.step (sym fits ∙ c.if-not-may_fit.false) c.in-Some.receiver.now (taken_rows c.in-Some-2.sends) (subst (λ (o : Option Row). MatchOption o (IsNotTaken ss shown c.args.attempt.now.step c.args.wanted.now.cont.0) (IsTaken ss shown c.args.attempt.now.step c.args.wanted.now.cont.0)) (ap option_copied c.in-Some.is) (c.lend_row.ensures ss rig))
    (subst (λ (l : List Digest). AreTaken ss shown c.args.attempt.now.step (bytes_of l) (taken_rows c.in-Some-2.sends)) c.as_slice.ensures.value (subst (λ (o : Option TakenRows). MatchOption o (OneIsNotTaken ss shown c.args.attempt.now.step (bytes_of c.as_slice.result.now)) (λ t. AreTaken ss shown c.args.attempt.now.step (bytes_of c.as_slice.result.now) (taken_rows t))) c.in-Some-2.is (c.in_ok-sends.ensures ss rig)))
    c.meet_taken.result (λ r ds found same are. c.meet_taken.ensures ss r ds rig steps found same (are ∙ sym c.rows.ensures)))
