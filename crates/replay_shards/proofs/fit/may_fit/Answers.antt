use Rattle.std.proofs.Common.{◌≡◌, ◌∷◌, ◌++◌, List, Bool, true, false, refl, sym, ap, ◌∙◌}
use Rattle.std.specs.Prelude.{◌&&◌, not, eqb, count_by}
use Rattle.calculus.specs.declared.ids.Digest.{Digest}
use Rattle.calculus.specs.Log.{Step}
use Rattle.calculus.specs.Steps.{differ, same_meeting}
use Rattle.replay_slots.specs.Hands.{all_shown, parts_of}
use Rattle.replay_rows.specs.Rows.{has_full}
use Rattle.replay_shards.specs.Taken.{bytes_of}
use Rattle.replay_shards.proofs.fit.may_fit.Goals as goal

pub returns : goal.returns
returns c before s after rig place e =
    let shown = all_shown (parts_of c.args.attempt.now.slots.now) in
    let full : has_full s shown ≡ false = ap (λ (z : Step). has_full z shown) e ∙ sym c.has_full_row.ensures ∙ c.if-has_full_row.false in
    let apart : differ s.data_ids ≡ true = ap (λ (z : Step). differ z.data_ids) e ∙ ap (λ (l : List Digest). differ (bytes_of l)) (sym c.as_slice.ensures.value) ∙ sym c.are_different.ensures ∙ c.if-not-are_different.false in
    let repeats = c.is_repeat.ensures (before ++ s ∷ after) before s after rig refl place in
    let last : Bool = eqb s.repeat (count_by (same_meeting s) before) in
    repeats ∙ ap (λ (z : Step). eqb z.repeat (count_by (same_meeting s) before)) (sym e) ∙ sym (ap (λ b. not b && (differ s.data_ids && last)) full ∙ ap (λ b. b && last) apart)
