use Rattle.std.proofs.Common.{◌≡◌, List, ℕ, ◌∙◌, [], ap, subst, arith, length}
use Rattle.std.specs.Prelude.{Some, slice_get, count_by}
use Rattle.std.proofs.lemmas.Option.{get_or_from_slice_get}
use Rattle.calculus.specs.Log.{Step}
use Rattle.calculus.specs.Steps.{same_meeting}
use Rattle.replay_space.specs.Rigs.{repeats_after}
use Rattle.replay_space.proofs.Filed.{repeats-many, repeats-at}
use Rattle.replay_space.proofs.rig.Rig.repeat_of.Goals as goal

pub index-requires : goal.index-requires
index-requires c = omega (arith, ap (λ (l : List ℕ). length l) c.requires.1.0.repeats, repeats-many [] c.requires.0, c.requires.1.1)

pub returns : goal.returns
returns c ss before s after r log place =
    let items = c.args.self.now.repeats.items in
    let found : slice_get items (length before) ≡ Some (count_by (same_meeting s) before) =
    ap (λ (l : List ℕ). slice_get l (length before)) r.repeats ∙ ap (λ (us : List Step). slice_get (repeats_after [] us) (length before)) log ∙ repeats-at [] before s after in
    c.index.ensures ∙ get_or_from_slice_get items c.args.step (count_by (same_meeting s) before) c.index.result.now (subst (λ (n : ℕ). slice_get items n ≡ Some (count_by (same_meeting s) before)) place found)
