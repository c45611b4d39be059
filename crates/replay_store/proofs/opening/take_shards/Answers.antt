use Rattle.std.proofs.Common.{◌≡◌, [], ◌∷◌, length, length-append, List, Some, ap, sym, subst, ◌∙◌, arith}
use Rattle.std.specs.Prelude.{slice_get}
use Rattle.hub_scenes.specs.Spaces.{Part}
use Rattle.replay_slots.specs.Hands.{shard_at}
use Rattle.replay_store.proofs.Opened.{taken-more}
use Rattle.replay_store.proofs.opening.take_shards.Goals as goal

pub loop-number-preserved : goal.loop-number-preserved
loop-number-preserved c =
    let i = c.loop-number.invariant in
    let n = c.loop-number.number in
    let hand = c.args.hand in
    let xs : List Part = c.loop-number.shards.items in
    let y : Part = c.in-Some.shard in
    let p = c.in_ok-push.ensures.items in
    let here : shard_at hand (length xs) ≡ Some y = ap (shard_at hand) i.count ∙ sym (i.rest n (omega arith)) ∙ sym c.remove.ensures.shard ∙ c.in-Some.is in
    record {
      count = omega (arith, ap length p, length-append xs (y ∷ []), i.count);
      each = λ k x e. taken-more hand xs y here i.each k x (subst (λ (l : List Part). slice_get l k ≡ Some x) p e);
      rest = λ k le. c.remove.ensures.others k (λ e. omega (arith, le, e)) ∙ i.rest k (omega (arith, le));
    }
