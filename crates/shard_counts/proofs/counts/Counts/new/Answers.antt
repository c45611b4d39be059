use Rattle.std.proofs.Common.{ℕ, ◌≡◌, zero, suc, get_or, List, refl, ap, ◌∙◌}
use Rattle.std.proofs.Math.ListN.{replicate}
use Rattle.shard_counts.proofs.counts.Counts.new.Goals as goal

zeros : (n s : ℕ) → get_or {A = ℕ} (replicate n 0) s 0 ≡ 0
zeros zero s = refl
zeros (suc n) zero = refl
zeros (suc n) (suc s) = zeros n s

pub returns : goal.returns
returns c s = ap (λ (l : List ℕ). get_or l s 0) (c.in_ok-vec.ensures.items_if_clones_equal (λ y e. e)) ∙ zeros 64 s
