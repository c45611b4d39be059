use Rattle.std.proofs.Common.{◌≡◌, List, refl, sym, subst}
use Rattle.std.specs.Prelude.{Option, MatchOption, IsPermutation}
use Rattle.calculus.proofs.Permutations.{join, moved_so}
use Rattle.calculus.specs.Rows.{Row}
use Rattle.least_step.specs.Least.{AllowsNone, IsLeast}
use Rattle.least_step.specs.declared.least.LeastStep.{LeastStep}
use Rattle.replay_runs.proofs.Closing.{first-differ}
use Rattle.replay_runs.proofs.ending.end_done.Goals as goal

pub returns-in-None-clause-ends : goal.returns-in-None-clause-ends
returns-in-None-clause-ends c =
    let same : c.as_slice.result.now ≡ c.in_ok-rows.rows.items = c.as_slice.ensures.value in
    λ b made store are channels has apart none.
    let p : IsPermutation c.in_ok-rows.rows.items store = c.in_ok-rows.ensures store c.requires.shards are channels in
    let q : IsPermutation c.as_slice.result.now store = subst (λ (l : List Row). IsPermutation l store) (sym same) p in (
      subst (λ (o : Option LeastStep). MatchOption o (AllowsNone b made) (IsLeast b made)) c.in-None.is
          (c.in_ok-least.ensures b made (join has (moved_so q)) (first-differ store c.as_slice.result.now q apart) none),
      refl,
      refl,
      p,
      refl,
    )

pub returns-in-Some-clause-ends : goal.returns-in-Some-clause-ends
returns-in-Some-clause-ends c =
    let same : c.as_slice.result.now ≡ c.in_ok-rows.rows.items = c.as_slice.ensures.value in
    λ b made store are channels has apart none.
    let p : IsPermutation c.in_ok-rows.rows.items store = c.in_ok-rows.ensures store c.requires.shards are channels in
    let q : IsPermutation c.as_slice.result.now store = subst (λ (l : List Row). IsPermutation l store) (sym same) p in
    subst (λ (o : Option LeastStep). MatchOption o (AllowsNone b made) (IsLeast b made)) c.in-Some.is
    (c.in_ok-least.ensures b made (join has (moved_so q)) (first-differ store c.as_slice.result.now q apart) none)
