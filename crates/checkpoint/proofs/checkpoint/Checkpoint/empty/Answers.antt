use Rattle.std.proofs.Common.{List, map, sym, ◌∙◌, ap, subst}
use Rattle.calculus.specs.Rows.{Row}
use Rattle.radix_root.specs.Leaves.{Leaves, groups_of, group_digest, digest_at}
use Rattle.checkpoint.specs.Kept.{AreKept}
use Rattle.checkpoint.specs.Marks.{seen_mark, row_mark}
use Rattle.checkpoint.proofs.Adding.{sorted-none}
use Rattle.checkpoint.proofs.Nothing.{nothing-kept}
use Rattle.checkpoint.proofs.checkpoint.Checkpoint.empty.Goals as goal

pub invariant_of-result : goal.invariant_of-result
invariant_of-result c = (
  subst AreKept (sym c.new.ensures.items) nothing-kept,
  λ k. ap (λ (t : Leaves). digest_at t k) c.new-2.ensures ∙ ap (group_digest k) (sym sorted-none) ∙ ap (λ (rs : List Row). group_digest k (groups_of rs k)) (sym c.new.ensures.items),
  ap (map seen_mark) c.new-3.ensures.items ∙ sym (ap (map row_mark) c.new.ensures.items),
)
