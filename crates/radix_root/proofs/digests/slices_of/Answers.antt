use Rattle.std.proofs.Common.{◌≡◌, List, ℕ, length, map, take, ap, ◌∙◌, arith}
use Rattle.std.proofs.Math.Seq.{take-length}
use Rattle.std.specs.Borrow.{Bor}
use Rattle.std.specs.declared.alloc.Global.{Global}
use Rattle.std.specs.declared.vec.Vec.{Vec}
use Rattle.radix_root.proofs.Grown.{mapped-more}
use Rattle.radix_root.proofs.digests.slices_of.Goals as goal

pub loop-row-preserved : goal.loop-row-preserved
loop-row-preserved c =
    mapped-more (λ (s : Bor (List ℕ)). s.now) (λ (r : Vec ℕ Global). r.items) c.loop-row.slices.items c.push.new.self.items c.args.rows.now c.loop-row.row-index c.as_slice.result c.row-item.result
    c.in_ok-push.ensures.items c.loop-row-test.true c.row-item.is c.as_slice.ensures.value c.loop-row.invariant

pub returns : goal.returns
returns c =
    let rows = c.args.rows.now in
    let all : c.loop-row.row-index ≡ length rows = omega arith in
    c.loop-row.invariant ∙ ap (λ (rs : List (Vec ℕ Global)). map (λ r. r.items) rs) (ap (λ n. take n rows) all ∙ take-length rows)
