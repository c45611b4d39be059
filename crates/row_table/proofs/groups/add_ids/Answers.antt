use Rattle.std.proofs.Common.{ℕ, sym, ◌∙◌, subst, inl, inr, Vec, Global}
use Rattle.row_table.specs.Groups.{HasId}
use Rattle.row_table.proofs.Changing.{in-more}
use Rattle.row_table.proofs.groups.add_ids.Goals as goal

pub loop-key-preserved : goal.loop-key-preserved
loop-key-preserved c =
    let i = c.loop-key.invariant in
    let new = c.add_id.new.groups.entries in
    let x = c.args.id.0 in
    record {
      there = λ k m. elim (in-more c.args.keys.now c.loop-key.key-index _ k c.loop-key-test.true m) [
        | inl n ↦ c.in_ok-add_id.ensures.kept k x (i.there k n)
        | inr e ↦ subst (λ (z : Vec ℕ Global). HasId new z.items x) (c.key-item.is ∙ sym e) c.in_ok-add_id.ensures.there
      ];
      kept = λ k y h. c.in_ok-add_id.ensures.kept k y (i.kept k y h);
    }
