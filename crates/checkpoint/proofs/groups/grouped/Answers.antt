use Rattle.std.proofs.Common.{◌≡◌, ◌+◌, List, ◌∷◌, length, map, take, drop, refl, sym, ◌∙◌, ap, subst, arith, inl}
use Rattle.std.proofs.Math.Seq.{take-length}
use Rattle.radix_root.specs.Leaves.{groups_of}
use Rattle.checkpoint.specs.declared.keyed.KeyedRow.{KeyedRow}
use Rattle.checkpoint.specs.Groups.{row_of, AreApart, Give}
use Rattle.checkpoint.proofs.Adding.{Going, go-on, none-held, taken-more, dropped-more}
use Rattle.checkpoint.proofs.groups.grouped.Goals as goal

pub loop-row-init : goal.loop-row-init
loop-row-init g c = record {
  going = record { holds = none-held _ c.in_ok-with_capacity.ensures.items c.new.ensures.items; least = λ k. inl refl; next = inl (λ k. refl); rest = c.requires.ascending; keyed = c.requires.keyed };
  counted = omega arith;
}

pub loop-row-preserved : goal.loop-row-preserved
loop-row-preserved g c =
    let ks = c.args.keyed.now in
    let i = c.loop-row.row-index in
    let x = c.row-item.result in
    let before : Going c.loop-row.groups (take i ks) (x ∷ drop (i + 1) ks) = subst (Going c.loop-row.groups (take i ks)) (dropped-more ks i x c.loop-row-test.true c.row-item.is) c.loop-row.invariant.going in
    let going = subst (λ ds. Going c.add.new.self ds (drop (i + 1) ks)) (sym (taken-more ks i x c.loop-row-test.true c.row-item.is))
    (go-on c.loop-row.groups c.add.new.self (take i ks) (drop (i + 1) ks) x before c.in_ok-add.ensures.key c.in_ok-add.ensures.holds) in
    record { going = going; counted = omega (arith, c.loop-row.invariant.counted, c.in_ok-add.ensures.counted) }

pub returns-clause-apart : goal.returns-clause-apart
returns-clause-apart g c =
    let ks = c.args.keyed.now in
    let e : c.loop-row.row-index ≡ length ks = omega arith in
    subst (λ (ds : List KeyedRow). AreApart c.close.new.self.closed.items (map row_of ds)) (ap (λ n. take n ks) e ∙ take-length ks)
    (c.in_ok-close.ensures.apart (map row_of (take c.loop-row.row-index ks)) c.loop-row.invariant.going.holds)

pub returns-clause-give : goal.returns-clause-give
returns-clause-give g c =
    let ks = c.args.keyed.now in
    let e : c.loop-row.row-index ≡ length ks = omega arith in
    subst (λ (ds : List KeyedRow). Give c.close.new.self.closed.items (groups_of (map row_of ds))) (ap (λ n. take n ks) e ∙ take-length ks)
    (c.in_ok-close.ensures.closed (map row_of (take c.loop-row.row-index ks)) c.loop-row.invariant.going.holds)
