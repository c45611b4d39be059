use Rattle.std.proofs.Common.{◌≡◌, ◌+◌, ℕ, suc, List, take, ap, sym, subst, ◌∙◌, arith}
use Rattle.std.proofs.Math.Seq.{take-suc}
use Rattle.std.proofs.lemmas.List.{take_all}
use Rattle.replay_space.specs.declared.naming.Naming.{Naming}
use Rattle.replay_space.specs.Rigs.{IsDraft}
use Rattle.replay_space.proofs.draft.Draft.from_namings.Goals as goal

pub add-requires-clause-few : goal.add-requires-clause-few
add-requires-clause-few c = omega (arith, c.loop-naming.invariant.few, c.loop-naming-test.true, c.requires)

pub add-requires-clause-drafted : goal.add-requires-clause-drafted
add-requires-clause-drafted c = (take c.loop-naming.naming-index c.args.namings.now, c.loop-naming.invariant.drafted)

pub loop-naming-preserved : goal.loop-naming-preserved
loop-naming-preserved c = record {
  drafted = subst (λ (l : List Naming). IsDraft l c.add.new.self) (sym (ap (λ n. take n items) next ∙ take-suc items i _ c.loop-naming-test.true)) (c.in_ok-add.ensures.drafted (take i items) c.loop-naming.invariant.drafted);
  few = omega (arith, c.in_ok-add.ensures.few, c.loop-naming.invariant.few);
}
  where
    items : List Naming
    items = c.args.namings.now

    i : ℕ
    i = c.loop-naming.naming-index

    next : i + 1 ≡ suc i
    next = omega arith

pub returns : goal.returns
returns c = subst (λ (l : List Naming). IsDraft l c.loop-naming.draft) (take_all c.loop-naming.naming-index c.args.namings.now c.loop-naming-test.false) c.loop-naming.invariant.drafted
