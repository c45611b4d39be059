use Rattle.std.proofs.Common.{◌≡◌, ◌<◌, ◌++◌, ◌∷◌, [], List, true, sym, ◌∙◌, ap, arith, length, take, map as each}
use Rattle.std.proofs.lemmas.List.{take_all}
use Rattle.calculus.specs.declared.ids.Digest.{Digest}
use Rattle.calculus.specs.Steps.{is_one_of}
use Rattle.event_log.specs.View.{step_of}
use Rattle.replay_space.proofs.Filed.{mapped-more}
use Rattle.replay_space.proofs.Lone.{lone-here, lone-receiver, lone-nowhere, none-further, taken-named, member-at}
use Rattle.replay_space.proofs.index.Index.has_lone_id.Goals as goal

pub returns-then-is_lone : goal.returns-then-is_lone
returns-then-is_lone c ss i = lone-receiver ss (step_of c.args.step.now) c.is_lone.result c.if-is_lone.true (c.is_lone.ensures ss i)

pub returns-then-is_lone-2 : goal.returns-then-is_lone-2
returns-then-is_lone-2 c ss i =
    let items = c.args.step.now.taken.items in
    let t = c.index.result.now in
    let short : c.loop-i.i < length items = omega (arith, c.loop-i-test.true, c.len-i-end.ensures) in
    let there : is_one_of t.0 (each (λ (d : Digest). d.0) items) ≡ true = ap (λ (d : Digest). is_one_of d.0 (each (λ (z : Digest). z.0) items)) c.index.ensures ∙ member-at (λ (d : Digest). d.0) items c.loop-i.i t short in
    lone-here ss (step_of c.args.step.now) t.0 (taken-named (step_of c.args.step.now) t.0 there) ((c.is_lone-in-loop-i.ensures ss i).0 c.if-is_lone-2.true)

pub loop-i-preserved : goal.loop-i-preserved
loop-i-preserved c ss x i one =
    let items = c.args.step.now.taken.items in
    let t = c.index.result.now in
    let short : c.loop-i.i < length items = omega (arith, c.loop-i-test.true, c.len-i-end.ensures) in
    let before = each (λ (d : Digest). d.0) (take c.loop-i.i items) in
    ap (is_one_of x) (mapped-more (λ (d : Digest). d.0) items c.loop-i.i t short ∙ ap (λ (d : Digest). before ++ d.0 ∷ []) (sym c.index.ensures))
    ∙ none-further ss x t.0 before c.is_lone-in-loop-i.result c.if-is_lone-2.false (c.is_lone-in-loop-i.ensures ss i) one (c.loop-i.invariant ss x i one)

pub returns : goal.returns
returns c ss i =
    let items = c.args.step.now.taken.items in
    let all : take c.loop-i.i items ≡ items = take_all c.loop-i.i items (omega (arith, c.loop-i-test.false, c.len-i-end.ensures)) in
    lone-nowhere ss (step_of c.args.step.now) c.is_lone.result c.if-is_lone.false (c.is_lone.ensures ss i) (λ x one. ap (λ (l : List Digest). is_one_of x (each (λ (d : Digest). d.0) l)) (sym all) ∙ c.loop-i.invariant ss x i one)
