use Rattle.std.proofs.Common.{◌≡◌, ◌%◌, ◌^◌, [], ◌∷◌, ◌++◌, length, map, refl, ap, ◌∙◌, arith, append_assoc}
use Rattle.calculus.specs.Seeds.{digest_of, Split}
use Rattle.rho_term.specs.Parts.{part_tree}
use Rattle.unfold.specs.declared.turns.Todo.{Todo}
use Rattle.unfold.specs.Progress.{pending_from, in_turn}
use Rattle.unfold.proofs.Ready.{part-ready, part-pushed, ready-pushed, all-pushed}
use Rattle.unfold.proofs.turns.push_parts.Goals as goal

pub loop-part-preserved : goal.loop-part-preserved
loop-part-preserved c =
    let v = c.loop-part.invariant in let x = c.in-Some.part in let ys = c.pop.new.self.items in let s = c.args.seed.now in
    let base = in_turn c.args.left.now.items in
    let k = c.len.result % 2 ^ 32 in
    let d : Todo = record { part = x; under = s; number = k } in
    let e : c.loop-part.parts.items ≡ ys ++ x ∷ [] = c.in-Some.ensures.items in
    let q : c.into_parts-parts.result.items ≡ ys ++ x ∷ v.done = v.split ∙ (ap (λ zs. zs ++ v.done) e ∙ append_assoc ys (x ∷ []) v.done) in
    let l : c.len.result ≡ length ys = omega (arith, c.len.ensures, c.pop.new.self.ok.0) in
    record {
      done = x ∷ v.done;
      split = q;
      next = part-pushed s c.loop-part.left.items c.push.new.self.items d base ys x v.done k (v.next ∙ ap (λ zs. pending_from s (length zs) (map part_tree v.done) ++ base) e) c.in_ok-push.ensures.items refl refl (ap (λ m. m % 2 ^ 32) l);
      ready = ready-pushed c.loop-part.left.items c.push.new.self.items d c.in_ok-push.ensures.items (part-ready c.args.term c.into_parts-parts.result.items ys x v.done (digest_of (Split s k)) c.into_parts-parts.ensures.parts q c.requires.closed c.into_parts-parts.ensures.normal) v.ready;
    }

pub returns-clause-next : goal.returns-clause-next
returns-clause-next c =
    let v = c.loop-part.invariant in
    let l : length c.loop-part.parts.items ≡ 0 = omega (arith, c.in_default.ensures.cases, c.loop-part.parts.ok.0) in
    all-pushed c.args.seed.now c.args.term c.into_parts-parts.result.items c.loop-part.parts.items v.done (in_turn c.loop-part.left.items) (in_turn c.args.left.now.items) c.into_parts-parts.ensures.parts v.split l v.next
