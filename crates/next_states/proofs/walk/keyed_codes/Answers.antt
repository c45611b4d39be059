use Rattle.std.proofs.Common.{◌≡◌, List, [], ◌∷◌, ◌++◌, length, map, sym, ◌∙◌, ap, subst, append_assoc, append-nil, arith}
use Rattle.std.specs.Vec.Iter.{into_iter_items}
use Rattle.next_states.specs.Pairs.{Pair, pair_of}
use Rattle.next_states.specs.Walks.{Agrees, Finds, IsCoded, TakesAll, pair_in, row_of}
use Rattle.next_states.specs.declared.changed.Changed.{Changed}
use Rattle.next_states.specs.declared.walk.Coded.{Coded}
use Rattle.next_states.proofs.Walking.{all-before, pairs-push, keyed-push, nothing-left}
use Rattle.next_states.proofs.walk.keyed_codes.Goals as goal

pub loop-coded-preserved : goal.loop-coded-preserved
loop-coded-preserved c =
    let at = c.loop-coded in
    let xs = at.yielded in
    let x = c.in-Some.coded in
    let steps : into_iter_items at.coded-iterator ≡ x ∷ into_iter_items c.next.new.self = c.in-Some.ensures.steps.0 in
    record {
      whole = append_assoc xs (x ∷ []) _ ∙ ap (λ (ys : List Coded). xs ++ ys) (sym steps) ∙ at.invariant.whole;
      left =
          let gone = c.in-Some.ensures.steps.1 in
          let short = ap length steps in
          let before = at.invariant.left in
          omega arith;
      taken = λ f.
          let kept = c.keep.ensures f in
          let one = c.take-key.ensures kept.0 in
          let was = at.invariant.taken one.0 in
          let done = map pair_of (map row_of xs) in
          let p = pair_of (row_of x) in
          let left = c.take-key.new.self.left in (
            was.0,
            record {
              pairs = λ all h s.
                  let b = all-before IsCoded xs x h in
                  ap (map pair_in) kept.1.0 ∙ keyed-push at.keyed.items _ xs x (was.1.pairs all b.0 s) (one.1.own all done b.1 (was.1.agrees all b.0 s)) b.1;
              agrees = λ all h s.
                  let b = all-before IsCoded xs x h in
                  subst (λ (ch : Changed). Agrees (record { left = left; changed = ch }) all (map pair_of (map row_of (xs ++ x ∷ [])))) (sym kept.1.1)
                  (subst (Agrees c.take-key.new.self all) (sym (pairs-push xs x)) (one.1.agrees all done b.1 (was.1.agrees all b.0 s)));
              finds = λ all next h s g.
                  let b = all-before IsCoded xs x h in
                  let whole : map pair_of (map row_of (xs ++ x ∷ [])) ++ next ≡ done ++ p ∷ next = ap (λ (ps : List Pair). ps ++ next) (pairs-push xs x) ∙ append_assoc done (p ∷ []) next in
                  subst (λ (ch : Changed). Finds (record { left = left; changed = ch }) all (map pair_of (map row_of (xs ++ x ∷ []))) next) (sym kept.1.1)
                  (subst (λ (ps : List Pair). Finds c.take-key.new.self all ps next) (sym (pairs-push xs x))
                  (one.1.finds all done next b.1 (was.1.agrees all b.0 s) (was.1.finds all (p ∷ next) b.0 s (subst (λ (ps : List Pair). Finds c.args.walk.now all [] ps) whole g))));
            },
          );
    }

pub returns : goal.returns
returns c = λ f.
    let at = c.loop-coded in
    let was = at.invariant.taken f in
    let empty : into_iter_items at.coded-iterator ≡ [] = nothing-left _ (sym at.invariant.left ∙ c.in-None.ensures.steps.0) in
    let whole : at.yielded ≡ c.args.rows.items = sym (append-nil at.yielded) ∙ ap (λ (ys : List Coded). at.yielded ++ ys) (sym empty) ∙ at.invariant.whole ∙ c.into_iter-coded-iterator.ensures.into_iter_gives.0 in
    (was.0, subst (λ (ys : List Coded). TakesAll ys c.args.walk.now at.walk at.keyed.items) whole was.1)
