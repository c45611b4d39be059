use Rattle.std.proofs.Common.{◌≡◌, ℕ, List, ◌∷◌, ◌++◌, [], length, length-append, map, sym, ◌∙◌, ap, subst, arith}
use Rattle.std.specs.Prelude.{All, Option, IfSome}
use Rattle.std.specs.Map.{keys_of}
use Rattle.std.proofs.lemmas.Cmp.{nat_list_cmp_total}
use Rattle.std.proofs.lemmas.List.Elements.{All-push}
use Rattle.std.proofs.lemmas.Map.Iter.{btree_map_turn, iter_end}
use Rattle.calculus.specs.Steps.{differ, is_one_of}
use Rattle.radix_root.specs.declared.group.Group.{Group}
use Rattle.checkpoint.proofs.Adding.{map-push}
use Rattle.next_states.specs.Pairs.{IsRight, codes_in}
use Rattle.next_states.proofs.Gathering.{Codes, one-found, sorted-differ}
use Rattle.next_states.proofs.Walking.{found-one, right-group, same-list}
use Rattle.next_states.proofs.changed.Changed.into_groups.Goals as goal

pub loop-key-preserved : goal.loop-key-preserved
loop-key-preserved g c =
    let gives = c.into_iter-key-iterator.ensures.into_iter_gives in
    let key = c.in-Some.key in
    let codes = c.in-Some.codes in
    let made = c.in_ok-group.group in
    let turn = btree_map_turn (λ x. x) c.loop-key.yielded c.into_iter-key-iterator.result c.loop-key.key-iterator c.next.new.self c.next.result (key, codes) c.loop-key.yielded_by c.in-Some.is c.next.ensures.steps nat_list_cmp_total c.args.self.groups gives.0 gives.5 in
    record {
      keys = ap (map (λ (x : Group). x.key.0)) c.in_ok-push.ensures.items ∙ map-push (λ (x : Group). x.key.0) c.loop-key.groups.items made
          ∙ ap (λ ks. ks ++ made.key.0 ∷ []) c.loop-key.invariant.keys ∙ ap (λ (k : List ℕ). keys_of c.loop-key.yielded ++ k ∷ []) c.in_ok-group.ensures.key
          ∙ sym (map-push (λ (e : List ℕ × Codes). e.0) c.loop-key.yielded (key, codes));
      right = λ ps h. subst (λ (gs : List Group). All (IsRight ps) gs) (sym c.in_ok-push.ensures.items)
          (All-push (IsRight ps) c.loop-key.groups.items made (c.loop-key.invariant.right ps h)
          (right-group ps made key (map (λ x. x.items) codes.items) c.in_ok-group.ensures.key c.in_ok-group.ensures.digest
          (subst (λ (o : Option Codes). IfSome o (λ v. map (λ x. x.items) v.items ≡ codes_in ps key)) turn.1 (h key))));
      counted = omega (arith, c.loop-key.invariant.counted, c.in_ok-group.ensures.counted, ap length c.in_ok-push.ensures.items, length-append c.loop-key.groups.items (made ∷ []));
    }

pub returns-clause-each : goal.returns-clause-each
returns-clause-each g c = λ k h.
    let whole = iter_end (λ x. x) c.args.self.groups.entries c.loop-key.yielded c.into_iter-key-iterator.result c.loop-key.key-iterator c.next.new.self c.next.result c.into_iter-key-iterator.ensures.into_iter_gives.0 c.loop-key.yielded_by c.in-None.is c.next.ensures.steps in
    ap (is_one_of k) (c.loop-key.invariant.keys ∙ ap (λ (es : List (List ℕ × Codes)). keys_of es) (sym (same-list c.loop-key.yielded) ∙ whole.0)) ∙ found-one k c.args.self.groups.entries h

pub returns-clause-only : goal.returns-clause-only
returns-clause-only g c = λ k h.
    let whole = iter_end (λ x. x) c.args.self.groups.entries c.loop-key.yielded c.into_iter-key-iterator.result c.loop-key.key-iterator c.next.new.self c.next.result c.into_iter-key-iterator.ensures.into_iter_gives.0 c.loop-key.yielded_by c.in-None.is c.next.ensures.steps in
    one-found k c.args.self.groups.entries
    (sym (ap (is_one_of k) (c.loop-key.invariant.keys ∙ ap (λ (es : List (List ℕ × Codes)). keys_of es) (sym (same-list c.loop-key.yielded) ∙ whole.0))) ∙ h)

pub returns-clause-once : goal.returns-clause-once
returns-clause-once g c =
    let whole = iter_end (λ x. x) c.args.self.groups.entries c.loop-key.yielded c.into_iter-key-iterator.result c.loop-key.key-iterator c.next.new.self c.next.result c.into_iter-key-iterator.ensures.into_iter_gives.0 c.loop-key.yielded_by c.in-None.is c.next.ensures.steps in
    ap differ (c.loop-key.invariant.keys ∙ ap (λ (es : List (List ℕ × Codes)). keys_of es) (sym (same-list c.loop-key.yielded) ∙ whole.0))
    ∙ sorted-differ (keys_of c.args.self.groups.entries) c.into_iter-key-iterator.ensures.into_iter_gives.5
