use Rattle.std.proofs.Common.{◌≡◌, ◌≤◌, ◌+◌, ◌∙◌, ◌++◌, ◌∷◌, [], ℕ, List, Option, None, replicate, sym, ap, subst, arith}
use Rattle.std.proofs.lemmas.Grind.{replicate_next}
use Rattle.hub_slots.proofs.order.empty_places.Goals as goal

pub loop-init : goal.loop-init
loop-init g c = let p = c.in_ok-places.ensures in record { items = p.items; len = p.len; room = p.capacity }

pub push_reserved-requires : goal.push_reserved-requires
push_reserved-requires g c = let i = c.loop.invariant in omega (arith, i.len, i.room)

pub loop-preserved : goal.loop-preserved
loop-preserved g c =
    let T : Type 0 = g.row.T.Denot in
    let i = c.loop.invariant in let p = c.push_reserved.ensures in
    let nothing : Option T = None in
    record {
      items = p.items ∙ (ap {A = List (Option T)} (λ l. l ++ nothing ∷ []) i.items ∙ sym (replicate_next c.loop.counter nothing));
      len = p.len ∙ ap {A = ℕ} (λ n. n + 1) i.len;
      room = subst (λ n. c.args.count ≤ n) (sym p.capacity) i.room;
    }

pub returns : goal.returns
returns g c =
    let T : Type 0 = g.row.T.Denot in
    let nothing : Option T = None in
    let end : c.loop.counter ≡ c.args.count = omega arith in
    c.loop.invariant.items ∙ ap {A = ℕ} (λ n. replicate n nothing) end
