use Rattle.std.proofs.Common.{◌∙◌, ℕ, sym, ap, arith, length, List}
use Rattle.hub_rule.specs.Counts.{count, placed, all_of}
use Rattle.hub_rule.proofs.Sums.{count_more}
use Rattle.hub_rule.proofs.Ends.{all_of_split, length_placed, placed_both}
use Rattle.hub_slots.proofs.order.place_lists.Goals as goal

pub place_all-places-requires : goal.place_all-places-requires
place_all-places-requires g c =
    let T : Type 0 = g.row.T.Denot in
    let i = c.loop-list.invariant in let s = c.in-Some.ensures.steps in
    λ n le. let w = i.within n (let l = i.long in omega arith) in
    let q = ap {A = List (ℕ × T)} (count n) (all_of_split (λ t. t.items) _ _ _ s.0) in
    let m = count_more n c.in-Some.list.items (all_of (λ t. t.items) c.next.new.self.rest.items) in omega arith

pub loop-list-preserved : goal.loop-list-preserved
loop-list-preserved g c =
    let T : Type 0 = g.row.T.Denot in
    let i = c.loop-list.invariant in let s = c.in-Some.ensures.steps in
    let here : List (ℕ × T) = c.in-Some.list.items in
    let rest : List (ℕ × T) = all_of (λ t. t.items) c.next.new.self.rest.items in
    record {
      rest = ap (λ l. placed l rest) c.place_all-places.ensures ∙ (sym (placed_both c.loop-list.places.items here rest) ∙ (sym (ap {A = List (ℕ × T)} (λ l. placed c.loop-list.places.items l) (all_of_split (λ t. t.items) _ _ _ s.0)) ∙ i.rest));
      long = ap length c.place_all-places.ensures ∙ (length_placed c.loop-list.places.items here ∙ i.long);
      within = λ n le. let w = i.within n le in let q = ap {A = List (ℕ × T)} (count n) (all_of_split (λ t. t.items) _ _ _ s.0) in let m = count_more n here rest in omega arith;
    }
