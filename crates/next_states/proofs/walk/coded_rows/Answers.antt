use Rattle.std.proofs.Common.{◌≡◌, ◌+◌, ◌<◌, ℕ, [], ◌∷◌, ◌++◌, List, length, get_or, map, take, sym, ap, subst, ◌∙◌}
use Rattle.std.specs.Prelude.{All}
use Rattle.std.proofs.lemmas.List.Elements.{All-push}
use Rattle.calculus.specs.Rows.{Row}
use Rattle.checkpoint.proofs.Adding.{map-push, taken-more}
use Rattle.next_states.specs.Walks.{row_of, IsCoded}
use Rattle.next_states.specs.declared.walk.Coded.{Coded}
use Rattle.next_states.proofs.walk.coded_rows.Goals as goal

-- one more row with its code
coded-more : (xs ys : List Coded) (x : Coded) (rows : List Row) (i : ℕ) → ys ≡ xs ++ x ∷ [] → i < length rows → row_of x ≡ get_or rows i (row_of x) → map row_of xs ≡ take i rows
    → map row_of ys ≡ take (i + 1) rows
coded-more xs ys x rows i e l h s =
    ap (map row_of) e ∙ map-push row_of xs x ∙ ap (λ (rs : List Row). rs ++ row_of x ∷ []) s ∙ sym (taken-more rows i (row_of x) l h)

pub loop-row-preserved : goal.loop-row-preserved
loop-row-preserved c =
    let old = c.loop-row.coded.items in
    let pushed = c.in_ok-push.ensures.items in
    record {
      rows = coded-more old c.push.new.self.items _ c.args.rows.now c.loop-row.row-index pushed c.loop-row-test.true c.row-item.is c.loop-row.invariant.rows;
      coded = subst (All IsCoded) (sym pushed) (All-push IsCoded old _ c.loop-row.invariant.coded c.in_ok-code.ensures);
    }
