use Rattle.std.proofs.Common.{◌≡◌, ◌<◌, ◌+◌, ◌∷◌, ◌++◌, [], ℕ, List, length, get_or, map, take, sym, ap, ◌∙◌, arith, Vec, Global}
use Rattle.calculus.specs.Rows.{Row, row_code}
use Rattle.checkpoint.proofs.Adding.{map-push, taken-all, taken-more}
use Rattle.checkpoint.proofs.groups.codes_of_rows.Goals as goal

-- one more code
code-more : (xs ys : List (Vec ℕ Global)) (x : Vec ℕ Global) (rows : List Row) (i : ℕ) (r : Row) → ys ≡ xs ++ x ∷ [] → i < length rows → r ≡ get_or rows i r → x.items ≡ row_code r
    → map (λ v. v.items) xs ≡ map row_code (take i rows) → map (λ v. v.items) ys ≡ map row_code (take (i + 1) rows)
code-more xs ys x rows i r e l h s m =
    let code : Vec ℕ Global → List ℕ = λ v. v.items in
    ap (map code) e ∙ map-push code xs x ∙ ap (λ (cs : List (List ℕ)). cs ++ code x ∷ []) m ∙ ap (λ (c : List ℕ). map row_code (take i rows) ++ c ∷ []) s
    ∙ sym (map-push row_code (take i rows) r) ∙ ap (map row_code) (sym (taken-more rows i r l h))

pub loop-row-preserved : goal.loop-row-preserved
loop-row-preserved c =
    code-more c.loop-row.codes.items c.push.new.self.items _ c.args.rows.now c.loop-row.row-index c.row-item.result c.in_ok-push.ensures.items c.loop-row-test.true c.row-item.is
    c.in_ok-row_code.ensures c.loop-row.invariant

pub returns : goal.returns
returns c =
    let all : c.loop-row.row-index ≡ length c.args.rows.now = omega arith in
    c.loop-row.invariant ∙ ap (map row_code) (taken-all c.args.rows.now c.loop-row.row-index all)
