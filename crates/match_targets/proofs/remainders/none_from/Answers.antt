use Rattle.std.proofs.Common.{◌≡◌, ℕ, zero, suc, ◌<◌, ◌≤◌, true, false, List, [], ◌∷◌, length, drop, refl, sym, ap, ◌∙◌, arith}
use Rattle.std.specs.Prelude.{Some}
use Rattle.std.proofs.lemmas.List.{drop_all}
use Rattle.calculus.specs.Tree.{Tree}
use Rattle.calculus.specs.Matching.{Bindings, first_of_all, is_empty, one_if}
use Rattle.match_targets.proofs.remainders.none_from.Goals as goal

-- what stands from a number on
some-left : (ts : List Tree) (i : ℕ) → i < length ts → is_empty (drop i ts) ≡ false
some-left [] i h = absurd (omega arith)
some-left (t ∷ ts) zero h = refl
some-left (t ∷ ts) (suc i) h = some-left ts i (omega arith)

none-left : (ts : List Tree) (i : ℕ) → length ts ≤ i → is_empty (drop i ts) ≡ true
none-left ts i h = ap is_empty (drop_all i ts h)

pub returns-then-i-terms : goal.returns-then-i-terms
returns-then-i-terms c = ap (λ b. first_of_all (one_if b)) (some-left c.args.terms.now c.args.i c.if-i-terms.true)

pub returns : goal.returns
returns c = ap (λ b. first_of_all (one_if b)) (none-left c.args.terms.now c.args.i c.if-i-terms.false) ∙ ap (λ (x : Bindings). Some x) (sym c.new.ensures.items)
