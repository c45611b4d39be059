use Rattle.std.proofs.Common.{◌≡◌, ◌∙◌, ◌++◌, ◌+◌, ◌-◌, arith, ap, sym, map, reverse}
use Rattle.calculus.specs.Shape.{at, held, leaf}
use Rattle.calculus.proofs.Placing.{listed-trees}
use Rattle.rho_term.specs.Parts.{part_tree}
use Rattle.term_bounds.specs.Filled.{value_parts}
use Rattle.substitution.specs.Becoming.{change_of, index_parts, index_in, use_of}
use Rattle.substitution.proofs.Becoming.{use-adds, use-changed}
use Rattle.substitution.proofs.Made.{joins}
use Rattle.substitution.proofs.variable.put_variable.Goals as goal

pub returns-then-index-depth : goal.returns-then-index-depth
returns-then-index-depth c = λ h.
    let s = c.args.sense in let n = c.args.depth in let i = c.args.index in
    let k = c.add.ensures h in
    let j = joins part_tree (leaf (use_of s i)) c.variable.result c.args.out.now.items c.add.new.items.items k.1 c.variable.ensures.parts c.variable.ensures.ordered in
    (k.0, (use-adds (use_of s) n i (use-changed s i) (omega arith) (change_of c.args.replacement.now) _ _ (λ l. j.0) (λ l. absurd (omega arith)), j.1))

pub returns-in-Values : goal.returns-in-Values
unfolding change_of value_parts
returns-in-Values c = λ h.
    let s = c.args.sense in let n = c.args.depth in let i = c.args.index in
    let k = c.put_value.ensures h in
    let e = listed-trees (held (at (i - n) (reverse c.in-Values.values.now))) in
    rw c.in-Values.is
    (k.0, (use-adds (use_of s) n i (use-changed s i) (omega arith) (value_parts c.in-Values.values.now) _ _ (λ l. absurd (omega arith)) (λ l. k.1.0 ∙ ap (λ xs. map part_tree c.args.out.now.items ++ xs) (sym e)), k.1.1))

pub returns-in-Indices : goal.returns-in-Indices
unfolding change_of index_parts
returns-in-Indices c = λ h.
    let s = c.args.sense in let n = c.args.depth in let i = c.args.index in
    let ns = c.in-Indices.indices.now in
    let k = c.add-in-Indices.ensures h in
    let m = c.index_past-index.ensures k.0 in
    let w : c.index_past-index.result ≡ index_in ns (i - n) + n = omega arith in
    let p : part_tree c.variable-in-Indices.result ≡ leaf (use_of s (index_in ns (i - n) + n)) = c.variable-in-Indices.ensures.parts ∙ ap (λ x. leaf (use_of s x)) w in
    let j = joins part_tree _ c.variable-in-Indices.result c.args.out.now.items c.add-in-Indices.new.items.items k.1 p c.variable-in-Indices.ensures.ordered in
    rw c.in-Indices.is (m.0, (use-adds (use_of s) n i (use-changed s i) (omega arith) (index_parts (index_in ns)) _ _ (λ l. absurd (omega arith)) (λ l. j.0), j.1))
