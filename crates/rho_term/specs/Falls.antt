-- A term has more nodes than each term inside it.
use Rattle.std.specs.Prelude.{◌+◌, ◌≤◌, max, List, [], ◌∷◌, map as each}
use Rattle.std.proofs.Common.{arith}
use denote.Param.Weighed.{most}
use Rattle.calculus.specs.Tree.{Tree, trees, weight, weights}
use Rattle.rho_term.specs.Parts.{part_tree, term_tree, pat_part_tree, pat_tree, bind_tree, case_tree, pair_tree}
use Rattle.rho_term.specs.declared.term.Part.{Part}
use Rattle.rho_term.specs.declared.term.Part.TheVariants as part
use Rattle.rho_term.specs.declared.term.PatPart.{PatPart}
use Rattle.rho_term.specs.declared.term.PatPart.TheVariants as pat
use Rattle.rho_term.specs.declared.term.TermBind.{TermBind}
use Rattle.rho_term.specs.declared.term.TermCase.{TermCase}
use Rattle.rho_term.specs.declared.term.Term.TheDeep.{deep-Part, deep-PatPart, deep-TermBind, deep-TermCase}

-- the children in a list
trees_fall : (ts : List Tree) → most (λ t. weight t + 1) ts ≤ weights (trees ts) + 1
trees_fall [] = omega arith
trees_fall (t ∷ ts) = omega (arith, trees_fall ts)

-- the children in pairs
pairs_fall : (ps : List (Tree × Tree)) → most (λ p. max (weight p.0 + 1) (max (weight p.1 + 1) 0)) ps ≤ weights (trees (each pair_tree ps)) + 1
pairs_fall [] = omega arith
pairs_fall (p ∷ ps) = omega (arith, pairs_fall ps)

-- the children in binds
binds_fall : (bs : List TermBind) → most deep-TermBind bs ≤ weights (trees (each bind_tree bs)) + 1
binds_fall [] = omega arith
binds_fall (b ∷ bs) = omega (arith, trees_fall b.pats.items, binds_fall bs)

-- the children in cases
cases_fall : (cs : List TermCase) → most deep-TermCase cs ≤ weights (trees (each case_tree cs)) + 1
cases_fall [] = omega arith
cases_fall (c ∷ cs) = omega (arith, cases_fall cs)

-- the children of a part
part_falls : (p : Part) → deep-Part p ≤ weight (part_tree p)
part_falls (part.Ground g) = omega arith
part_falls (part.Fresh d) = omega arith
part_falls (part.Var i) = omega arith
part_falls (part.NameVar i) = omega arith
part_falls (part.List ts) = omega (arith, trees_fall ts.items)
part_falls (part.Tuple ts) = omega (arith, trees_fall ts.items)
part_falls (part.Set ts) = omega (arith, trees_fall ts.items)
part_falls (part.Map ps) = omega (arith, pairs_fall ps.items)
part_falls (part.Send c xs p) = omega (arith, trees_fall xs.items)
part_falls (part.Receive k bs b) = omega (arith, binds_fall bs.items)
part_falls (part.New os b) = omega arith
part_falls (part.Match t cs) = omega (arith, cases_fall cs.items)
part_falls (part.Bundle r b) = omega arith
part_falls (part.Unary o a) = omega arith
part_falls (part.Binary o a b) = omega arith
part_falls (part.Method m t xs) = omega (arith, trees_fall xs.items)

-- the children of a part of a pattern
pat_part_falls : (p : PatPart) → deep-PatPart p ≤ weight (pat_part_tree p)
pat_part_falls pat.Wild = omega arith
pat_part_falls pat.Var = omega arith
pat_part_falls pat.NameVar = omega arith
pat_part_falls (pat.Simple k) = omega arith
pat_part_falls (pat.Same t) = omega arith
pat_part_falls (pat.Ground g) = omega arith
pat_part_falls (pat.Both a b) = omega arith
pat_part_falls (pat.Either a b) = omega arith
pat_part_falls (pat.Not a) = omega arith
pat_part_falls (pat.List ts r) = omega (arith, trees_fall ts.items)
pat_part_falls (pat.Tuple ts) = omega (arith, trees_fall ts.items)
pat_part_falls (pat.Set ts r) = omega (arith, trees_fall ts.items)
pat_part_falls (pat.Map ps r) = omega (arith, pairs_fall ps.items)
pat_part_falls (pat.Send c xs p) = omega (arith, trees_fall xs.items)
pat_part_falls (pat.Bundle r b) = omega arith
pat_part_falls (pat.Closed p) = omega (arith, part_falls p)

-- what stands in the parts of a process has fewer nodes than the process
pub parts_fall : (ps : List Part) → max (most deep-Part ps) 0 ≤ weight (term_tree ps)
parts_fall [] = omega arith
parts_fall (p ∷ ps) = omega (arith, part_falls p, parts_fall ps)

-- what stands in the parts of a pattern has fewer nodes than the pattern
pub pat_parts_fall : (ps : List PatPart) → max (most deep-PatPart ps) 0 ≤ weight (pat_tree ps)
pat_parts_fall [] = omega arith
pat_parts_fall (p ∷ ps) = omega (arith, pat_part_falls p, pat_parts_fall ps)
