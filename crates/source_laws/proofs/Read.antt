-- What is read is no larger than the number of terminals allows.
use Rattle.std.proofs.Common.{ℕ, ◌≤◌, ◌+◌, ◌*◌, ◌-◌, List, length, arith}
use Rattle.grammar.specs.declared.dialect.Dialect.{Dialect}
use Rattle.grammar.specs.Rules.{Rule}
use Rattle.grammar.specs.Spells.{Reads, of_done, of_sign, of_opens, of_next, of_opens_next, of_text, of_integer, of_at, of_under, of_last}
use Rattle.grammar.specs.Terminals.{Terminal}
use Rattle.grammar.specs.Values.{Spelt}
use Rattle.source_laws.proofs.Sizes.{size}
use Rattle.source_laws.proofs.Costs.{given, lead, slack, Costs}
use Rattle.source_laws.proofs.NumberedProductions.{rule_costs}

-- reading adds no terminals
reads-fewer : {d : Dialect} {r : Rule} {ts rest : List Terminal} {v : Spelt} → Reads d r ts v rest → length rest ≤ length ts
reads-fewer of_done = omega arith
reads-fewer (of_sign k) = omega (arith, reads-fewer k)
reads-fewer (of_opens k) = omega (arith, reads-fewer k)
reads-fewer (of_next e k) = reads-fewer k
reads-fewer (of_opens_next e k) = reads-fewer k
reads-fewer (of_text k) = omega (arith, reads-fewer k)
reads-fewer (of_integer e k) = omega (arith, reads-fewer k)
reads-fewer (of_at p g k) = omega (arith, reads-fewer g, reads-fewer k)
reads-fewer (of_under p g k) = omega (arith, reads-fewer g, reads-fewer k)
reads-fewer (of_last p k) = reads-fewer k

-- the value is at most what was given and 32 for each terminal that is read
pub reads-cost : {d : Dialect} {r : Rule} {ts rest : List Terminal} {v : Spelt} → Reads d r ts v rest → (e n : ℕ) → Costs e n r → size v.tree + (e + 32 * length rest) ≤ n + 32 * length ts
reads-cost of_done e n c = omega (arith, c)
reads-cost (of_sign k) e n c = let q = reads-cost k e (n + 32) c in omega (arith, q)
reads-cost (of_opens k) e n c = let q = reads-cost k e (n + 32) c in omega (arith, q)
reads-cost (of_next t k) e n c = reads-cost k e n c
reads-cost (of_opens_next t k) e n c = reads-cost k e n c
reads-cost (of_text {w = w} k) e n c = let q = reads-cost k e (n + 32) (c w) in omega (arith, q)
reads-cost (of_integer {n = i} t k) e n c = let q = reads-cost k e (n + 32) (c i) in omega (arith, q)
reads-cost {d = d} (of_at {s = s} {ts = ts} {mid = mid} {a = a} p g k) e n c =
    let j : ℕ = 32 * length ts - 32 * length mid in
    let own = reads-cost g (slack s) (given s + lead s) (rule_costs d p) in
    let few : size a.tree + slack s ≤ (given s + lead s) + j = omega (arith, own) in
    let q = reads-cost k e (n + j) (c a j few) in
    omega (arith, q, reads-fewer g)
reads-cost {d = d} (of_under {s = s} {ts = ts} {mid = mid} {a = a} p g k) e n c =
    let j : ℕ = 32 * length ts - 32 * length mid in
    let own = reads-cost g (slack s) (given s + lead s) (rule_costs d p) in
    let few : size a.tree + slack s ≤ (given s + lead s) + j = omega (arith, own) in
    let q = reads-cost k e (n + j) (c a j few) in
    omega (arith, q, reads-fewer g)
reads-cost {d = d} (of_last {s = s} p k) e n c = let q = reads-cost k (slack s) (given s + lead s) (rule_costs d p) in omega (arith, q, c)
