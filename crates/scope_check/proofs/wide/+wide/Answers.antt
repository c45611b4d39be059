use Rattle.std.proofs.Common.{◌≡◌, ◌+◌, ◌≤◌, map, length, arith, rules, ap, sym, ◌∙◌}
use Rattle.std.specs.Prelude.{count_by}
use Rattle.calculus.specs.Written.{writtens}
use Rattle.calculus.specs.Meaning.{pat_written}
use Rattle.scope.specs.Rules.{is_wide_part, all_parts_of}
use Rattle.rho_term.specs.Measures.{in_u32}
use Rattle.scope_check.proofs.Parts.{drop-past}
use Rattle.scope_check.proofs.wide.+wide.Goals as goal

pub wide_parts-returns : goal.wide_parts-returns
wide_parts-returns t c =
    let h : length c.args.ps.now.items ≤ c.loop-p.p-index = search rules in
    let d = drop-past c.args.ps.now.items c.loop-p.p-index h in
    let k : c.loop-p.count ≡ in_u32 (c.loop-p.count + 0) = omega arith in
    k ∙ ap (λ xs. in_u32 (c.loop-p.count + count_by (λ q. is_wide_part q) (all_parts_of (writtens (map pat_written xs))))) (sym d) ∙ c.loop-p.invariant.counts
