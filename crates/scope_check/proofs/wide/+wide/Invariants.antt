use Rattle.std.proofs.Common.{◌≡◌, ◌+◌, ◌<◌, ◌^◌, map, drop}
use Rattle.std.specs.Prelude.{count_by}
use Rattle.calculus.specs.Written.{writtens}
use Rattle.calculus.specs.Meaning.{pat_written}
use Rattle.scope.specs.Rules.{is_wide_part, all_parts_of}
use Rattle.rho_term.specs.Measures.{in_u32}
use Rattle.scope_check.proofs.wide.+wide.Given as goal

abbrev pub invariant-wide_parts-loop-p : goal.invariant-wide_parts-loop-p
invariant-wide_parts-loop-p l = record {
  fits : l.count < 2 ^ 32;
  counts : in_u32 (l.count + count_by (λ q. is_wide_part q) (all_parts_of (writtens (map pat_written (drop l.p-index l.ps.items))))) ≡ in_u32 (count_by (λ q. is_wide_part q) (all_parts_of (writtens (map pat_written l.ps.items))));
}
