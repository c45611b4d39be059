use Rattle.std.proofs.Common.{◌≡◌, ◌++◌, map, drop}
use Rattle.calculus.specs.Meaning.{proc_written, pat_written, name_pat_written, bind_written, case_written}
use Rattle.rho_term.specs.Parts.{part_tree, pat_part_tree, pair_tree, bind_tree, case_tree}
use Rattle.open_processes.specs.Pairs.{proc_pair, pat_pair}
use Rattle.normal_parts.specs.Made.{all_in, all_parts, all_pattern_parts}
use Rattle.normalizer.specs.Making.{Made}
use Rattle.normalizer.proofs.make.+make.Given as goal

abbrev pub invariant-add_all_parts-loop-p : goal.invariant-add_all_parts-loop-p
invariant-add_all_parts-loop-p l = Made l.fn.maker l.maker
    (map part_tree l.parts.items ++ all_parts (map proc_written (drop l.p-index l.ps.items)) l.fn.maker.scope ≡ map part_tree l.fn.parts.items ++ all_parts (map proc_written l.ps.items) l.fn.maker.scope)

abbrev pub invariant-add_all_pat_parts-loop-p : goal.invariant-add_all_pat_parts-loop-p
invariant-add_all_pat_parts-loop-p l = Made l.fn.maker l.maker
    (map pat_part_tree l.parts.items ++ all_pattern_parts (map pat_written (drop l.p-index l.ps.items)) l.fn.maker.scope ≡ map pat_part_tree l.fn.parts.items ++ all_pattern_parts (map pat_written l.ps.items) l.fn.maker.scope)

abbrev pub invariant-make_terms-loop-p : goal.invariant-make_terms-loop-p
invariant-make_terms-loop-p l = Made l.fn.maker l.maker
    (l.terms.items ++ all_in (map proc_written (drop l.p-index l.ps.items)) l.fn.maker.scope ≡ all_in (map proc_written l.ps.items) l.fn.maker.scope)

abbrev pub invariant-make_pairs-loop-pair : goal.invariant-make_pairs-loop-pair
invariant-make_pairs-loop-pair l = Made l.fn.maker l.maker
    (map pair_tree l.terms.items ++ all_in (map proc_pair (drop l.pair-index l.pairs.items)) l.fn.maker.scope ≡ all_in (map proc_pair l.pairs.items) l.fn.maker.scope)

abbrev pub invariant-make_binds-loop-bind : goal.invariant-make_binds-loop-bind
invariant-make_binds-loop-bind l = Made l.fn.maker l.maker
    (map bind_tree l.made.items ++ all_in (map bind_written (drop l.bind-index l.binds.items)) l.fn.maker.scope ≡ all_in (map bind_written l.binds.items) l.fn.maker.scope)

abbrev pub invariant-make_cases-loop-case : goal.invariant-make_cases-loop-case
invariant-make_cases-loop-case l = Made l.fn.maker l.maker
    (map case_tree l.made.items ++ all_in (map case_written (drop l.case-index l.cases.items)) l.fn.maker.scope ≡ all_in (map case_written l.cases.items) l.fn.maker.scope)

abbrev pub invariant-make_pats-loop-p : goal.invariant-make_pats-loop-p
invariant-make_pats-loop-p l = Made l.fn.maker l.maker
    (l.pats.items ++ all_in (map pat_written (drop l.p-index l.ps.items)) l.fn.maker.scope ≡ all_in (map pat_written l.ps.items) l.fn.maker.scope)

abbrev pub invariant-make_pat_pairs-loop-pair : goal.invariant-make_pat_pairs-loop-pair
invariant-make_pat_pairs-loop-pair l = Made l.fn.maker l.maker
    (map pair_tree l.pats.items ++ all_in (map pat_pair (drop l.pair-index l.pairs.items)) l.fn.maker.scope ≡ all_in (map pat_pair l.pairs.items) l.fn.maker.scope)

abbrev pub invariant-make_name_pats-loop-p : goal.invariant-make_name_pats-loop-p
invariant-make_name_pats-loop-p l = Made l.fn.maker l.maker
    (l.pats.items ++ all_in (map name_pat_written (drop l.p-index l.ps.items)) l.fn.maker.scope ≡ all_in (map name_pat_written l.ps.items) l.fn.maker.scope)
