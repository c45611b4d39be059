use Rattle.std.proofs.Common.{refl, [], ◌++◌, ◌+◌, length, map, ap, sym, ◌∙◌, subst, arith, cond, append_assoc}
use Rattle.std.specs.Prelude.{All}
use Rattle.calculus.specs.Form.{wides}
use Rattle.calculus.specs.Shape.{leaf, many}
use Rattle.calculus.specs.Tree.{row, rest, trees}
use Rattle.calculus.specs.Variables.{bound, bound_all}
use Rattle.rho_term.specs.Normal.{IsOrdered}
use Rattle.rho_term.proofs.Trees.{map-same}
use Rattle.rho_term.specs.Parts.{part_tree, pat_part_tree, pat_tree, pair_tree, bind_tree, case_tree}
use Rattle.code_faults.specs.Scopes.{scope_of, senses_of}
use Rattle.calculus.proofs.ListCodes.{length-map}
use Rattle.code_faults.proofs.Rows.{row-done, row-done_trees}
use Rattle.code_faults.proofs.Bags.{bag-done, bag-done_trees, process-done}
use Rattle.code_faults.proofs.Forms.{reads-at, tuple-form, tuple_pattern-form, receive-form, new-form, match-form}
use Rattle.code_faults.proofs.Parts.{case-form, bind-form, bind-bound, set_pattern-form, map_pattern-form, pat-done}
use Rattle.code_faults.proofs.Names.{wide-tag}
use Rattle.code_faults.proofs.Pushing.{row-start, bag-start, row-push, bag-push, count-push, all-push, bound-start, bound-start_trees, bound-push, bound-push_trees, wides-push, scope-more, scope-names}
use Rattle.code_faults.proofs.Kids.{no_false}
use Rattle.code_faults.proofs.Tags.{pat_form-tags}
use Rattle.code_faults.proofs.PatGoing.{pat-number, pat-refused}
use Rattle.code_faults.proofs.NameRefusals.{refuses-at, name-refused}
use Rattle.code_faults.proofs.PatExits.{closed-refused}
use Rattle.code_faults.proofs.Blaming.{no-form, has-room}
use Rattle.code_faults.proofs.BlamedBags.{tag-no_form}
use Rattle.code_faults.proofs.BlamedParts.{bytes_wrong, wrong-unscoped, closed_wrong}
use Rattle.code_faults.proofs.BlamedPats.{pat-number_wrong, pat_wrong, pat-tag_no_form}
use Rattle.code_faults.proofs.BlamedNames.{name_wrong}
use Rattle.code_faults.proofs.Begins.{a_term, a_part, a_pat, a_name, a_pair, some-case, some-bind}
use Rattle.code_faults.proofs.BegunPats.{name-begun, closed-begun, free-two}
use Rattle.code_faults.proofs.BegunParts.{pat-number_begun, pat-part_begun}
use Rattle.code_faults.proofs.BegunMore.{begun-unscoped, quiet-push}
use Rattle.code_faults.proofs.Places.{goes-on}
use Rattle.code_faults.proofs.Scoped.{refuses-unscoped, reads-unscoped}
use Rattle.code_parts.proofs.FormTags.{last-form, later-pat_form}
use Rattle.code_parts.proofs.Counting.{more-left, all-read, at-least, at-most, any-fits, few-fit, eight-fit, nine-fit}
use Rattle.code_parts.proofs.Failing.{failed, passed, tag-fails, part-at-room, pat_part-at-room}
use Rattle.code_parts.proofs.RowFailures.{out-of-memory, memory-row-fails, bytes-fail, term-fails, row-number-fails, bag-number-fails, row-fails, bag-fails, bag-order-fails, bag-lower-fails}
use Rattle.code_parts.proofs.FormFailures.{list-fails, tuple-fails, set-fails, map-fails, receive-binds-fails, receive-body-fails, new-body-fails, match-target-fails, match-cases-fails}
use Rattle.code_parts.proofs.PatFailures.{list-members-fails, list-rest-fails, tuple_pattern-fails, set-members-fails, set-rest-fails, map-pairs-fails, map-rest-fails, pat_send-flag-fails, pat_send-channel-fails, pat_send-args-fails, pat_bundle-rights-fails, pat_bundle-body-fails, same-body-fails, both-left-fails, both-right-fails, either-left-fails, either-right-fails, not-body-fails, pair-first-fails, pair-second-fails, case-pattern-fails, case-body-fails, bind-channel-fails, bind-patterns-fails, bind-rest-fails}
use Rattle.code_parts.proofs.Formed.{list-form, set-form, map-form, same-form, both-form, pat_send-form}
use Rattle.code_parts.proofs.LeafForms.{name-found, name-read, closed-read, list_pattern-form, pat_bundle-form, either-form, not-form, one-free, bound-two, bound-free}
use Rattle.code_parts.specs.declared.heads.Head.TheVariants as head
use Rattle.code_parts.proofs.HeadForms.{code-at, name-at, single-read, listed-read, binary-read, single-fails, listed-first-fails, listed-args-fails, binary-first-fails, binary-second-fails}
use Rattle.code_parts.proofs.Keeping.{kept, came, went, unkept, unkept-row, unread, unread-row, unkept-bag, pair-read, pair-free, pair-found}
use Rattle.code_parts.proofs.Tagging.{part_tag-fails, pat_tag-fails}
use Rattle.term_code.proofs.+read.Goals as goal

pub terms::read_terms-loop-i-init : goal.terms::read_terms-loop-i-init
terms::read_terms-loop-i-init t c = record { read = row-start c.list-terms.ensures; count = ap length c.list-terms.ensures }

pub terms::read_terms-loop-i-preserved : goal.terms::read_terms-loop-i-preserved
terms::read_terms-loop-i-preserved t c = let k = kept _ _ _ c.read_term-term.result c.read_term-term.ensures c.in_ok-keep.ensures.kept in record { read = row-push k.kept c.loop-i.invariant.read k.read; count = count-push _ _ k.kept c.loop-i.invariant.count }

pub terms::read_terms-returns : goal.terms::read_terms-returns
terms::read_terms-returns t c = record {
  reads = row-done_trees c.in_ok-count.count c.args.reader.now.input.now c.loop-i.invariant.read (all-read c.loop-i.invariant.count c.loop-i.auto._i-end c.loop-i-test.false) c.in_ok-count.ensures.is;
  enough = at-least (all-read c.loop-i.invariant.count c.loop-i.auto._i-end c.loop-i-test.false) c.in_ok-count.ensures.least;
  few = at-most (all-read c.loop-i.invariant.count c.loop-i.auto._i-end c.loop-i-test.false) c.in_ok-count.ensures.most;
}

pub terms::read_members-loop-i-init : goal.terms::read_members-loop-i-init
terms::read_members-loop-i-init t c = record { read = bag-start c.list-terms.ensures; count = ap length c.list-terms.ensures }

pub terms::read_members-loop-i-preserved : goal.terms::read_members-loop-i-preserved
terms::read_members-loop-i-preserved t c = let k = kept _ _ _ c.read_term-term.result c.read_term-term.ensures c.in_ok-last.ensures.kept in record { read = bag-push k.kept c.loop-i.invariant.read k.read c.in_ok-last.ensures.code c.in_ok-last.ensures.up; count = count-push _ _ k.kept c.loop-i.invariant.count }

pub terms::read_members-returns : goal.terms::read_members-returns
terms::read_members-returns t c = bag-done_trees c.in_ok-count.count c.args.reader.now.input.now c.loop-i.invariant.read (all-read c.loop-i.invariant.count c.loop-i.auto._i-end c.loop-i-test.false) c.in_ok-count.ensures.is

pub terms::read_pairs-loop-i-init : goal.terms::read_pairs-loop-i-init
terms::read_pairs-loop-i-init t c = record { read = bag-start c.list-pairs.ensures; count = ap length c.list-pairs.ensures }

pub terms::read_pairs-loop-i-preserved : goal.terms::read_pairs-loop-i-preserved
terms::read_pairs-loop-i-preserved t c = let k = kept _ _ _ c.paired-pair.result c.paired-pair.ensures c.in_ok-last.ensures.kept in
    record { read = bag-push k.kept c.loop-i.invariant.read (pair-read k.value k.read.0 c.in_ok-key.ensures (came _ _ _ c.read_term-value.result c.read_term-value.ensures k.read.1)) c.in_ok-last.ensures.code c.in_ok-last.ensures.up; count = count-push _ _ k.kept c.loop-i.invariant.count }

pub terms::read_pairs-returns : goal.terms::read_pairs-returns
terms::read_pairs-returns t c = bag-done c.in_ok-count.count c.args.reader.now.input.now c.loop-i.invariant.read (all-read c.loop-i.invariant.count c.loop-i.auto._i-end c.loop-i-test.false) c.in_ok-count.ensures.is

pub terms::read_term-loop-i-init : goal.terms::read_term-loop-i-init
terms::read_term-loop-i-init t c = record { read = bag-start c.list-parts.ensures; count = ap length c.list-parts.ensures; ordered = subst (λ ps. All (λ p. IsOrdered (part_tree p)) ps) (sym c.list-parts.ensures) (λ k d h. absurd (omega arith)) }

pub terms::read_term-loop-i-preserved : goal.terms::read_term-loop-i-preserved
terms::read_term-loop-i-preserved t c = let k = kept _ _ _ c.read_part-part.result c.read_part-part.ensures c.in_ok-last.ensures.kept in
    record {
      read = bag-push k.kept c.loop-i.invariant.read (reads-at _ c.in_ok-tag.ensures.is k.read.reads) c.in_ok-last.ensures.code c.in_ok-last.ensures.up;
      count = count-push _ _ k.kept c.loop-i.invariant.count;
      ordered = all-push (λ p. IsOrdered (part_tree p)) _ _ k.kept c.loop-i.invariant.ordered k.read.ordered;
    }

pub terms::read_term-from_sorted-requires-clause-parts : goal.terms::read_term-from_sorted-requires-clause-parts
terms::read_term-from_sorted-requires-clause-parts t c = c.loop-i.invariant.read.up

pub terms::read_term-from_sorted-requires-clause-members : goal.terms::read_term-from_sorted-requires-clause-members
terms::read_term-from_sorted-requires-clause-members t c = c.loop-i.invariant.ordered

pub terms::read_term-returns : goal.terms::read_term-returns
terms::read_term-returns t c = rw c.from_sorted.ensures (process-done (bag-done c.in_ok-count.count c.args.reader.now.input.now c.loop-i.invariant.read (all-read c.loop-i.invariant.count c.loop-i.auto._i-end c.loop-i-test.false) c.in_ok-count.ensures.is))

pub terms::read_cases-loop-i-init : goal.terms::read_cases-loop-i-init
terms::read_cases-loop-i-init t c = record { read = row-start c.list-cases.ensures; count = ap length c.list-cases.ensures }

pub terms::read_cases-loop-i-preserved : goal.terms::read_cases-loop-i-preserved
terms::read_cases-loop-i-preserved t c = record { read = row-push c.in_ok-push.ensures.items c.loop-i.invariant.read (case-form c.in_ok-pat.ensures.reads c.in_ok-body.ensures (scope-more c.args.scope.now.items c.read_pat.new.found.items (bound c.in_ok-pat.pat) (c.in_ok-pat.ensures.found ∙ ap (λ xs. senses_of xs ++ bound c.in_ok-pat.pat) c.in_ok-inner.ensures))); count = count-push _ _ c.in_ok-push.ensures.items c.loop-i.invariant.count }

pub terms::read_cases-returns : goal.terms::read_cases-returns
terms::read_cases-returns t c = record {
  reads = row-done c.in_ok-count.count c.args.reader.now.input.now c.loop-i.invariant.read (all-read c.loop-i.invariant.count c.loop-i.auto._i-end c.loop-i-test.false) c.in_ok-count.ensures.is;
  enough = rw (length-map case_tree c.loop-i.cases.items) (at-least (all-read c.loop-i.invariant.count c.loop-i.auto._i-end c.loop-i-test.false) c.in_ok-count.ensures.least);
  few = rw (length-map case_tree c.loop-i.cases.items) (at-most (all-read c.loop-i.invariant.count c.loop-i.auto._i-end c.loop-i-test.false) c.in_ok-count.ensures.most);
}

pub terms::read_binds-loop-i-init : goal.terms::read_binds-loop-i-init
terms::read_binds-loop-i-init t c = record { read = row-start c.list-binds.ensures; count = ap length c.list-binds.ensures; binding = bound-start bind_tree c.list-binds.result.items c.list-binds.ensures }

pub terms::read_binds-loop-i-preserved : goal.terms::read_binds-loop-i-preserved
terms::read_binds-loop-i-preserved t c = let h = came _ _ _ c.read_name_pats-pats.result c.read_name_pats-pats.ensures c.in_ok-both.ensures.items in
    record {
      read = row-push c.in_ok-push.ensures.items c.loop-i.invariant.read (bind-form c.in_ok-both.both.0.items c.in_ok-both.both.1 c.in_ok-channel.ensures h.reads c.in_ok-both.ensures.is);
      count = count-push _ _ c.in_ok-push.ensures.items c.loop-i.invariant.count;
      binding = bound-push bind_tree _ _ (senses_of c.args.found.now.items) c.in_ok-push.ensures.items c.loop-i.invariant.binding
          (c.in_ok-both.ensures.bound ∙ ap (λ vs. vs ++ bound (leaf (rest c.in_ok-both.both.1))) h.found
          ∙ append_assoc (senses_of c.loop-i.found.items) (bound (many row c.in_ok-both.both.0.items)) (bound (leaf (rest c.in_ok-both.both.1)))
          ∙ ap (λ vs. senses_of c.loop-i.found.items ++ vs) (sym (bind-bound c.in_ok-both.both.0.items c.in_ok-both.both.1 c.in_ok-channel.ensures)));
    }

pub terms::read_binds-returns : goal.terms::read_binds-returns
terms::read_binds-returns t c = record {
  reads = row-done c.in_ok-count.count c.args.reader.now.input.now c.loop-i.invariant.read (all-read c.loop-i.invariant.count c.loop-i.auto._i-end c.loop-i-test.false) c.in_ok-count.ensures.is;
  enough = rw (length-map bind_tree c.loop-i.binds.items) (at-least (all-read c.loop-i.invariant.count c.loop-i.auto._i-end c.loop-i-test.false) c.in_ok-count.ensures.least);
  few = rw (length-map bind_tree c.loop-i.binds.items) (at-most (all-read c.loop-i.invariant.count c.loop-i.auto._i-end c.loop-i-test.false) c.in_ok-count.ensures.most);
  found = c.loop-i.invariant.binding;
  free = λ q. absurd (no_false q);
}

pub patterns::read_pats-loop-i-init : goal.patterns::read_pats-loop-i-init
patterns::read_pats-loop-i-init t c = record { quiet = λ q. ap (λ ps. bound_all (trees (map (λ t. t) ps))) c.list-pats.ensures; read = row-start c.list-pats.ensures; count = ap length c.list-pats.ensures; binding = bound-start_trees c.list-pats.ensures }

pub patterns::read_pats-loop-i-preserved : goal.patterns::read_pats-loop-i-preserved
patterns::read_pats-loop-i-preserved t c = let k = kept _ _ _ c.read_pat-pat.result c.read_pat-pat.ensures c.in_ok-keep.ensures.kept in
    record {
      quiet = λ q. quiet-push (λ t. t) _ _ k.kept (c.loop-i.invariant.quiet q) (k.read.free q);
      read = row-push k.kept c.loop-i.invariant.read k.read.reads;
      count = count-push _ _ k.kept c.loop-i.invariant.count;
      binding = bound-push_trees _ _ (senses_of c.args.found.now.items) k.kept c.loop-i.invariant.binding k.read.found;
    }

pub patterns::read_pats-returns : goal.patterns::read_pats-returns
patterns::read_pats-returns t c = record {
  reads = row-done_trees c.in_ok-count.count c.args.reader.now.input.now c.loop-i.invariant.read (all-read c.loop-i.invariant.count c.loop-i.auto._i-end c.loop-i-test.false) c.in_ok-count.ensures.is;
  enough = at-least (all-read c.loop-i.invariant.count c.loop-i.auto._i-end c.loop-i-test.false) c.in_ok-count.ensures.least;
  few = at-most (all-read c.loop-i.invariant.count c.loop-i.auto._i-end c.loop-i-test.false) c.in_ok-count.ensures.most;
  found = c.loop-i.invariant.binding;
  free = λ q. sym (ap (λ us. bound_all (trees us)) (map-same c.loop-i.pats.items)) ∙ c.loop-i.invariant.quiet q;
}

pub patterns::read_name_pats-loop-i-init : goal.patterns::read_name_pats-loop-i-init
patterns::read_name_pats-loop-i-init t c = record { read = row-start c.list-pats.ensures; count = ap length c.list-pats.ensures; binding = bound-start_trees c.list-pats.ensures }

pub patterns::read_name_pats-loop-i-preserved : goal.patterns::read_name_pats-loop-i-preserved
patterns::read_name_pats-loop-i-preserved t c = let k = kept _ _ _ c.read_name_pat-pat.result c.read_name_pat-pat.ensures c.in_ok-keep.ensures.kept in
    record {
      read = row-push k.kept c.loop-i.invariant.read k.read.reads;
      count = count-push _ _ k.kept c.loop-i.invariant.count;
      binding = bound-push_trees _ _ (senses_of c.args.found.now.items) k.kept c.loop-i.invariant.binding k.read.found;
    }

pub patterns::read_name_pats-returns : goal.patterns::read_name_pats-returns
patterns::read_name_pats-returns t c = record {
  reads = row-done_trees c.in_ok-count.count c.args.reader.now.input.now c.loop-i.invariant.read (all-read c.loop-i.invariant.count c.loop-i.auto._i-end c.loop-i-test.false) c.in_ok-count.ensures.is;
  enough = omega arith;
  few = at-most (all-read c.loop-i.invariant.count c.loop-i.auto._i-end c.loop-i-test.false) c.in_ok-count.ensures.most;
  found = c.loop-i.invariant.binding;
  free = λ q. absurd (no_false q);
}

pub patterns::read_pat_pairs-loop-i-init : goal.patterns::read_pat_pairs-loop-i-init
patterns::read_pat_pairs-loop-i-init t c = record { quiet = λ q. ap (λ ps. bound_all (trees (map pair_tree ps))) c.list-pairs.ensures; read = row-start c.list-pairs.ensures; count = ap length c.list-pairs.ensures; binding = bound-start pair_tree c.list-pairs.result.items c.list-pairs.ensures }

pub patterns::read_pat_pairs-loop-i-preserved : goal.patterns::read_pat_pairs-loop-i-preserved
patterns::read_pat_pairs-loop-i-preserved t c = let k = kept _ _ _ c.paired-pair.result c.paired-pair.ensures c.in_ok-keep.ensures.kept in
    let h = came _ _ _ c.read_pat-value.result c.read_pat-value.ensures k.read.1 in
    record {
      quiet = λ q. quiet-push pair_tree _ _ k.kept (c.loop-i.invariant.quiet q) (pair-free k.value k.read.0 (c.in_ok-key.ensures.free q) (h.free q));
      read = row-push k.kept c.loop-i.invariant.read (pair-read k.value k.read.0 c.in_ok-key.ensures.reads h.reads);
      count = count-push _ _ k.kept c.loop-i.invariant.count;
      binding = bound-push pair_tree _ _ (senses_of c.args.found.now.items) k.kept c.loop-i.invariant.binding (pair-found _ k.value k.read.0 c.in_ok-key.ensures.found h.found);
    }

pub patterns::read_pat_pairs-returns : goal.patterns::read_pat_pairs-returns
patterns::read_pat_pairs-returns t c = record {
  reads = row-done c.in_ok-count.count c.args.reader.now.input.now c.loop-i.invariant.read (all-read c.loop-i.invariant.count c.loop-i.auto._i-end c.loop-i-test.false) c.in_ok-count.ensures.is;
  enough = omega arith;
  few = rw (length-map pair_tree c.loop-i.pairs.items) (at-most (all-read c.loop-i.invariant.count c.loop-i.auto._i-end c.loop-i-test.false) c.in_ok-count.ensures.most);
  found = c.loop-i.invariant.binding;
  free = c.loop-i.invariant.quiet;
}

pub patterns::read_pat-loop-i-init : goal.patterns::read_pat-loop-i-init
patterns::read_pat-loop-i-init t c = record { quiet = λ q. ap (λ ps. bound_all (trees (map pat_part_tree ps))) c.list-parts.ensures; read = row-start c.list-parts.ensures; count = ap length c.list-parts.ensures; ordered = subst (λ ps. All (λ p. IsOrdered (pat_part_tree p)) ps) (sym c.list-parts.ensures) (λ k d h. absurd (omega arith)); binding = bound-start pat_part_tree c.list-parts.result.items c.list-parts.ensures; wide = ap (λ ps. wides (map pat_part_tree ps)) c.list-parts.ensures; one = omega arith; thin = omega arith }

pub patterns::read_pat-loop-i-preserved : goal.patterns::read_pat-loop-i-preserved
patterns::read_pat-loop-i-preserved t c = let k = kept _ _ _ c.read_pat_part-part.result c.read_pat_part-part.ensures c.in_ok-keep.ensures.kept in
    record {
      quiet = λ q. quiet-push pat_part_tree _ _ k.kept (c.loop-i.invariant.quiet q) (k.read.free q);
      read = row-push k.kept c.loop-i.invariant.read (reads-at _ c.in_ok-next.ensures.is k.read.reads);
      count = count-push _ _ k.kept c.loop-i.invariant.count;
      ordered = all-push (λ p. IsOrdered (pat_part_tree p)) _ _ k.kept c.loop-i.invariant.ordered k.read.ordered;
      binding = bound-push pat_part_tree _ _ (senses_of c.args.found.now.items) k.kept c.loop-i.invariant.binding k.read.found;
      wide = wides-push pat_part_tree _ _ k.kept c.loop-i.invariant.wide (c.in_ok-next.ensures.wide ∙ ap (λ b. c.loop-i.wide + cond b 1 0) (sym (wide-tag _ _ _ _ _ _ k.read.reads)));
      one = c.in_ok-next.ensures.one;
      thin = c.in_ok-next.ensures.thin;
    }

pub patterns::read_pat-new-requires : goal.patterns::read_pat-new-requires
patterns::read_pat-new-requires t c = c.loop-i.invariant.ordered

pub patterns::read_pat-returns : goal.patterns::read_pat-returns
patterns::read_pat-returns t c = record {
  reads = rw c.new.ensures (pat-done c.in_ok-count.count c.loop-i.wide c.args.reader.now.input.now c.loop-i.invariant.read (all-read c.loop-i.invariant.count c.loop-i.auto.i-end c.loop-i-test.false) c.in_ok-count.ensures.is c.loop-i.invariant.wide c.loop-i.invariant.one (omega (arith, c.loop-i.invariant.thin, c.loop-i.auto.i-end)));
  found = rw c.new.ensures c.loop-i.invariant.binding;
  free = λ q. rw c.new.ensures (c.loop-i.invariant.quiet q);
}

pub terms::read_form-returns-in_ok-read_terms-in-33 : goal.terms::read_form-returns-in_ok-read_terms-in-33
terms::read_form-returns-in_ok-read_terms-in-33 t c = record {
  reads = tuple-form _ _ c.in-33.is c.in_ok-read_terms-in-33.ensures.reads c.in_ok-read_terms-in-33.ensures.enough;
  ordered = tt;
}

pub terms::read_terms-returns-in_err-count : goal.terms::read_terms-returns-in_err-count
terms::read_terms-returns-in_err-count t c = failed _ _ _ _ c.from_residual.ensures.1 (row-number-fails (a_term _) (omega arith) c.in_err-count.ensures.wrong c.in_err-count.ensures.refuses c.in_err-count.ensures.begun)

pub terms::read_members-returns-in_err-count : goal.terms::read_members-returns-in_err-count
terms::read_members-returns-in_err-count t c = failed _ _ _ _ c.from_residual.ensures.1 (bag-number-fails (a_term _) c.in_err-count.ensures.wrong c.in_err-count.ensures.refuses c.in_err-count.ensures.begun)

pub terms::read_members-returns-in_err-check_order : goal.terms::read_members-returns-in_err-check_order
terms::read_members-returns-in_err-check_order t c = failed _ _ _ _ c.from_residual-in_err-check_order.ensures.1 (bag-order-fails c.in_ok-count.count c.loop-i.invariant.read c.in_ok-count.ensures.is (any-fits c.in_ok-count.ensures.most) (more-left c.loop-i.invariant.count c.loop-i-test.true) (no-form _ _) (a_term _) c.in_err-check_order.ensures.place c.in_err-check_order.ensures.refuses)

pub terms::read_members-returns-in_err-last : goal.terms::read_members-returns-in_err-last
terms::read_members-returns-in_err-last t c = failed _ _ _ _ c.from_residual-in_err-last.ensures.1 (unkept-bag _ _ _ c.read_term-term.result _ c.read_term-term.ensures c.in_err-last.ensures.fails
    (λ h. bag-fails c.in_ok-count.count c.loop-i.invariant.read c.in_ok-count.ensures.is (any-fits c.in_ok-count.ensures.most) (more-left c.loop-i.invariant.count c.loop-i-test.true) (no-form _ _) c.in_ok-check_order.ensures.up c.in_ok-check_order.ensures.follows h)
    (λ x h k. bag-lower-fails c.in_ok-count.count c.loop-i.invariant.read c.in_ok-count.ensures.is (any-fits c.in_ok-count.ensures.most) (more-left c.loop-i.invariant.count c.loop-i-test.true) (no-form _ _) (a_term _) k.place h k.down))

pub terms::read_pairs-returns-in_err-count : goal.terms::read_pairs-returns-in_err-count
terms::read_pairs-returns-in_err-count t c = failed _ _ _ _ c.from_residual.ensures.1 (bag-number-fails (a_pair (a_term _)) c.in_err-count.ensures.wrong c.in_err-count.ensures.refuses c.in_err-count.ensures.begun)

pub terms::read_pairs-returns-in_err-check_order : goal.terms::read_pairs-returns-in_err-check_order
terms::read_pairs-returns-in_err-check_order t c = failed _ _ _ _ c.from_residual-in_err-check_order.ensures.1 (bag-order-fails c.in_ok-count.count c.loop-i.invariant.read c.in_ok-count.ensures.is (any-fits c.in_ok-count.ensures.most) (more-left c.loop-i.invariant.count c.loop-i-test.true) (no-form _ _) (a_pair (a_term _)) c.in_err-check_order.ensures.place c.in_err-check_order.ensures.refuses)

pub terms::read_pairs-returns-in_err-key : goal.terms::read_pairs-returns-in_err-key
terms::read_pairs-returns-in_err-key t c = failed _ _ _ _ c.from_residual-in_err-key.ensures.1 (bag-fails c.in_ok-count.count c.loop-i.invariant.read c.in_ok-count.ensures.is (any-fits c.in_ok-count.ensures.most) (more-left c.loop-i.invariant.count c.loop-i-test.true) (no-form _ _) c.in_ok-check_order.ensures.up c.in_ok-check_order.ensures.follows (pair-first-fails (a_term _) c.in_err-key.ensures))

pub terms::read_pairs-returns-in_err-last : goal.terms::read_pairs-returns-in_err-last
terms::read_pairs-returns-in_err-last t c = failed _ _ _ _ c.from_residual-in_err-last.ensures.1 (unkept-bag _ _ _ c.paired-pair.result _ c.paired-pair.ensures c.in_err-last.ensures.fails
    (λ h. bag-fails c.in_ok-count.count c.loop-i.invariant.read c.in_ok-count.ensures.is (any-fits c.in_ok-count.ensures.most) (more-left c.loop-i.invariant.count c.loop-i-test.true) (no-form _ _) c.in_ok-check_order.ensures.up c.in_ok-check_order.ensures.follows (pair-second-fails c.in_ok-key.ensures (λ q. absurd (no_false q)) (went _ _ _ c.read_term-value.result c.read_term-value.ensures h)))
    (λ x h k. bag-lower-fails c.in_ok-count.count c.loop-i.invariant.read c.in_ok-count.ensures.is (any-fits c.in_ok-count.ensures.most) (more-left c.loop-i.invariant.count c.loop-i-test.true) (no-form _ _) (a_pair (a_term _)) k.place (pair-read x h.0 c.in_ok-key.ensures (came _ _ _ c.read_term-value.result c.read_term-value.ensures h.1)) k.down))

pub terms::read_term-returns-in_err-count : goal.terms::read_term-returns-in_err-count
terms::read_term-returns-in_err-count t c = failed _ _ _ _ c.from_residual.ensures.1 (term-fails (bag-number-fails (a_part _) c.in_err-count.ensures.wrong c.in_err-count.ensures.refuses c.in_err-count.ensures.begun))

pub terms::read_term-returns-in_err-tag : goal.terms::read_term-returns-in_err-tag
terms::read_term-returns-in_err-tag t c = failed _ _ _ _ c.from_residual-in_err-tag.ensures.1 (part_tag-fails c.in_ok-count.count c.loop-i.invariant.read c.in_ok-count.ensures.is (any-fits c.in_ok-count.ensures.most) (more-left c.loop-i.invariant.count c.loop-i-test.true) c.in_err-tag.ensures.fails)

pub terms::read_term-returns-in_err-last : goal.terms::read_term-returns-in_err-last
terms::read_term-returns-in_err-last t c = failed _ _ _ _ c.from_residual-in_err-last.ensures.1 (term-fails (unkept-bag _ _ _ c.read_part-part.result _ c.read_part-part.ensures c.in_err-last.ensures.fails
    (λ h. bag-fails c.in_ok-count.count c.loop-i.invariant.read c.in_ok-count.ensures.is (any-fits c.in_ok-count.ensures.most) (more-left c.loop-i.invariant.count c.loop-i-test.true) (tag-no_form c.in_ok-tag.ensures.is c.in_ok-tag.ensures.fits) c.in_ok-tag.ensures.up c.in_ok-tag.ensures.follows (bytes-fail c.in_ok-tag.ensures.is h))
    (λ x h k. bag-lower-fails c.in_ok-count.count c.loop-i.invariant.read c.in_ok-count.ensures.is (any-fits c.in_ok-count.ensures.most) (more-left c.loop-i.invariant.count c.loop-i-test.true) (tag-no_form c.in_ok-tag.ensures.is c.in_ok-tag.ensures.fits) (a_part _) k.place (reads-at _ c.in_ok-tag.ensures.is h.reads) k.down)))

pub terms::read_cases-returns-in_err-count : goal.terms::read_cases-returns-in_err-count
terms::read_cases-returns-in_err-count t c = failed _ _ _ _ c.from_residual.ensures.1 (row-number-fails (some-case _) (omega arith) c.in_err-count.ensures.wrong c.in_err-count.ensures.refuses c.in_err-count.ensures.begun)

pub terms::read_cases-returns-in_err-pat : goal.terms::read_cases-returns-in_err-pat
terms::read_cases-returns-in_err-pat t c = failed _ _ _ _ c.from_residual-in_err-pat.ensures.1 (row-fails 1 0xFFFFFFFF c.in_ok-count.count c.loop-i.invariant.read (λ q. absurd (no_false q)) c.in_ok-count.ensures.is c.in_ok-count.ensures.least c.in_ok-count.ensures.most (any-fits c.in_ok-count.ensures.most) (more-left c.loop-i.invariant.count c.loop-i-test.true) (some-case _) (case-pattern-fails c.in_err-pat.ensures))

pub terms::read_cases-returns-in_err-body : goal.terms::read_cases-returns-in_err-body
terms::read_cases-returns-in_err-body t c = failed _ _ _ _ c.from_residual-in_err-body.ensures.1 (row-fails 1 0xFFFFFFFF c.in_ok-count.count c.loop-i.invariant.read (λ q. absurd (no_false q)) c.in_ok-count.ensures.is c.in_ok-count.ensures.least c.in_ok-count.ensures.most (any-fits c.in_ok-count.ensures.most) (more-left c.loop-i.invariant.count c.loop-i-test.true) (some-case _) (case-body-fails c.in_ok-pat.ensures.reads (scope-more c.args.scope.now.items c.read_pat.new.found.items (bound c.in_ok-pat.pat) (c.in_ok-pat.ensures.found ∙ ap (λ xs. senses_of xs ++ bound c.in_ok-pat.pat) c.in_ok-inner.ensures)) c.in_err-body.ensures))

pub terms::read_binds-returns-in_err-count : goal.terms::read_binds-returns-in_err-count
terms::read_binds-returns-in_err-count t c = failed _ _ _ _ c.from_residual.ensures.1 (row-number-fails (some-bind _) (omega arith) c.in_err-count.ensures.wrong c.in_err-count.ensures.refuses c.in_err-count.ensures.begun)

pub terms::read_binds-returns-in_err-channel : goal.terms::read_binds-returns-in_err-channel
terms::read_binds-returns-in_err-channel t c = failed _ _ _ _ c.from_residual-in_err-channel.ensures.1 (row-fails 1 16 c.in_ok-count.count c.loop-i.invariant.read (λ q. absurd (no_false q)) c.in_ok-count.ensures.is c.in_ok-count.ensures.least c.in_ok-count.ensures.most (few-fit c.in_ok-count.ensures.most) (more-left c.loop-i.invariant.count c.loop-i-test.true) (some-bind _) (bind-channel-fails c.in_err-channel.ensures))

pub patterns::read_pats-returns-in_err-count : goal.patterns::read_pats-returns-in_err-count
patterns::read_pats-returns-in_err-count t c = failed _ _ _ _ c.from_residual.ensures.1 (row-number-fails (a_pat _) c.requires c.in_err-count.ensures.wrong c.in_err-count.ensures.refuses c.in_err-count.ensures.begun)

pub patterns::read_name_pats-returns-in_err-count : goal.patterns::read_name_pats-returns-in_err-count
patterns::read_name_pats-returns-in_err-count t c = failed _ _ _ _ c.from_residual.ensures.1 (row-number-fails (a_name _) (omega arith) c.in_err-count.ensures.wrong c.in_err-count.ensures.refuses c.in_err-count.ensures.begun)

pub patterns::read_pat_pairs-returns-in_err-count : goal.patterns::read_pat_pairs-returns-in_err-count
patterns::read_pat_pairs-returns-in_err-count t c = failed _ _ _ _ c.from_residual.ensures.1 (row-number-fails (a_pair (a_pat _)) (omega arith) c.in_err-count.ensures.wrong c.in_err-count.ensures.refuses c.in_err-count.ensures.begun)

pub patterns::read_pat_pairs-returns-in_err-key : goal.patterns::read_pat_pairs-returns-in_err-key
patterns::read_pat_pairs-returns-in_err-key t c = failed _ _ _ _ c.from_residual-in_err-key.ensures.1 (row-fails 0 8 c.in_ok-count.count c.loop-i.invariant.read c.loop-i.invariant.quiet c.in_ok-count.ensures.is c.in_ok-count.ensures.least c.in_ok-count.ensures.most (eight-fit c.in_ok-count.ensures.most) (more-left c.loop-i.invariant.count c.loop-i-test.true) (a_pair (a_pat _)) (pair-first-fails (a_pat _) c.in_err-key.ensures))

pub patterns::read_pat-returns-in_err-count : goal.patterns::read_pat-returns-in_err-count
patterns::read_pat-returns-in_err-count t c = failed _ _ _ _ c.from_residual.ensures.1 (record {
  wrong = pat-number_wrong c.in_err-count.ensures.wrong;
  refuses = pat-number _ c.in_err-count.ensures.refuses;
  begun = λ s. goes-on (c.in_err-count.ensures.begun s (omega arith)) (λ z g. pat-number_begun g);
})

pub terms::read_form-returns-in_err-read_terms-in-32 : goal.terms::read_form-returns-in_err-read_terms-in-32
terms::read_form-returns-in_err-read_terms-in-32 t c = failed _ _ _ _ c.from_residual.ensures.1 (tag-fails _ 0x20 c.in-32.is (list-fails c.in_err-read_terms-in-32.ensures))

pub terms::read_form-returns-in_err-read_terms-in-33 : goal.terms::read_form-returns-in_err-read_terms-in-33
terms::read_form-returns-in_err-read_terms-in-33 t c = failed _ _ _ _ c.from_residual-in_err-read_terms-in-33.ensures.1 (tag-fails _ 0x21 c.in-33.is (tuple-fails c.in_err-read_terms-in-33.ensures))

pub terms::read_form-returns-in_err-read_members-in-34 : goal.terms::read_form-returns-in_err-read_members-in-34
terms::read_form-returns-in_err-read_members-in-34 t c = failed _ _ _ _ c.from_residual-in_err-read_members-in-34.ensures.1 (tag-fails _ 0x22 c.in-34.is (set-fails c.in_err-read_members-in-34.ensures))

pub terms::read_form-returns-in_err-read_pairs-in-35 : goal.terms::read_form-returns-in_err-read_pairs-in-35
terms::read_form-returns-in_err-read_pairs-in-35 t c = failed _ _ _ _ c.from_residual-in_err-read_pairs-in-35.ensures.1 (tag-fails _ 0x23 c.in-35.is (map-fails c.in_err-read_pairs-in-35.ensures))

pub patterns::read_pat_form-returns-in_err-read_pats-in-33 : goal.patterns::read_pat_form-returns-in_err-read_pats-in-33
patterns::read_pat_form-returns-in_err-read_pats-in-33 t c = failed _ _ _ _ c.from_residual-in_err-read_pats-in-33.ensures.1 (tag-fails _ 0x21 c.in-33.is (tuple_pattern-fails c.in_err-read_pats-in-33.ensures))

pub patterns::read_pat_form-returns-in_err-persistent-in-48 : goal.patterns::read_pat_form-returns-in_err-persistent-in-48
patterns::read_pat_form-returns-in_err-persistent-in-48 t c = failed _ _ _ _ c.from_residual-in_err-persistent-in-48.ensures.1 (tag-fails _ 0x30 c.in-48.is (pat_send-flag-fails c.args.room c.in_err-persistent-in-48.ensures.wrong c.in_err-persistent-in-48.ensures.refuses c.in_err-persistent-in-48.ensures.place))

pub patterns::read_pat_form-returns-in_err-channel-in-48 : goal.patterns::read_pat_form-returns-in_err-channel-in-48
patterns::read_pat_form-returns-in_err-channel-in-48 t c = failed _ _ _ _ c.from_residual-in_err-channel-in-48.ensures.1 (tag-fails _ 0x30 c.in-48.is (pat_send-channel-fails c.in_ok-persistent-in-48.persistent c.in_ok-persistent-in-48.ensures.is c.in_err-channel-in-48.ensures))

pub patterns::read_pat_form-returns-in_err-args-in-48 : goal.patterns::read_pat_form-returns-in_err-args-in-48
patterns::read_pat_form-returns-in_err-args-in-48 t c = failed _ _ _ _ c.from_residual-in_err-args-in-48.ensures.1 (tag-fails _ 0x30 c.in-48.is (pat_send-args-fails c.in_ok-persistent-in-48.persistent c.in_ok-persistent-in-48.ensures.is c.in_ok-channel-in-48.ensures.reads c.in_ok-channel-in-48.ensures.free c.in_err-args-in-48.ensures))

pub patterns::read_pat_form-returns-in_err-rights-in-52 : goal.patterns::read_pat_form-returns-in_err-rights-in-52
patterns::read_pat_form-returns-in_err-rights-in-52 t c = failed _ _ _ _ c.from_residual-in_err-rights-in-52.ensures.1 (tag-fails _ 0x34 c.in-52.is (pat_bundle-rights-fails c.args.room c.in_err-rights-in-52.ensures.wrong c.in_err-rights-in-52.ensures.refuses c.in_err-rights-in-52.ensures.place))

pub patterns::read_pat_form-returns-in_err-body-in-52 : goal.patterns::read_pat_form-returns-in_err-body-in-52
patterns::read_pat_form-returns-in_err-body-in-52 t c = failed _ _ _ _ c.from_residual-in_err-body-in-52.ensures.1 (tag-fails _ 0x34 c.in-52.is (pat_bundle-body-fails c.in_ok-rights-in-52.rights c.in_ok-rights-in-52.ensures.is c.in_err-body-in-52.ensures))

pub patterns::read_connective-returns-in_err-read_term-in-83 : goal.patterns::read_connective-returns-in_err-read_term-in-83
patterns::read_connective-returns-in_err-read_term-in-83 t c = failed _ _ _ _ c.from_residual.ensures.1 (tag-fails _ 0x53 c.in-83.is (same-body-fails c.in_err-read_term-in-83.ensures))

pub patterns::read_connective-returns-in_err-left-in-84 : goal.patterns::read_connective-returns-in_err-left-in-84
patterns::read_connective-returns-in_err-left-in-84 t c = failed _ _ _ _ c.from_residual-in_err-left-in-84.ensures.1 (tag-fails _ 0x54 c.in-84.is (both-left-fails c.in_err-left-in-84.ensures))

pub patterns::read_connective-returns-in_err-right-in-84 : goal.patterns::read_connective-returns-in_err-right-in-84
patterns::read_connective-returns-in_err-right-in-84 t c = failed _ _ _ _ c.from_residual-in_err-right-in-84.ensures.1 (tag-fails _ 0x54 c.in-84.is (both-right-fails c.in_ok-left-in-84.ensures.reads c.in_ok-left-in-84.ensures.free c.in_err-right-in-84.ensures))

pub patterns::read_connective-returns-in_err-left-in-85 : goal.patterns::read_connective-returns-in_err-left-in-85
patterns::read_connective-returns-in_err-left-in-85 t c = failed _ _ _ _ c.from_residual-in_err-left-in-85.ensures.1 (tag-fails _ 0x55 c.in-85.is (either-left-fails c.in_err-left-in-85.ensures))

pub patterns::read_connective-returns-in_err-right-in-85 : goal.patterns::read_connective-returns-in_err-right-in-85
patterns::read_connective-returns-in_err-right-in-85 t c = failed _ _ _ _ c.from_residual-in_err-right-in-85.ensures.1 (tag-fails _ 0x55 c.in-85.is (either-right-fails c.in_ok-left-in-85.ensures.reads (c.in_ok-left-in-85.ensures.free refl) c.in_err-right-in-85.ensures))

pub patterns::read_connective-returns-in_err-read_free_pat-in-86 : goal.patterns::read_connective-returns-in_err-read_free_pat-in-86
patterns::read_connective-returns-in_err-read_free_pat-in-86 t c = failed _ _ _ _ c.from_residual-in_err-read_free_pat-in-86.ensures.1 (tag-fails _ 0x56 c.in-86.is (not-body-fails c.in_err-read_free_pat-in-86.ensures))

pub terms::read_part-returns-then-is_form : goal.terms::read_part-returns-then-is_form
terms::read_part-returns-then-is_form t c =
    let k = has-room c.requires (sym c.is_form.ensures ∙ c.if-is_form.true) in
    part-at-room c.read_form.result part_tree _ _ _ _ _ _ (omega (arith, k)) c.read_form.ensures

pub terms::read_form-returns-in_default : goal.terms::read_form-returns-in_default
terms::read_form-returns-in_default t c = c.read_processes.ensures

pub patterns::read_pat_form-returns-in_default : goal.patterns::read_pat_form-returns-in_default
patterns::read_pat_form-returns-in_default t c = c.read_connective.ensures

pub patterns::read_pat_form-read_connective-requires : goal.patterns::read_pat_form-read_connective-requires
patterns::read_pat_form-read_connective-requires t c = (omega arith, (c.requires.form, later-pat_form c.args.tag c.requires.form c.requires.not_closed (λ q. omega (arith, q)) (λ q. omega (arith, q)) (λ q. omega (arith, q)) (λ q. omega (arith, q)) (λ q. omega (arith, q)) (λ q. omega (arith, q))))

pub patterns::read_connective-returns-in_default : goal.patterns::read_connective-returns-in_default
patterns::read_connective-returns-in_default t c = absurd (pat_form-tags c.args.tag c.requires.form (λ p q. omega (arith, p, q))
    (λ q. omega (arith, q)) (λ q. omega (arith, q)) (λ q. omega (arith, q)) (λ q. omega (arith, q)) (λ q. omega (arith, q))
    (λ q. omega (arith, q)) (λ q. omega (arith, q)) (λ q. omega (arith, q)) (λ q. omega (arith, q)) (λ q. omega (arith, q)))

pub patterns::read_pat_part-returns-then-is_pat_form : goal.patterns::read_pat_part-returns-then-is_pat_form
patterns::read_pat_part-returns-then-is_pat_form t c =
    let k = has-room c.requires (sym c.is_pat_form.ensures ∙ c.if-is_pat_form.true) in
    pat_part-at-room c.read_pat_form.result pat_part_tree _ _ _ _ _ _ _ _ _ (omega (arith, k)) c.read_pat_form.ensures

pub patterns::read_pat_part-returns-in_err-read_part-in-49-to-51 : goal.patterns::read_pat_part-returns-in_err-read_part-in-49-to-51
patterns::read_pat_part-returns-in_err-read_part-in-49-to-51 t c = failed _ _ _ _ c.from_residual.ensures.1 (record {
  wrong = closed_wrong c.args.tag (omega arith) (omega arith) (wrong-unscoped c.new-outside.ensures.items c.in_err-read_part-in-49-to-51.ensures.wrong);
  refuses = closed-refused _ c.args.tag (omega arith) (omega arith) (refuses-unscoped c.new-outside.ensures.items c.in_err-read_part-in-49-to-51.ensures.refuses);
  begun = λ s. goes-on (c.in_err-read_part-in-49-to-51.ensures.begun s) (λ z g. closed-begun c.args.tag (omega arith) (omega arith) (begun-unscoped c.new-outside.ensures.items g));
})

pub patterns::read_name_pat-returns-in-None : goal.patterns::read_name_pat-returns-in-None
patterns::read_name_pat-returns-in-None t c = passed _ _ _ _ c.read_pat.result c.read_pat.ensures
    (λ p h. record { reads = name-read h.reads; found = h.found; free = h.free })
    (λ e h. record { wrong = name_wrong h.wrong c.in-None.ensures.none; refuses = name-refused h.refuses c.in-None.ensures.none; begun = λ s. goes-on (h.begun s) (λ z g. name-begun g) })

pub terms::read_binds-returns-in_err-push : goal.terms::read_binds-returns-in_err-push
terms::read_binds-returns-in_err-push t c = failed _ _ _ _ c.from_residual-in_err-push.ensures.1 memory-row-fails

pub terms::read_cases-returns-in_err-push : goal.terms::read_cases-returns-in_err-push
terms::read_cases-returns-in_err-push t c = failed _ _ _ _ c.from_residual-in_err-push.ensures.1 memory-row-fails

pub terms::read_cases-returns-in_err-inner : goal.terms::read_cases-returns-in_err-inner
terms::read_cases-returns-in_err-inner t c = failed _ _ _ _ c.from_residual-in_err-inner.ensures.1 memory-row-fails

pub terms::read_form-returns-in_ok-read_terms-in-32 : goal.terms::read_form-returns-in_ok-read_terms-in-32
terms::read_form-returns-in_ok-read_terms-in-32 t c = record {
  reads = list-form _ _ c.in-32.is c.in_ok-read_terms-in-32.ensures.reads;
  ordered = tt;
}

pub terms::read_form-returns-in_ok-read_members-in-34 : goal.terms::read_form-returns-in_ok-read_members-in-34
terms::read_form-returns-in_ok-read_members-in-34 t c = record {
  reads = set-form _ _ c.in-34.is c.in_ok-read_members-in-34.ensures;
  ordered = c.in_ok-read_members-in-34.ensures.up;
}

pub terms::read_form-returns-in_ok-read_pairs-in-35 : goal.terms::read_form-returns-in_ok-read_pairs-in-35
terms::read_form-returns-in_ok-read_pairs-in-35 t c = record {
  reads = map-form _ _ c.in-35.is c.in_ok-read_pairs-in-35.ensures;
  ordered = c.in_ok-read_pairs-in-35.ensures.up;
}

pub patterns::read_pat_form-returns-in_ok-read_pats-in-33 : goal.patterns::read_pat_form-returns-in_ok-read_pats-in-33
patterns::read_pat_form-returns-in_ok-read_pats-in-33 t c = record {
  reads = tuple_pattern-form _ _ c.in-33.is c.in_ok-read_pats-in-33.ensures.reads c.in_ok-read_pats-in-33.ensures.enough;
  ordered = tt;
  found = c.in_ok-read_pats-in-33.ensures.found;
  free = c.in_ok-read_pats-in-33.ensures.free;
}

pub patterns::read_pat_form-returns-in_ok-args-in-48 : goal.patterns::read_pat_form-returns-in_ok-args-in-48
patterns::read_pat_form-returns-in_ok-args-in-48 t c = record {
  reads = pat_send-form _ _ c.in-48.is c.in_ok-persistent-in-48.ensures.is c.in_ok-channel-in-48.ensures.reads c.in_ok-args-in-48.ensures.reads;
  ordered = tt;
  found = bound-two _ _ _ c.in_ok-channel-in-48.ensures.found c.in_ok-args-in-48.ensures.found;
  free = λ q. free-two c.in_ok-channel-in-48.channel (many row c.in_ok-args-in-48.args.items) (c.in_ok-channel-in-48.ensures.free q) (c.in_ok-args-in-48.ensures.free q);
}

pub patterns::read_pat_form-returns-in_ok-body-in-52 : goal.patterns::read_pat_form-returns-in_ok-body-in-52
patterns::read_pat_form-returns-in_ok-body-in-52 t c = record {
  reads = pat_bundle-form c.in_ok-rights-in-52.rights c.args.tag c.in-52.is c.in_ok-rights-in-52.ensures.is c.in_ok-body-in-52.ensures.reads (c.in_ok-body-in-52.ensures.free refl);
  ordered = tt;
  found = bound-free _ _ (one-free (c.in_ok-body-in-52.ensures.free refl));
  free = λ q. one-free (c.in_ok-body-in-52.ensures.free refl);
}

pub patterns::read_connective-returns-in_ok-read_term-in-83 : goal.patterns::read_connective-returns-in_ok-read_term-in-83
patterns::read_connective-returns-in_ok-read_term-in-83 t c = record {
  reads = same-form _ c.in-83.is c.in_ok-read_term-in-83.ensures;
  ordered = tt;
  found = bound-free _ [] refl;
  free = λ q. refl;
}

pub patterns::read_connective-returns-in_ok-right-in-84 : goal.patterns::read_connective-returns-in_ok-right-in-84
patterns::read_connective-returns-in_ok-right-in-84 t c = record {
  reads = both-form _ c.in-84.is c.in_ok-left-in-84.ensures.reads c.in_ok-right-in-84.ensures.reads;
  ordered = tt;
  found = bound-two _ _ _ c.in_ok-left-in-84.ensures.found c.in_ok-right-in-84.ensures.found;
  free = λ q. free-two c.in_ok-left-in-84.left c.in_ok-right-in-84.right (c.in_ok-left-in-84.ensures.free q) (c.in_ok-right-in-84.ensures.free q);
}

pub patterns::read_connective-returns-in_ok-right-in-85 : goal.patterns::read_connective-returns-in_ok-right-in-85
patterns::read_connective-returns-in_ok-right-in-85 t c = record {
  reads = either-form c.args.tag c.in-85.is c.in_ok-left-in-85.ensures.reads c.in_ok-right-in-85.ensures.reads (c.in_ok-left-in-85.ensures.free refl) (c.in_ok-right-in-85.ensures.free refl);
  ordered = tt;
  found = bound-free _ _ (free-two c.in_ok-left-in-85.left c.in_ok-right-in-85.right (c.in_ok-left-in-85.ensures.free refl) (c.in_ok-right-in-85.ensures.free refl));
  free = λ q. free-two c.in_ok-left-in-85.left c.in_ok-right-in-85.right (c.in_ok-left-in-85.ensures.free refl) (c.in_ok-right-in-85.ensures.free refl);
}

pub patterns::read_connective-returns-in_ok-read_free_pat-in-86 : goal.patterns::read_connective-returns-in_ok-read_free_pat-in-86
patterns::read_connective-returns-in_ok-read_free_pat-in-86 t c = record {
  reads = not-form c.args.tag c.in-86.is c.in_ok-read_free_pat-in-86.ensures.reads (c.in_ok-read_free_pat-in-86.ensures.free refl);
  ordered = tt;
  found = bound-free _ _ (one-free (c.in_ok-read_free_pat-in-86.ensures.free refl));
  free = λ q. one-free (c.in_ok-read_free_pat-in-86.ensures.free refl);
}

pub patterns::read_pat_part-returns-in_ok-read_part-in-49-to-51 : goal.patterns::read_pat_part-returns-in_ok-read_part-in-49-to-51
patterns::read_pat_part-returns-in_ok-read_part-in-49-to-51 t c = record {
  reads = (closed-read {v = scope_of c.args.scope.now.items} _ (omega arith) (omega arith) (reads-unscoped c.new-outside.ensures.items c.in_ok-read_part-in-49-to-51.ensures.reads)).0;
  ordered = c.in_ok-read_part-in-49-to-51.ensures.ordered;
  found = bound-free _ _ (closed-read {v = scope_of c.args.scope.now.items} _ (omega arith) (omega arith) (reads-unscoped c.new-outside.ensures.items c.in_ok-read_part-in-49-to-51.ensures.reads)).1;
  free = λ q. (closed-read {v = scope_of c.args.scope.now.items} _ (omega arith) (omega arith) (reads-unscoped c.new-outside.ensures.items c.in_ok-read_part-in-49-to-51.ensures.reads)).1;
}

pub patterns::read_free_pat-returns : goal.patterns::read_free_pat-returns
patterns::read_free_pat-returns t c = passed _ _ _ _ c.read_pat.result c.read_pat.ensures
    (λ t h. record { reads = h.reads; found = sym (h.free refl); free = h.free })
    (λ e h. h)

pub terms::read_terms-returns-in_err-keep : goal.terms::read_terms-returns-in_err-keep
terms::read_terms-returns-in_err-keep t c = failed _ _ _ _ c.from_residual-in_err-keep.ensures.1 (unkept-row _ _ c.read_term-term.result _ c.read_term-term.ensures c.in_err-keep.ensures.fails (λ h. row-fails c.args.least 0xFFFFFFFF c.in_ok-count.count c.loop-i.invariant.read (λ q. absurd (no_false q)) c.in_ok-count.ensures.is c.in_ok-count.ensures.least c.in_ok-count.ensures.most (any-fits c.in_ok-count.ensures.most) (more-left c.loop-i.invariant.count c.loop-i-test.true) (a_term _) h))

pub terms::read_binds-returns-in_err-both : goal.terms::read_binds-returns-in_err-both
terms::read_binds-returns-in_err-both t c = failed _ _ _ _ c.from_residual-in_err-both.ensures.1 (unread-row _ _ _ c.read_name_pats-pats.result _ c.read_name_pats-pats.ensures c.in_err-both.ensures.fails
    (λ h. row-fails 1 16 c.in_ok-count.count c.loop-i.invariant.read (λ q. absurd (no_false q)) c.in_ok-count.ensures.is c.in_ok-count.ensures.least c.in_ok-count.ensures.most (few-fit c.in_ok-count.ensures.most) (more-left c.loop-i.invariant.count c.loop-i-test.true) (some-bind _) (bind-patterns-fails c.in_ok-channel.ensures h))
    (λ x h k. row-fails 1 16 c.in_ok-count.count c.loop-i.invariant.read (λ q. absurd (no_false q)) c.in_ok-count.ensures.is c.in_ok-count.ensures.least c.in_ok-count.ensures.most (few-fit c.in_ok-count.ensures.most) (more-left c.loop-i.invariant.count c.loop-i-test.true) (some-bind _) (bind-rest-fails c.in_ok-channel.ensures h.reads k.wrong k.refuses k.place)))

pub patterns::read_pats-returns-in_err-keep : goal.patterns::read_pats-returns-in_err-keep
patterns::read_pats-returns-in_err-keep t c = failed _ _ _ _ c.from_residual-in_err-keep.ensures.1 (unkept-row _ _ c.read_pat-pat.result _ c.read_pat-pat.ensures c.in_err-keep.ensures.fails (λ h. row-fails c.args.row.least c.args.row.most c.in_ok-count.count c.loop-i.invariant.read c.loop-i.invariant.quiet c.in_ok-count.ensures.is c.in_ok-count.ensures.least c.in_ok-count.ensures.most (omega arith) (more-left c.loop-i.invariant.count c.loop-i-test.true) (a_pat _) h))

pub patterns::read_name_pats-returns-in_err-keep : goal.patterns::read_name_pats-returns-in_err-keep
patterns::read_name_pats-returns-in_err-keep t c = failed _ _ _ _ c.from_residual-in_err-keep.ensures.1 (unkept-row _ _ c.read_name_pat-pat.result _ c.read_name_pat-pat.ensures c.in_err-keep.ensures.fails (λ h. row-fails 0 0xFFFFFFFF c.in_ok-count.count c.loop-i.invariant.read (λ q. absurd (no_false q)) c.in_ok-count.ensures.is c.in_ok-count.ensures.least c.in_ok-count.ensures.most (any-fits c.in_ok-count.ensures.most) (more-left c.loop-i.invariant.count c.loop-i-test.true) (a_name _) h))

pub patterns::read_pat_pairs-returns-in_err-keep : goal.patterns::read_pat_pairs-returns-in_err-keep
patterns::read_pat_pairs-returns-in_err-keep t c = failed _ _ _ _ c.from_residual-in_err-keep.ensures.1 (unkept-row _ _ c.paired-pair.result _ c.paired-pair.ensures c.in_err-keep.ensures.fails
    (λ h. row-fails 0 8 c.in_ok-count.count c.loop-i.invariant.read c.loop-i.invariant.quiet c.in_ok-count.ensures.is c.in_ok-count.ensures.least c.in_ok-count.ensures.most (eight-fit c.in_ok-count.ensures.most) (more-left c.loop-i.invariant.count c.loop-i-test.true) (a_pair (a_pat _)) (pair-second-fails c.in_ok-key.ensures.reads c.in_ok-key.ensures.free (went _ _ _ c.read_pat-value.result c.read_pat-value.ensures h))))

pub patterns::read_pat-returns-in_err-next : goal.patterns::read_pat-returns-in_err-next
patterns::read_pat-returns-in_err-next t c = failed _ _ _ _ c.from_residual-in_err-next.ensures.1 (pat_tag-fails c.in_ok-count.count c.loop-i.wide c.loop-i.i c.loop-i.invariant.read c.loop-i.invariant.quiet c.in_ok-count.ensures.is c.in_ok-count.ensures.most c.loop-i.invariant.count (more-left c.loop-i.invariant.count c.loop-i-test.true) c.loop-i.invariant.wide c.loop-i.invariant.one c.in_err-next.ensures.fails)

pub patterns::read_pat-returns-in_err-keep : goal.patterns::read_pat-returns-in_err-keep
patterns::read_pat-returns-in_err-keep t c = failed _ _ _ _ c.from_residual-in_err-keep.ensures.1 (unkept _ _ c.read_pat_part-part.result _ c.read_pat_part-part.ensures c.in_err-keep.ensures.fails (λ h. record {
  wrong = pat_wrong _ c.in_ok-count.count c.loop-i.invariant.read c.in_ok-count.ensures.is (nine-fit c.in_ok-count.ensures.most) (more-left c.loop-i.invariant.count c.loop-i-test.true) (pat-tag_no_form c.in_ok-next.ensures.is c.in_ok-next.ensures.fits) (bytes_wrong c.in_ok-next.ensures.is h.wrong);
  refuses = pat-refused _ c.in_ok-count.count c.loop-i.invariant.read c.in_ok-count.ensures.is (nine-fit c.in_ok-count.ensures.most) (more-left c.loop-i.invariant.count c.loop-i-test.true) (refuses-at c.in_ok-next.ensures.is h.refuses);
  begun = λ s. goes-on (h.begun s) (λ z g. pat-part_begun c.in_ok-count.count _ _ c.loop-i.invariant.read c.loop-i.invariant.quiet c.in_ok-count.ensures.is (more-left c.loop-i.invariant.count c.loop-i-test.true) c.in_ok-count.ensures.most c.in_ok-next.ensures.is c.in_ok-next.ensures.wide c.loop-i.invariant.wide c.loop-i.invariant.one c.in_ok-next.ensures.one (omega (arith, c.in_ok-next.ensures.thin, c.loop-i.invariant.count)) g);
}))

pub terms::read_form-returns-in-49-to-51 : goal.terms::read_form-returns-in-49-to-51
terms::read_form-returns-in-49-to-51 t c = c.read_binder.ensures

pub terms::read_form-read_processes-requires : goal.terms::read_form-read_processes-requires
terms::read_form-read_processes-requires t c = (omega arith, last-form c.args.tag c.requires (λ q. omega (arith, q)) (λ q. omega (arith, q)) (λ q. omega (arith, q)) (λ q. omega (arith, q)) (λ p q. omega (arith, p, q)))

pub terms::read_binder-returns-in_err-head-in-49 : goal.terms::read_binder-returns-in_err-head-in-49
terms::read_binder-returns-in_err-head-in-49 t c = failed _ _ _ _ c.from_residual.ensures.1 (tag-fails _ 0x31 c.in-49.is (c.in_err-head-in-49.ensures.fails _ _))

pub terms::read_binder-returns-in_err-binds-in-49 : goal.terms::read_binder-returns-in_err-binds-in-49
terms::read_binder-returns-in_err-binds-in-49 t c = failed _ _ _ _ c.from_residual-in_err-binds-in-49.ensures.1 (tag-fails _ 0x31 c.in-49.is (receive-binds-fails c.in_ok-head-in-49.head.0 c.in_ok-head-in-49.ensures.is c.in_err-binds-in-49.ensures))

pub terms::read_binder-returns-in_err-body-in-49 : goal.terms::read_binder-returns-in_err-body-in-49
terms::read_binder-returns-in_err-body-in-49 t c = failed _ _ _ _ c.from_residual-in_err-body-in-49.ensures.1 (tag-fails _ 0x31 c.in-49.is (receive-body-fails (map bind_tree c.in_ok-binds-in-49.binds.items) c.in_ok-head-in-49.head.0 c.in_ok-head-in-49.ensures.is c.in_ok-binds-in-49.ensures.reads (scope-more c.args.scope.now.items c.read_binds.new.found.items (bound (many row (map bind_tree c.in_ok-binds-in-49.binds.items))) (c.in_ok-binds-in-49.ensures.found ∙ ap (λ xs. senses_of xs ++ bound (many row (map bind_tree c.in_ok-binds-in-49.binds.items))) c.in_ok-head-in-49.ensures.scope)) c.in_ok-binds-in-49.ensures.enough c.in_ok-binds-in-49.ensures.few c.in_err-body-in-49.ensures))

pub terms::read_binder-returns-in_ok-body-in-49 : goal.terms::read_binder-returns-in_ok-body-in-49
terms::read_binder-returns-in_ok-body-in-49 t c = record {
  reads = receive-form (map bind_tree c.in_ok-binds-in-49.binds.items) c.in_ok-head-in-49.head.0 c.args.tag c.in-49.is c.in_ok-head-in-49.ensures.is c.in_ok-binds-in-49.ensures.reads c.in_ok-body-in-49.ensures
      (scope-more c.args.scope.now.items c.read_binds.new.found.items (bound (many row (map bind_tree c.in_ok-binds-in-49.binds.items))) (c.in_ok-binds-in-49.ensures.found ∙ ap (λ xs. senses_of xs ++ bound (many row (map bind_tree c.in_ok-binds-in-49.binds.items))) c.in_ok-head-in-49.ensures.scope))
      c.in_ok-binds-in-49.ensures.enough c.in_ok-binds-in-49.ensures.few;
  ordered = tt;
}

pub terms::read_binder-returns-in_err-head-in-50 : goal.terms::read_binder-returns-in_err-head-in-50
terms::read_binder-returns-in_err-head-in-50 t c = failed _ _ _ _ c.from_residual-in_err-head-in-50.ensures.1 (tag-fails _ 0x32 c.in-50.is (c.in_err-head-in-50.ensures.fails _ _))

pub terms::read_binder-returns-in_err-body-in-50 : goal.terms::read_binder-returns-in_err-body-in-50
terms::read_binder-returns-in_err-body-in-50 t c = failed _ _ _ _ c.from_residual-in_err-body-in-50.ensures.1 (tag-fails _ 0x32 c.in-50.is (new-body-fails c.in_ok-head-in-50.head.0.items c.in_ok-head-in-50.ensures.is (scope-names c.args.scope.now.items c.in_ok-head-in-50.head.1.items c.in_ok-head-in-50.head.0.items _ refl c.in_ok-head-in-50.ensures.scope) c.in_ok-head-in-50.ensures.some c.in_err-body-in-50.ensures))

pub terms::read_binder-returns-in_ok-body-in-50 : goal.terms::read_binder-returns-in_ok-body-in-50
terms::read_binder-returns-in_ok-body-in-50 t c = record {
  reads = new-form c.in_ok-head-in-50.head.0.items c.args.tag c.in-50.is c.in_ok-head-in-50.ensures.is c.in_ok-body-in-50.ensures (scope-names c.args.scope.now.items c.in_ok-head-in-50.head.1.items c.in_ok-head-in-50.head.0.items _ refl c.in_ok-head-in-50.ensures.scope) c.in_ok-head-in-50.ensures.some;
  ordered = tt;
}

pub terms::read_binder-returns-in_err-target-in_default : goal.terms::read_binder-returns-in_err-target-in_default
terms::read_binder-returns-in_err-target-in_default t c = failed _ _ _ _ c.from_residual-in_err-target-in_default.ensures.1 (tag-fails _ 0x33 (omega arith) (match-target-fails c.in_err-target-in_default.ensures))

pub terms::read_binder-returns-in_err-cases-in_default : goal.terms::read_binder-returns-in_err-cases-in_default
terms::read_binder-returns-in_err-cases-in_default t c = failed _ _ _ _ c.from_residual-in_err-cases-in_default.ensures.1 (tag-fails _ 0x33 (omega arith) (match-cases-fails c.in_ok-target-in_default.ensures c.in_err-cases-in_default.ensures))

pub terms::read_binder-returns-in_ok-cases-in_default : goal.terms::read_binder-returns-in_ok-cases-in_default
terms::read_binder-returns-in_ok-cases-in_default t c = record {
  reads = match-form (map case_tree c.in_ok-cases-in_default.cases.items) c.args.tag (omega arith) c.in_ok-target-in_default.ensures c.in_ok-cases-in_default.ensures.reads c.in_ok-cases-in_default.ensures.enough;
  ordered = tt;
}

pub terms::read_processes-returns-in_err-head : goal.terms::read_processes-returns-in_err-head
terms::read_processes-returns-in_err-head t c = failed _ _ _ _ c.from_residual.ensures.1 (c.in_err-head.ensures.fails _ _)

pub terms::read_processes-returns-in_err-body-in-Single : goal.terms::read_processes-returns-in_err-body-in-Single
terms::read_processes-returns-in_err-body-in-Single t c = failed _ _ _ _ c.from_residual-in_err-body-in-Single.ensures.1 (single-fails c.in-Single.single (code-at (head.Single c.in-Single.single) _ c.in-Single.is c.in_ok-head.ensures.is) c.in_err-body-in-Single.ensures)

pub terms::read_processes-returns-in_ok-body-in-Single : goal.terms::read_processes-returns-in_ok-body-in-Single
terms::read_processes-returns-in_ok-body-in-Single t c = single-read c.in-Single.single c.over.ensures (code-at (head.Single c.in-Single.single) _ c.in-Single.is c.in_ok-head.ensures.is) c.in_ok-body-in-Single.ensures

pub terms::read_processes-returns-in_err-left-in-Binary : goal.terms::read_processes-returns-in_err-left-in-Binary
terms::read_processes-returns-in_err-left-in-Binary t c = failed _ _ _ _ c.from_residual-in_err-left-in-Binary.ensures.1 (binary-first-fails c.in-Binary.op (code-at (head.Binary c.in-Binary.op) _ c.in-Binary.is c.in_ok-head.ensures.is) c.in_err-left-in-Binary.ensures)

pub terms::read_processes-returns-in_err-right-in-Binary : goal.terms::read_processes-returns-in_err-right-in-Binary
terms::read_processes-returns-in_err-right-in-Binary t c = failed _ _ _ _ c.from_residual-in_err-right-in-Binary.ensures.1 (binary-second-fails c.in-Binary.op (code-at (head.Binary c.in-Binary.op) _ c.in-Binary.is c.in_ok-head.ensures.is) c.in_ok-left-in-Binary.ensures c.in_err-right-in-Binary.ensures)

pub terms::read_processes-returns-in_ok-right-in-Binary : goal.terms::read_processes-returns-in_ok-right-in-Binary
terms::read_processes-returns-in_ok-right-in-Binary t c = record { reads = binary-read c.in-Binary.op (code-at (head.Binary c.in-Binary.op) _ c.in-Binary.is c.in_ok-head.ensures.is) c.in_ok-left-in-Binary.ensures c.in_ok-right-in-Binary.ensures; ordered = tt }

pub terms::read_processes-returns-in_err-first-in-Listed : goal.terms::read_processes-returns-in_err-first-in-Listed
terms::read_processes-returns-in_err-first-in-Listed t c = failed _ _ _ _ c.from_residual-in_err-first-in-Listed.ensures.1 (listed-first-fails c.in-Listed.listed (name-at (head.Listed c.in-Listed.listed) c.in-Listed.is c.in_ok-head.ensures.name) (code-at (head.Listed c.in-Listed.listed) _ c.in-Listed.is c.in_ok-head.ensures.is) c.in_err-first-in-Listed.ensures)

pub terms::read_processes-returns-in_err-args-in-Listed : goal.terms::read_processes-returns-in_err-args-in-Listed
terms::read_processes-returns-in_err-args-in-Listed t c = failed _ _ _ _ c.from_residual-in_err-args-in-Listed.ensures.1 (listed-args-fails c.in-Listed.listed (name-at (head.Listed c.in-Listed.listed) c.in-Listed.is c.in_ok-head.ensures.name) (code-at (head.Listed c.in-Listed.listed) _ c.in-Listed.is c.in_ok-head.ensures.is) c.in_ok-first-in-Listed.ensures c.in_err-args-in-Listed.ensures)

pub terms::read_processes-returns-in_ok-args-in-Listed : goal.terms::read_processes-returns-in_ok-args-in-Listed
terms::read_processes-returns-in_ok-args-in-Listed t c = listed-read c.in-Listed.listed (name-at (head.Listed c.in-Listed.listed) c.in-Listed.is c.in_ok-head.ensures.name) c.over-in-Listed.ensures (code-at (head.Listed c.in-Listed.listed) _ c.in-Listed.is c.in_ok-head.ensures.is) c.in_ok-first-in-Listed.ensures c.in_ok-args-in-Listed.ensures.reads

pub patterns::read_pat_form-returns-in_err-both-in-32 : goal.patterns::read_pat_form-returns-in_err-both-in-32
patterns::read_pat_form-returns-in_err-both-in-32 t c = failed _ _ _ _ c.from_residual.ensures.1 (tag-fails _ 0x20 c.in-32.is (unread _ _ _ c.read_pats-members.result _ c.read_pats-members.ensures c.in_err-both-in-32.ensures.fails
    (λ h. list-members-fails h)
    (λ x h k. list-rest-fails h.reads h.free k.wrong k.refuses k.place)))

pub patterns::read_pat_form-returns-in_ok-both-in-32 : goal.patterns::read_pat_form-returns-in_ok-both-in-32
patterns::read_pat_form-returns-in_ok-both-in-32 t c = let h = came _ _ _ c.read_pats-members.result c.read_pats-members.ensures c.in_ok-both-in-32.ensures.items in
    record {
      reads = list_pattern-form _ c.in_ok-both-in-32.both.1 c.args.tag c.in-32.is h.reads c.in_ok-both-in-32.ensures.is;
      ordered = tt;
      found = bound-two _ _ _ h.found c.in_ok-both-in-32.ensures.bound;
      free = λ q. free-two (many row c.in_ok-both-in-32.both.0.items) (leaf (rest c.in_ok-both-in-32.both.1)) (h.free q) (c.in_ok-both-in-32.ensures.free q);
    }

pub patterns::read_pat_form-returns-in_err-both-in-34 : goal.patterns::read_pat_form-returns-in_err-both-in-34
patterns::read_pat_form-returns-in_err-both-in-34 t c = failed _ _ _ _ c.from_residual-in_err-both-in-34.ensures.1 (tag-fails _ 0x22 c.in-34.is (unread _ _ _ c.read_pats-members-in-34.result _ c.read_pats-members-in-34.ensures c.in_err-both-in-34.ensures.fails
    (λ h. set-members-fails h)
    (λ x h k. set-rest-fails _ h.reads h.free h.few k.wrong k.refuses k.place)))

pub patterns::read_pat_form-returns-in_ok-both-in-34 : goal.patterns::read_pat_form-returns-in_ok-both-in-34
patterns::read_pat_form-returns-in_ok-both-in-34 t c = let h = came _ _ _ c.read_pats-members-in-34.result c.read_pats-members-in-34.ensures c.in_ok-both-in-34.ensures.items in
    record {
      reads = set_pattern-form _ c.in_ok-both-in-34.both.1 c.args.tag c.in-34.is h.reads c.in_ok-both-in-34.ensures.is h.few;
      ordered = tt;
      found = bound-two _ _ _ h.found c.in_ok-both-in-34.ensures.bound;
      free = λ q. free-two (many row c.in_ok-both-in-34.both.0.items) (leaf (rest c.in_ok-both-in-34.both.1)) (h.free q) (c.in_ok-both-in-34.ensures.free q);
    }

pub patterns::read_pat_form-returns-in_err-both-in-35 : goal.patterns::read_pat_form-returns-in_err-both-in-35
patterns::read_pat_form-returns-in_err-both-in-35 t c = failed _ _ _ _ c.from_residual-in_err-both-in-35.ensures.1 (tag-fails _ 0x23 c.in-35.is (unread _ _ _ c.read_pat_pairs-pairs.result _ c.read_pat_pairs-pairs.ensures c.in_err-both-in-35.ensures.fails
    (λ h. map-pairs-fails h)
    (λ x h k. map-rest-fails (map pair_tree x.items) h.reads h.free h.few k.wrong k.refuses k.place)))

pub patterns::read_pat_form-returns-in_ok-both-in-35 : goal.patterns::read_pat_form-returns-in_ok-both-in-35
patterns::read_pat_form-returns-in_ok-both-in-35 t c = let h = came _ _ _ c.read_pat_pairs-pairs.result c.read_pat_pairs-pairs.ensures c.in_ok-both-in-35.ensures.items in
    record {
      reads = map_pattern-form (map pair_tree c.in_ok-both-in-35.both.0.items) c.in_ok-both-in-35.both.1 c.args.tag c.in-35.is h.reads c.in_ok-both-in-35.ensures.is h.few;
      ordered = tt;
      found = bound-two _ _ _ h.found c.in_ok-both-in-35.ensures.bound;
      free = λ q. free-two (many row (map pair_tree c.in_ok-both-in-35.both.0.items)) (leaf (rest c.in_ok-both-in-35.both.1)) (h.free q) (c.in_ok-both-in-35.ensures.free q);
    }

pub patterns::read_name_pat-returns-in_ok-parts-in-Some : goal.patterns::read_name_pat-returns-in_ok-parts-in-Some
patterns::read_name_pat-returns-in_ok-parts-in-Some t c = name-found _ _ c.in-Some.ensures.binds c.in-Some.ensures.some c.in_ok-parts-in-Some.ensures.left (c.new.ensures ∙ ap pat_tree c.in_ok-parts-in-Some.ensures.is) c.in_ok-parts-in-Some.ensures.found

pub patterns::read_name_pat-returns-in_err-parts-in-Some : goal.patterns::read_name_pat-returns-in_err-parts-in-Some
patterns::read_name_pat-returns-in_err-parts-in-Some t c = failed _ _ _ _ c.from_residual.ensures.1 (out-of-memory c.in_err-parts-in-Some.ensures.fails)
