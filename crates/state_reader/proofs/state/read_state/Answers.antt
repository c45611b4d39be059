use Rattle.std.proofs.Common.{◌≡◌, List, map, true, false, sym, ap, ◌∙◌, subst}
use Rattle.calculus.specs.Rows.{Row, row_code}
use Rattle.radix_root.specs.Leaves.{Keeps, groups_of}
use Rattle.events.specs.States.{state_text}
use Rattle.events.proofs.Groups.{same, equal}
use Rattle.state_reader.proofs.Laid.{laid-text, least-some, order-refused}
use Rattle.state_reader.proofs.state.read_state.Goals as goal

pub returns-in-Err-clause-refused : goal.returns-in-Err-clause-refused
returns-in-Err-clause-refused c = order-refused c.args.bytes.now c.in-Err.fault c.in-Err.ensures.tells c.in-Err.ensures.short c.in-Err.ensures.wrong

pub returns-then-not-are_equal-clause-refused : goal.returns-then-not-are_equal-clause-refused
returns-then-not-are_equal-clause-refused c = record {
  rows = c.in-Ok.read.0.items;
  begins = c.in-Ok.ensures.is;
  is = c.root-found.ensures c.in-Ok.read.0.items (subst (λ (rs : List Row). Keeps c.in_ok-tree.tree (groups_of rs)) c.as_slice.ensures.value c.in_ok-tree.ensures.tree);
  differs = λ e. apart (sym (equal _ _ (sym e)) ∙ sym c.are_equal.ensures ∙ c.if-not-are_equal.true);
}
  where
    apart : true ≡ false → ⊥
    apart e = cc

pub returns-in-Some-clause-refused : goal.returns-in-Some-clause-refused
returns-in-Some-clause-refused c =
    let root = c.root-found.ensures c.in-Ok.read.0.items (subst (λ (rs : List Row). Keeps c.in_ok-tree.tree (groups_of rs)) c.as_slice.ensures.value c.in_ok-tree.ensures.tree) in
    let found = same _ _ (sym c.are_equal.ensures ∙ c.if-not-are_equal.false) in
    record {
      rows = c.in-Ok.read.0.items;
      is = laid-text c.args.bytes.now c.in-Ok.read.2.0 c.in-Ok.read.0.items c.in-Ok.ensures.is (sym found ∙ root);
      order = c.in-Ok.ensures.is.order;
      step = least-some c.in-Ok.read.0.items c.as_slice-2.result.now c.in_ok-step.field-0 c.in-Some.step c.as_slice-2.ensures.value c.in-Some.is c.in_ok-step.ensures;
    }

pub returns-in-None-clause-read : goal.returns-in-None-clause-read
returns-in-None-clause-read c =
    let root = c.root-found.ensures c.in-Ok.read.0.items (subst (λ (rs : List Row). Keeps c.in_ok-tree.tree (groups_of rs)) c.as_slice.ensures.value c.in_ok-tree.ensures.tree) in
    let found = same _ _ (sym c.are_equal.ensures ∙ c.if-not-are_equal.false) in
    laid-text c.args.bytes.now c.in-Ok.read.2.0 c.in-Ok.read.0.items c.in-Ok.ensures.is (sym found ∙ root) ∙ ap (λ (rs : List Row). state_text rs) (sym c.with_tree.ensures)

pub coded_tree-requires : goal.coded_tree-requires
coded_tree-requires c = c.in-Ok.ensures.codes ∙ ap (λ (rs : List Row). map row_code rs) (sym c.as_slice.ensures.value)
