use Rattle.std.proofs.Common.{◌-◌, ℕ, List, ◌∙◌, ap, sym, subst, map}
use Rattle.std.specs.Borrow.{Bor}
use Rattle.calculus.specs.Rows.{Row, row_code}
use Rattle.radix_root.specs.Leaves.{Keeps, groups_of}
use Rattle.checkpoint.specs.Made.{AreMade, no_codes}
use Rattle.checkpoint.proofs.text.root_with.Goals as goal

pub marks_of-requires : goal.marks_of-requires
marks_of-requires g c =
    let code : Bor (List ℕ) → List ℕ = λ s. s.now in
    ap (map code) c.as_slice.ensures.value ∙ c.in_ok-slices.ensures ∙ c.requires ∙ ap (λ (rs : List Row). map row_code rs) (sym c.as_slice-all.ensures.value)

pub counted_tree-requires-clause-codes : goal.counted_tree-requires-clause-codes
counted_tree-requires-clause-codes g c = c.in_ok-slices.ensures ∙ c.requires ∙ ap (λ (rs : List Row). map row_code rs) (sym c.as_slice-all.ensures.value)

pub returns-clause-made : goal.returns-clause-made
returns-clause-made g c = subst (λ (rs : List Row). AreMade no_codes (groups_of rs) (c.counted_tree.new.steps - c.args.steps.now)) c.as_slice-all.ensures.value c.in_ok-tree.ensures.made

pub returns-clause-root : goal.returns-clause-root
returns-clause-root g c = c.root.ensures c.args.rows.items (subst (λ (rs : List Row). Keeps c.in_ok-tree.tree (groups_of rs)) c.as_slice-all.ensures.value c.in_ok-tree.ensures.tree)
