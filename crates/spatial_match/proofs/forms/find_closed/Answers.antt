use Rattle.std.proofs.Common.{List, ap, ◌∙◌, subst}
use Rattle.calculus.specs.Matching.{Bindings, one_if}
use Rattle.rho_term.specs.Parts.{part_tree}
use Rattle.match_targets.specs.Found.{IsFirst}
use Rattle.spatial_match.proofs.Compared.{compared-found, compared-ready}
use Rattle.spatial_match.proofs.forms.find_closed.Goals as goal

pub same_closed-requires-clause-form : goal.same_closed-requires-clause-form
same_closed-requires-clause-form c = compared-ready (part_tree c.args.form.now) (c.know_form.ensures c.requires.tries)

pub returns : goal.returns
returns c =
    subst (λ (bs : List Bindings). IsFirst bs c.found_if.result)
    (ap one_if c.in_ok-same.ensures ∙ compared-found (part_tree c.args.form.now) (part_tree c.args.target.now) (c.know_form.ensures c.requires.tries)) c.found_if.ensures
