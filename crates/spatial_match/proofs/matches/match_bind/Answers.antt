use Rattle.std.proofs.Common.{List, sym, ap, ◌∙◌, subst}
use Rattle.std.specs.Prelude.{IfOk}
use Rattle.calculus.specs.Tree.{Tree}
use Rattle.calculus.specs.Operators.{of_list}
use Rattle.calculus.specs.Matching.{Bindings, bind_matches, first_items_match}
use Rattle.spatial_match.specs.Given.{AllTries}
use Rattle.match_targets.specs.Found.{IsFirst}
use Rattle.spatial_match.specs.Found.{tried_pats}
use Rattle.spatial_match.proofs.Closing.{bind_tries}
use Rattle.spatial_match.proofs.Rows.{wholes-row}
use Rattle.spatial_match.proofs.matches.match_bind.Goals as goal

pub find_items-requires-clause-tries : goal.find_items-requires-clause-tries
find_items-requires-clause-tries c =
    let b = c.args.bind.now in
    subst AllTries (sym c.deref.ensures.value) (bind_tries b.channel b.pats.items b.rest c.requires.bind c.requires.short_bind)

pub returns : goal.returns
unfolding bind_matches
returns c =
    let b = c.args.bind.now in
    let e = ap (λ (ps : List Tree). first_items_match (tried_pats ps) b.rest of_list c.args.args.now) c.deref.ensures.value
    ∙ ap (λ ms. first_items_match ms b.rest of_list c.args.args.now) (sym (wholes-row b.pats.items)) in
    subst (λ (bs : List Bindings). IfOk c.find_items.result (λ o. IsFirst bs o)) e c.find_items.ensures
