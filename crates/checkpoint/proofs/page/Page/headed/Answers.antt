use Rattle.std.proofs.Common.{◌++◌, ◌∷◌, [], List, ℕ, ◌∙◌, ap}
use Rattle.std.specs.Prelude.{codes}
use Rattle.checkpoint.proofs.page.Page.headed.Goals as goal

pub returns : goal.returns
returns c = λ f.
    let number = c.add-4.ensures f in
    let root = c.add-3.ensures number.0 in
    let version = c.add-2.ensures root.0 in
    let name = c.add.ensures version.0 in
    number.1
    ∙ ap (λ (l : List ℕ). l ++ c.eight_bytes.result) (root.1 ∙ ap (λ (l : List ℕ). l ++ c.args.root.now.0) (version.1 ∙ ap (λ (l : List ℕ). l ++ 1 ∷ []) (name.1 ∙ ap (λ (l : List ℕ). l ++ codes "RHOSTATE") c.new.ensures.items)))
    ∙ ap (λ (l : List ℕ). codes "RHOSTATE" ++ (1 ∷ (c.args.root.now.0 ++ l))) c.eight_bytes.ensures
