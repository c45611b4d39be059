-- Operators and methods: the price goes on from where the operands left it, and then the answer is tested.
use Rattle.std.proofs.Common.{◌≡◌, ◌≤◌, ◌<◌, ◌⊎◌, ℕ, ◌+◌, ◌*◌, ◌-◌, ◌^◌, min, List, [], ◌∷◌, length, sum_by, refl, sym, ap, ◌∙◌, subst, arith}
use Rattle.std.specs.Prelude.{Result, Ok, Err, Vec}
use Rattle.std.specs.declared.alloc.Global.{Global}
use Rattle.std.specs.Result.{MatchResult}
use Rattle.calculus.specs.Tree.{Tree}
use Rattle.calculus.specs.Shape.{many}
use Rattle.calculus.specs.Code.{code}
use Rattle.calculus.specs.Outcome.{Prices, Outcome, Answer, free, charged}
use Rattle.calculus.specs.Values.{checked, op_price, operated}
use Rattle.calculus.specs.Operators.{seen, seen_part}
use Rattle.rho_term.specs.declared.term.Part.{Part}
use Rattle.rho_term.specs.Parts.{part_tree, term_tree}
use Rattle.value_ops.specs.Answers.{IsNoCollection}
use Rattle.price_table.specs.declared.stop.EvalStop.{EvalStop}
use Rattle.price_table.specs.Outcomes.{Came, Stopped}
use Rattle.price_table.proofs.Outcomes.{later}

-- the length of the code of one operand
abbrev pub bytes_in : Tree → ℕ
bytes_in v = length (code v)

-- what an answer at a price comes to after that price
pub told : {P : Type 0} (price : P → ℕ) (val : P → Tree) (p : Prices) (cap n k : ℕ) (vs : List Tree) (a : Answer Tree) (r : Result P EvalStop) → k ≡ n + op_price p vs
    → MatchResult r (λ q. Came cap k (price q) (val q) (free (checked a))) (λ e. Stopped cap k (free (checked a)) e)
    → MatchResult r (λ q. Came cap n (price q) (val q) (operated p vs a)) (λ e. Stopped cap n (operated p vs a) e)
told price val p cap n k vs a (Ok q) e h = record { answer = h.answer; price = omega (arith, e, h.price); fits = h.fits }
told price val p cap n k vs a (Err d) e h = later cap n k (op_price p vs) (operated p vs a) (free (checked a)) d refl e h

pub no-collection : (ps : List Part) → (length ps ≡ 1 → ⊥) → IsNoCollection (seen (term_tree ps))
no-collection [] h = tt
no-collection (p ∷ []) h = absurd (h refl)
no-collection (p ∷ q ∷ ps) h = tt
