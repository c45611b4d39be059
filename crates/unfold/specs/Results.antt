-- What the results of unfolding under a cap are.
use Rattle.std.specs.Prelude.{ℕ, List, Result, MatchResult, Vec}
use Rattle.std.specs.declared.alloc.Global.{Global}
use Rattle.calculus.specs.Outcome.{Prices, Capped}
use Rattle.calculus.specs.Tree.{Tree}
use Rattle.calculus.specs.Unfolding.{Product}
use Rattle.price_table.specs.declared.stop.EvalStop.{EvalStop}
use Rattle.price_table.specs.declared.stop.Priced.{Priced}
use Rattle.price_table.specs.Outcomes.{EndsWith}
use Rattle.rho_term.specs.declared.op.Op.{Op}
use Rattle.unfold.specs.Offers.{Comes}
use Rattle.unfold.specs.Progress.{Pending, Advances, StopsWith, with_part, progress}
use Rattle.unfold.specs.declared.turns.Work.{Work}

-- a result is one of which this is said: the offers with their price, or why there are none
abbrev pub Fulfils : Result (Priced (Vec Op Global)) EvalStop → (Capped (List Product) → Type 0) → Type 0
Fulfils result says = MatchResult result (λ p. Comes says p.price p.value.items) (λ e. EndsWith says e)

-- a part that is still to be unfolded, with this seed
abbrev pub pending_part : Tree → List ℕ → Pending
pending_part t s = record { part = t; seed = s }

-- a result tells that this part was unfolded, from the work before to the work after, or why the work stops with it
abbrev pub TakesTurn : {T : Type 0} → Result T EvalStop → Prices → ℕ → Pending → Work → Work → Type 0
TakesTurn result p cap w before after =
    MatchResult result (λ _. Advances p cap (with_part w (progress before)) (progress after)) (λ e. StopsWith p cap (with_part w (progress before)) e)
