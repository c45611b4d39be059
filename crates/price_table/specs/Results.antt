-- What a result of work within a budget says.
use Rattle.std.specs.Prelude.{List, Result, MatchResult, Vec}
use Rattle.std.specs.declared.alloc.Global.{Global}
use Rattle.calculus.specs.Outcome.{Outcome}
use Rattle.price_table.specs.declared.budget.Budget.{Budget}
use Rattle.price_table.specs.declared.stop.EvalStop.{EvalStop}
use Rattle.price_table.specs.declared.stop.Priced.{Priced}
use Rattle.price_table.specs.Outcomes.{Came, Stopped}

-- a result is that of work of this outcome within this budget: what it gives and the price then, or why it stopped
abbrev pub ComesTo : {A : Type 0} → Result (Priced A) EvalStop → Budget → Outcome A → Type 0
ComesTo result b o = MatchResult result (λ p. Came b.cap b.price p.price p.value o) (λ e. Stopped b.cap b.price o e)

-- the same of work that gives several values
abbrev pub ComesToAll : {A : Type 0} → Result (Priced (Vec A Global)) EvalStop → Budget → Outcome (List A) → Type 0
ComesToAll result b o = MatchResult result (λ p. Came b.cap b.price p.price p.value.items o) (λ e. Stopped b.cap b.price o e)
