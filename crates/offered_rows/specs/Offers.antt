-- Parts that are offered, and what is found of one before its limits are tested.
use Rattle.std.specs.Prelude.{◌≡◌, ℕ, List, [], ◌∷◌, map, ⊤, Option, Some, None, Result, MatchResult}
use Rattle.calculus.specs.declared.fault.FaultKind.{FaultKind}
use Rattle.calculus.specs.declared.plain.Rights.{Rights}
use Rattle.calculus.specs.Tree.{par, row, bundle, receive, Tree, node, none, also}
use Rattle.calculus.specs.Shape.{one, two, many, only}
use Rattle.calculus.specs.Outcome.{Answer, fails, Outcome}
use Rattle.calculus.specs.Rows.{Row}
use Rattle.calculus.specs.Unfolding.{Product, Channel, a_row, row_limits}
use Rattle.price_table.specs.declared.budget.Budget.{Budget}
use Rattle.price_table.specs.declared.stop.EvalStop.{EvalStop}
use Rattle.price_table.specs.declared.stop.Priced.{Priced}
use Rattle.price_table.specs.Outcomes.{Came, Stopped}
use Rattle.rho_term.specs.declared.op.Op.{Op}
use Rattle.rho_term.specs.declared.term.Part.{Part}
use Rattle.rho_term.specs.declared.term.Part.TheVariants as part
use Rattle.rho_term.specs.Parts.{part_tree, bind_tree}
use Rattle.rho_term.specs.Rows.{row_of_op}
use Rattle.offered_rows.specs.declared.opened.Opened.{Opened}
use Rattle.offered_rows.specs.declared.receive.Receive.{Receive}

-- a part that is offered: a send or a receive
abbrev pub IsOffered : Part → Type 0
IsOffered (part.Send c xs q) = ⊤
IsOffered (part.Receive k bs body) = ⊤
IsOffered _ = ⊥

-- a process that is such a part alone
abbrev pub IsOneOffered : Tree → Type 0
IsOneOffered t = (p : Part) × IsOffered p × (t ≡ only (part_tree p))

-- the row of this part
abbrev pub row_of : List ℕ → Tree → Row
row_of id t = record { id = id; part = t }

-- a row's answer: the fault that was found before, or else what its limits say
abbrev pub tested : Option FaultKind → Row → Answer (List Product)
tested None r = row_limits r
tested (Some k) r = fails k

-- a receive, as the part that it is
abbrev pub receive_tree : Receive → Tree
receive_tree r = two (receive r.kind) (many row (map bind_tree r.binds.now.items)) r.body.now

-- a result is that of work of this outcome that offers one row within this budget
abbrev pub ComesToRow : Result (Priced Op) EvalStop → Budget → Outcome (List Product) → Type 0
ComesToRow result b o = MatchResult result (λ p. Came b.cap b.price p.price (a_row (row_of_op p.value) ∷ []) o) (λ e. Stopped b.cap b.price o e)

-- what was opened, as a channel
abbrev pub channel_of : Opened → Channel
channel_of o = record { name = o.name; writable = o.writable; readable = o.readable }

-- the rights of a process that is one bundle
abbrev pub bundle_rights : Tree → Option Rights
bundle_rights (node par (also (node (bundle r) (also t none)) none)) = Some r
bundle_rights t = None

-- a process that is one bundle
abbrev pub IsBundle : Tree → Type 0
IsBundle t = (r : Rights) × (u : Tree) × (t ≡ only (one (bundle r) u))
