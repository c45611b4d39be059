-- What a send and a receive come to, and what the offers of the program stand for.
use Rattle.std.specs.Prelude.{◌≡◌, ℕ, Bool, List, map as each}
use Rattle.calculus.specs.declared.plain.Kind.{Kind}
use Rattle.calculus.specs.Tree.{Tree}
use Rattle.calculus.specs.Shape.{held, at}
use Rattle.calculus.specs.Outcome.{Prices, Outcome, gives, Capped, within, after, in_order}
use Rattle.calculus.specs.Values.{value}
use Rattle.calculus.specs.Unfolding.{Product, rows_of, opened, send_offered, receive_offered}
use Rattle.rho_term.specs.declared.op.Op.{Op}
use Rattle.rho_term.specs.Rows.{row_of_op}

-- a send on this channel with these arguments, and with this seed: all are evaluated, and then it is offered
abbrev pub send_work : Prices → List ℕ → Bool → Tree → List Tree → Outcome (List Product)
send_work p t q c xs = after (value p c) (λ v. after (in_order (each (value p) xs)) (λ vs. send_offered p t q (opened v) vs))

-- a receive with these binds and this body, and with this seed: the channels are evaluated, and then it is offered
abbrev pub receive_work : Prices → List ℕ → Kind → List Tree → Tree → Outcome (List Product)
receive_work p t k bs body = after (in_order (each (λ b. value p (at 0 (held b))) bs)) (λ vs. receive_offered p t k (each opened vs) bs body)

-- offers at this price are those of work that comes to a result, of which this is said
pub record Comes (says : Capped (List Product) → Type 0) (price : ℕ) (offers : List Op) : Type 0 where
  pub things : List Product
  pub work : says (within (record { price = price; answer = gives things }))
  pub rows : each row_of_op offers ≡ rows_of things
