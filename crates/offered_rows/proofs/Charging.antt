-- Work at a price before it, and how it stops.
use Rattle.std.proofs.Common.{◌≡◌, ◌<◌, ℕ, ◌+◌, List, refl, sym, ap, ◌∙◌, subst, arith}
use Rattle.std.specs.Prelude.{length, Option, Some, None, Result, Ok, Err}
use Rattle.std.specs.Result.{MatchResult}
use Rattle.calculus.specs.declared.fault.FaultKind.{FaultKind}
use Rattle.calculus.specs.Tree.{Tree}
use Rattle.calculus.specs.Shape.{only}
use Rattle.calculus.specs.Code.{code}
use Rattle.calculus.specs.Outcome.{Answer, free, charged}
use Rattle.calculus.specs.Rows.{row_length}
use Rattle.rho_term.specs.declared.term.Part.{Part}
use Rattle.rho_term.specs.Parts.{part_tree}
use Rattle.term_encoder.specs.Sizes.{in_u64, size}
use Rattle.term_encoder.proofs.Lengths.{size-code}
use Rattle.price_table.specs.declared.stop.EvalStop.{EvalStop}
use Rattle.price_table.specs.declared.stop.EvalStop.TheVariants.{Over}
use Rattle.price_table.specs.Outcomes.{Came, Stopped}
use Rattle.price_table.proofs.Outcomes.{later}
use Rattle.offered_rows.specs.Offers.{IsOffered, row_of}
use Rattle.offered_rows.proofs.Rows.{part-length}

-- the length of a row's code, from that of the process of its part alone
pub row-bytes : (id : List ℕ) (p : Part) (t : Tree) (n m : ℕ) → IsOffered p → t ≡ only (part_tree p) → n ≡ in_u64 (length (code t)) → m ≡ in_u64 (n + 28) → m ≡ in_u64 (row_length (row_of id (part_tree p)))
row-bytes id p t n m h e q r = omega (arith, part-length id p h, size-code t, ap size e, q, r)

-- the price passes the cap
pub over-stops : {A : Type 0} (cap n base m : ℕ) (a : Answer A) (e : EvalStop) → e ≡ Over → cap < n + (base + m) → Stopped cap n (charged (base + m) (free a)) e
over-stops cap n base m a e h l = subst (Stopped cap n (charged (base + m) (free a))) (sym h) (omega arith)

pub with-nothing : (k n base m : ℕ) → k ≡ n + (base + m) → k ≡ n + (base + m + 0)
with-nothing k n base m e = omega arith

-- an answer after its price
pub told : {P A : Type 0} (price : P → ℕ) (val : P → A) (cap n k base m : ℕ) (a b : Answer A) (r : Result P EvalStop) → a ≡ b → k ≡ n + (base + m)
    → MatchResult r (λ q. Came cap k (price q) (val q) (free b)) (λ e. Stopped cap k (free b) e)
    → MatchResult r (λ q. Came cap n (price q) (val q) (charged (base + m) (free a))) (λ e. Stopped cap n (charged (base + m) (free a)) e)
told price val cap n k base m a b (Ok q) e w h = record { answer = e ∙ h.answer; price = omega (arith, w, h.price); fits = h.fits }
told price val cap n k base m a b (Err d) e w h = later cap n k (base + m) (charged (base + m) (free a)) (free b) d (ap (λ x. charged (base + m) (free x)) e) w h

pub no-fault : (f : Option FaultKind) → ((k : FaultKind) → f ≡ Some k → ⊥) → f ≡ None
no-fault None h = refl
no-fault (Some k) h = absurd (h k refl)
