-- What an unfolding came to, from its result.
use Rattle.std.proofs.Common.{◌≡◌, ◌≤◌, ℕ, Bool, true, false, cond, List, [], ◌∷◌, map as each, refl, sym, ◌∙◌, subst, arith, All}
use Rattle.std.specs.Prelude.{⊤, ltb, Some, None, option_map, Result, Ok, Err, IfOk, MatchResult}
use Rattle.std.proofs.lemmas.Bool.Decides.{nat_tests}
use Rattle.std.proofs.lemmas.List.Elements.{All-nil, All-cons, All-head, All-tail}
use Rattle.calculus.specs.Outcome.{Prices, Answer, gives, fails, unknown, Outcome, Capped, over, within, known, capped}
use Rattle.calculus.specs.Unfolding.{Product, rows_of, UnfoldsUnder}
use Rattle.calculus.specs.Tree.{Tree}
use Rattle.calculus.specs.Runs.{Work, work_products}
use Rattle.rho_term.specs.declared.op.Op.{Op}
use Rattle.price_table.specs.declared.stop.EvalStop.{EvalStop}
use Rattle.price_table.specs.declared.stop.Priced.{Priced}
use Rattle.price_table.specs.declared.stop.EvalStop.TheVariants.{Fault, Over, NoMemory}
use Rattle.price_table.specs.Outcomes.{EndsWith}
use Rattle.unfold.specs.Offers.{Comes}
use Rattle.calculus.specs.Storing.{IsStorable}
use Rattle.rho_term.specs.Rows.{row_of_op}
use Rattle.unfold.specs.declared.work.Worked.{Worked}
use Rattle.unfold.specs.Works.{HasStopped, IsWork}
use Rattle.std.specs.declared.alloc.Global.{Global}
use Rattle.std.specs.declared.alloc.AllocError.{AllocError}
use Rattle.std.specs.declared.vec.Vec.{Vec}
use Rattle.std.proofs.lemmas.Result.{IfOk-weaker}

over-is-not-within : (q : Outcome (List Product)) → Some over ≡ Some (within q) → ⊥
over-is-not-within q e = cc

nothing-is-not-some : (w : Capped (List Product)) → None ≡ Some w → ⊥
nothing-is-not-some w e = cc

same-outcome : (o q : Outcome (List Product)) → Some (within o) ≡ Some (within q) → o ≡ q
same-outcome o q e = cc

not-above : (cap n : ℕ) → ltb cap n ≡ false → n ≤ cap
not-above cap n e = grind (arith, nat_tests)

-- work that comes to an outcome under the cap costs at most the cap
pub within-cap : (cap : ℕ) (o q : Outcome (List Product)) → capped cap o ≡ Some (within q) → q.price ≤ cap
within-cap cap o q e = go (ltb cap o.price) refl o.answer e
  where
    kept : ltb cap o.price ≡ false → Some (within o) ≡ Some (within q) → q.price ≤ cap
    kept h f = subst (λ (r : Outcome (List Product)). r.price ≤ cap) (same-outcome o q f) (not-above cap o.price h)

    go : (b : Bool) → ltb cap o.price ≡ b → (a : Answer (List Product)) → cond b (Some over) (option_map within (known a o)) ≡ Some (within q) → q.price ≤ cap
    go true h a f = absurd (over-is-not-within q f)
    go false h (gives ts) f = kept h f
    go false h (fails k) f = kept h f
    go false h unknown f = absurd (nothing-is-not-some (within q) f)

-- operations whose rows may be stored
pub all-storable : (os : List Op) → All IsStorable (each row_of_op os) → All (λ o. IsStorable (row_of_op o)) os
all-storable [] b = All-nil (λ o. IsStorable (row_of_op o))
all-storable (o ∷ os) b = All-cons (λ o. IsStorable (row_of_op o)) o os (All-head IsStorable (row_of_op o) (each row_of_op os) b) (all-storable os (All-tail IsStorable (row_of_op o) (each row_of_op os) b))

-- what comes may be stored
pub may-be-stored : (says : Work → Type 0) → ((w : Work) → says w → All IsStorable (rows_of (work_products w))) → (unfolded : Result (Priced (Vec Op Global)) EvalStop)
    → MatchResult unfolded (λ p. Comes says p.price p.value.items) (λ stop. EndsWith says stop) → MatchResult unfolded (λ p. All (λ o. IsStorable (row_of_op o)) p.value.items) (λ x. ⊤)
may-be-stored says h (Ok p) c = all-storable p.value.items (subst (All IsStorable) (sym c.rows) (h (within (record { price = p.price; answer = gives c.things })) c.work))
may-be-stored says h (Err stop) c = tt

-- what is said of work that costs at most the cap
module _ (says : Work → Type 0) (cap : ℕ) (fits : (o : Outcome (List Product)) → says (within o) → o.price ≤ cap) where
  pub came : (n : ℕ) (offers : List Op) → Comes says n offers → (w : Worked) → (w.price ≡ n) × (w.offers.items ≡ each row_of_op offers) × (w.fault ≡ None) → IsWork says cap w
  came n offers c w e =
      let priced : n ≤ cap = fits (record { price = n; answer = gives c.things }) c.work in
      let same : w.offers.items ≡ rows_of c.things = e.1 ∙ c.rows in
      record {
        work = within (record { price = n; answer = gives c.things });
        said = c.work;
        price_is = sym e.0;
        fault_is = sym e.2;
        rows = same;
        most = omega (arith, e.0, priced);
      }

  pub stopped : (stop : EvalStop) → EndsWith says stop → (w : Worked) → HasStopped cap stop w → IsWork says cap w
  stopped (Fault kind n) s w e =
      let priced : n ≤ cap = fits (record { price = n; answer = fails kind }) s in
      record { work = within (record { price = n; answer = fails kind }); said = s; price_is = sym e.0; fault_is = sym e.2; rows = e.1; most = omega (arith, e.0, priced) }
  stopped Over s w e = record { work = over; said = s; price_is = sym e.0; fault_is = sym e.2; rows = e.1; most = omega (arith, e.0) }
  stopped NoMemory s w e = absurd e

  -- the result of an unfolding and what was made of it
  pub worked : (unfolded : Result (Priced (Vec Op Global)) EvalStop) (result : Result Worked AllocError)
      → MatchResult unfolded (λ p. Comes says p.price p.value.items) (λ stop. EndsWith says stop)
      → MatchResult unfolded (λ p. IfOk result (λ w. (w.price ≡ p.price) × (w.offers.items ≡ each row_of_op p.value.items) × (w.fault ≡ None))) (λ stop. IfOk result (HasStopped cap stop))
      → IfOk result (IsWork says cap)
  worked (Ok p) result c s = IfOk-weaker result _ _ (λ w e. came p.price p.value.items c w e) s
  worked (Err stop) result c s = IfOk-weaker result _ _ (λ w e. stopped stop c w e) s

-- the same work, told in other words
pub same-work : (p : Prices) (cap : ℕ) (vs us : List Tree) (t : Tree) (s r : List ℕ) (w : Worked) → vs ≡ us → s ≡ r → IsWork (UnfoldsUnder p cap vs t s) cap w → IsWork (UnfoldsUnder p cap us t r) cap w
same-work p cap vs us t s r w e f h = subst (λ xs. IsWork (UnfoldsUnder p cap xs t r) cap w) e (subst (λ z. IsWork (UnfoldsUnder p cap vs t z) cap w) f h)
