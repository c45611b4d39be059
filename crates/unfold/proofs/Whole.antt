-- What a whole process, and a body under bindings, come to.
use Rattle.std.proofs.Common.{◌≡◌, ◌≤◌, ◌<◌, ℕ, suc, Bool, true, false, cond, length, List, [], map as each, refl, sym, ap, ◌∙◌, subst, arith}
use Rattle.std.specs.Prelude.{ltb, Option, Some, option_map, Result, Ok, Err}
use Rattle.std.specs.Result.{MatchResult}
use Rattle.std.proofs.lemmas.Bool.Decides.{nat_tests}
use Rattle.calculus.specs.declared.fault.FaultKind.{FaultKind}
use Rattle.calculus.specs.declared.fault.FaultKind.TheVariants as fault
use Rattle.calculus.specs.Tree.{Tree}
use Rattle.calculus.specs.Size.{height}
use Rattle.calculus.specs.Code.{code}
use Rattle.calculus.specs.Form.{IsClosed}
use Rattle.calculus.specs.Substitution.{put}
use Rattle.calculus.specs.Outcome.{Prices, Answer, gives, fails, unknown, Outcome, free, after, pure, within_limits, Capped, over, within, known, capped}
use Rattle.calculus.specs.Rows.{Row}
use Rattle.calculus.specs.Unfolding.{Product, rows_of, Unfolds, unfold_in, unfold_within, UnfoldsUnder}
use Rattle.price_table.specs.declared.stop.EvalStop.{EvalStop}
use Rattle.price_table.specs.declared.stop.EvalStop.TheVariants.{Fault, Over, NoMemory}
use Rattle.price_table.specs.Outcomes.{Came, Stopped, EndsWith}
use Rattle.rho_term.specs.declared.op.Op.{Op}
use Rattle.rho_term.specs.Normal.{IsNormal}
use Rattle.rho_term.specs.Rows.{row_of_op}
use Rattle.unfold.specs.Offers.{Comes}
use Rattle.unfold.specs.Progress.{Pending, pending, rows_answer, row_work, left_work, Progress, whole_work, StopsWith, Ends}
use Rattle.unfold.proofs.Working.{charged-none, after-pure}
use Rattle.unfold.proofs.Leading.{unfold-left}

as-record : (o : Outcome (List Product)) (m : ℕ) (a : Answer (List Product)) → o.price ≡ m → o.answer ≡ a → o ≡ record { price = m; answer = a }
as-record o m a p q = ap (λ n. record { price = n; answer = o.answer }) p ∙ ap (λ b. record { price = m; answer = b }) q

not-above : (cap m : ℕ) → m ≤ cap → ltb cap m ≡ false
not-above cap m h = grind (arith, nat_tests)

is-above : (cap m : ℕ) → cap < m → ltb cap m ≡ true
is-above cap m h = grind (arith, nat_tests)

below-cap : (cap m : ℕ) (x : Option (Capped (List Product))) → m ≤ cap → cond (ltb cap m) (Some over) x ≡ x
below-cap cap m x h = ap (λ b. cond b (Some over) x) (not-above cap m h)

capped-gives : (cap m : ℕ) (o : Outcome (List Product)) (ts : List Product) → o.answer ≡ gives ts → o.price ≡ m → m ≤ cap → capped cap o ≡ Some (within (record { price = m; answer = gives ts }))
capped-gives cap m o ts a p h = ap (capped cap) (as-record o m (gives ts) p a) ∙ below-cap cap m (Some (within (record { price = m; answer = gives ts }))) h

capped-fails : (cap m : ℕ) (o : Outcome (List Product)) (k : FaultKind) → o.answer ≡ fails k → o.price ≡ m → m ≤ cap → capped cap o ≡ Some (within (record { price = m; answer = fails k }))
capped-fails cap m o k a p h = ap (capped cap) (as-record o m (fails k) p a) ∙ below-cap cap m (Some (within (record { price = m; answer = fails k }))) h

capped-over : (cap : ℕ) (o : Outcome (List Product)) → cap < o.price → capped cap o ≡ Some over
capped-over cap o h = ap (λ b. cond b (Some over) (option_map within (known o.answer o))) (is-above cap o.price h)

-- an answer whose rows are known
rows-given : (a : Answer (List Product)) (rs : List Row) → rows_answer a ≡ gives rs → (ts : List Product) × (a ≡ gives ts) × (rows_of ts ≡ rs)
rows-given (gives ts) rs e = (ts, refl, cc)
rows-given (fails k) rs e = cc
rows-given unknown rs e = cc

rows-failed : (a : Answer (List Product)) (k : FaultKind) → rows_answer a ≡ fails k → a ≡ fails k
rows-failed (gives ts) k e = cc
rows-failed (fails f) k e = cc
rows-failed unknown k e = cc

module _ (p : Prices) (cap : ℕ) (s : List ℕ) (t : Tree) (closed : IsClosed t) (normal : IsNormal t) where
  -- before the first turn
  abbrev pub start : List Pending → Progress
  start ws = record { price = 0; rows = []; left = ws }

  started : (room : ℕ) (ws : List Pending) → ws ≡ pending t s → whole_work p room (start ws) ≡ row_work (unfold_in p (suc room) t s)
  started room ws e =
      charged-none (after (left_work p room ws) (λ rs. pure rs))
      ∙ (after-pure (left_work p room ws) ∙ (ap (left_work p room) e ∙ sym (unfold-left p room t s closed normal)))

  pub whole-comes : (ws : List Pending) (m : ℕ) (xs : List Op) → ws ≡ pending t s → Ends p cap (start ws) m (each row_of_op xs) → Comes (Unfolds p cap t s) m xs
  whole-comes ws m xs e h =
      let o = unfold_in p (suc h.room) t s in
      let q = sym (started h.room ws e) ∙ h.work in
      let g = rows-given o.answer (each row_of_op xs) (ap (λ (u : Outcome (List Row)). u.answer) q) in
      record { things = g.0; work = (suc h.room, capped-gives cap m o g.0 g.1 (ap (λ (u : Outcome (List Row)). u.price) q) h.fits); rows = sym g.2 }

  pub whole-ends : (ws : List Pending) (e : EvalStop) → ws ≡ pending t s → StopsWith p cap (start ws) e → EndsWith (Unfolds p cap t s) e
  whole-ends ws e w h = go e (subst (λ (u : Outcome (List Row)). Stopped cap 0 u e) (started h.0 ws w) h.1)
    where
      go : (e : EvalStop) → Stopped cap 0 (row_work (unfold_in p (suc h.0) t s)) e → EndsWith (Unfolds p cap t s) e
      go (Fault k m) z = (suc h.0, capped-fails cap m (unfold_in p (suc h.0) t s) k (rows-failed (unfold_in p (suc h.0) t s).answer k z.0) (omega (arith, z.1)) z.2)
      go Over z = (suc h.0, capped-over cap (unfold_in p (suc h.0) t s) (omega (arith, z)))
      go NoMemory z = tt

  -- what came of all that was left
  pub whole-told : {X : Type 0} (price : X → ℕ) (offers : X → List Op) (xs : List Op) (ws : List Pending) (r : Result X EvalStop) → xs ≡ [] → ws ≡ pending t s
      → MatchResult r (λ q. Ends p cap (record { price = 0; rows = each row_of_op xs; left = ws }) (price q) (each row_of_op (offers q))) (λ e. StopsWith p cap (record { price = 0; rows = each row_of_op xs; left = ws }) e)
      → MatchResult r (λ q. Comes (Unfolds p cap t s) (price q) (offers q)) (λ e. EndsWith (Unfolds p cap t s) e)
  whole-told price offers xs ws (Ok q) e w h = whole-comes ws (price q) (offers q) w (subst (λ ys. Ends p cap (record { price = 0; rows = each row_of_op ys; left = ws }) (price q) (each row_of_op (offers q))) e h)
  whole-told price offers xs ws (Err d) e w h = whole-ends ws d w (subst (λ ys. StopsWith p cap (record { price = 0; rows = each row_of_op ys; left = ws }) d) e h)

-- a process within the limits
pub within-itself : (u t : Tree) → within_limits u ≡ gives t → u ≡ t
within-itself u t e = go (ltb 400 (height u)) (ltb 1048576 (length (code u))) e
  where
    go : (a b : Bool) → cond a (fails fault.TooDeep) (cond b (fails fault.TooBig) (gives u)) ≡ gives t → u ≡ t
    go true b q = cc
    go false true q = cc
    go false false q = cc

module _ (p : Prices) (cap : ℕ) (s : List ℕ) (vs : List Tree) (body : Tree) where
  within-gives : (a : Answer Tree) (t : Tree) → a ≡ gives t → (room : ℕ) → unfold_within (unfold_in p room) s a ≡ unfold_in p room t s
  within-gives a t e room = ap (unfold_within (unfold_in p room) s) e

  -- a body with its values, within the limits
  under : (n m : ℕ) (t : Tree) → Came cap n m t (free (within_limits (put vs body))) → (w : Capped (List Product)) → Unfolds p cap t s w → UnfoldsUnder p cap vs body s w
  under n m t a w u = (u.0, ap (capped cap) (within-gives (within_limits (put vs body)) t a.answer u.0) ∙ u.1)

  pub body-comes : (n m : ℕ) (t : Tree) → Came cap n m t (free (within_limits (put vs body))) → (k : ℕ) (xs : List Op) → Comes (Unfolds p cap t s) k xs → Comes (UnfoldsUnder p cap vs body s) k xs
  body-comes n m t a k xs c = record { things = c.things; work = under n m t a _ c.work; rows = c.rows }

  pub body-ends : (n m : ℕ) (t : Tree) → Came cap n m t (free (within_limits (put vs body))) → (e : EvalStop) → EndsWith (Unfolds p cap t s) e → EndsWith (UnfoldsUnder p cap vs body s) e
  body-ends n m t a (Fault k j) h = under n m t a _ h
  body-ends n m t a Over h = under n m t a _ h
  body-ends n m t a NoMemory h = h

  -- beyond them
  pub body-stops : (e : EvalStop) → Stopped cap 0 (free (within_limits (put vs body))) e → EndsWith (UnfoldsUnder p cap vs body s) e
  body-stops (Fault k m) h =
      (0, ap (λ a. capped cap (unfold_within (unfold_in p 0) s a)) h.0 ∙ capped-fails cap m (free (fails k)) k refl (omega (arith, h.1)) h.2)
  body-stops Over h = absurd (omega (arith, h))
  body-stops NoMemory h = tt

  -- and what is within them is closed
  pub closed-within : (n m : ℕ) (t : Tree) → Came cap n m t (free (within_limits (put vs body))) → IsClosed (put vs body) → IsClosed t
  closed-within n m t a c = subst IsClosed (within-itself (put vs body) t a.answer) c
