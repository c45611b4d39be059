-- Parts that are neither offered nor unfolded.
use Rattle.std.proofs.Common.{◌≡◌, ℕ, true, List, refl, subst, All}
use Rattle.calculus.specs.Tree.{par, list, tuple, set, dict, send, receive, new, match, bundle, unary, binary, method, Tree, node}
use Rattle.calculus.specs.Shape.{leaf, label_of}
use Rattle.calculus.specs.Form.{IsClosed}
use Rattle.calculus.specs.Outcome.{Prices, Answer, gives, fails, unknown, Outcome, pure, then_do}
use Rattle.calculus.specs.Rows.{Row}
use Rattle.calculus.specs.Values.{value}
use Rattle.price_table.specs.declared.stop.EvalStop.{EvalStop}
use Rattle.price_table.specs.Outcomes.{Came, Stopped}
use Rattle.rho_term.specs.Normal.{IsNormal}
use Rattle.unfold.specs.Inner.{silent, inner_process, is_silent}
use Rattle.unfold.specs.Progress.{Pending, IsReady, Advances, StopsWith, with_part}
use Rattle.unfold.proofs.Insides.{IsInner, inside-part}
use Rattle.unfold.proofs.Leading.{inner-stops}
use Rattle.unfold.proofs.Turning.{inner-advances}

silent-inner : (t : Tree) → is_silent t ≡ true → IsInner (label_of t)
silent-inner (node (send q) ts) h = cc h
silent-inner (node (receive k) ts) h = cc h
silent-inner (node _ ts) h = tt

-- what comes after a value of which nothing is unfolded
nothing-more : (o : Outcome Tree) (u : Tree) → (silent o).answer ≡ gives u → u ≡ leaf par
nothing-more o u = go o.price o.answer
  where
    go : (n : ℕ) (a : Answer Tree) → (then_do n a (λ v. pure (leaf par))).answer ≡ gives u → u ≡ leaf par
    go n (gives x) e = cc e
    go n (fails k) e = cc e
    go n unknown e = cc e

-- nothing is unfolded inside such a part
silent-nil : (p : Prices) (s : List ℕ) (t u : Tree) → is_silent t ≡ true → (inner_process p s t).answer ≡ gives u → u ≡ leaf par
silent-nil p s (node (send q) ts) u h e = cc h
silent-nil p s (node (receive k) ts) u h e = cc h
silent-nil p s (node (new os) ts) u h e = cc h
silent-nil p s (node match ts) u h e = cc h
silent-nil p s (node (bundle r) ts) u h e = cc h
silent-nil p s (node (unary o) ts) u h e = cc h
silent-nil p s (node (binary o) ts) u h e = cc h
silent-nil p s (node (method n) ts) u h e = cc h
silent-nil p s (node list ts) u h e = nothing-more (value p (node list ts)) u e
silent-nil p s (node tuple ts) u h e = nothing-more (value p (node tuple ts)) u e
silent-nil p s (node set ts) u h e = nothing-more (value p (node set ts)) u e
silent-nil p s (node dict ts) u h e = nothing-more (value p (node dict ts)) u e
silent-nil p s (node _ ts) u h e = cc e

-- what is left once such a part is done
pub silent-advances : (p : Prices) (cap n m : ℕ) (rows : List Row) (rest : List Pending) (s : List ℕ) (t u : Tree) → is_silent t ≡ true → Came cap n m u (inner_process p s t) → All IsReady rest
    → Advances p cap (with_part (record { part = t; seed = s }) (record { price = n; rows = rows; left = rest })) (record { price = m; rows = rows; left = rest })
silent-advances p cap n m rows rest s t u h a r =
    let came = subst (λ v. Came cap n m v (inner_process p s t)) (silent-nil p s t u h a.answer) a in
    let closed : IsClosed (leaf par) = (tt, tt) in
    let normal : IsNormal (leaf par) = (tt, tt) in
    inner-advances p cap n m rows (record { part = t; seed = s }) rest rest (inner_process p s t) (leaf par) (λ again f. inside-part p again s t f (silent-inner t h)) came closed normal refl r

-- such a part stops
pub silent-stops : (p : Prices) (cap n : ℕ) (rows : List Row) (rest : List Pending) (s : List ℕ) (t : Tree) (e : EvalStop) → is_silent t ≡ true → Stopped cap n (inner_process p s t) e
    → StopsWith p cap (with_part (record { part = t; seed = s }) (record { price = n; rows = rows; left = rest })) e
silent-stops p cap n rows rest s t e h k = inner-stops p n rows (record { part = t; seed = s }) rest cap (inner_process p s t) e (λ again f. inside-part p again s t f (silent-inner t h)) k
