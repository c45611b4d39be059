-- Names put in place of variables leave a code short: a use of a variable is reckoned as long as a name.
use Rattle.std.proofs.Common.{◌≡◌, ℕ, zero, suc, ◌+◌, ◌-◌, ◌*◌, ◌<◌, ◌≤◌, ◌^◌, Bool, true, false, cond, List, [], ◌∷◌, length, reverse, refl, ap, ◌∙◌, arith, length-append}
use Rattle.std.specs.Prelude.{leb}
use Rattle.calculus.proofs.Members.{Every, every-reverse}
use Rattle.calculus.specs.declared.plain.Origin.{Origin}
use Rattle.calculus.specs.declared.plain.Origin.TheVariants as origins
use Rattle.calculus.specs.Tree.{Label, par, row, list, tuple, set, dict, pattern, var, name_var, fresh, Tree, node, Trees, none, also, trees}
use Rattle.calculus.specs.Shape.{leaf, count, held, at, listed, only}
use Rattle.calculus.specs.Bytes.{joined}
use Rattle.calculus.specs.Code.{head, code, codes}
use Rattle.calculus.specs.CodeLaws.{IsShort}
use Rattle.calculus.specs.Variables.{binders}
use Rattle.calculus.specs.Normal.{ascending}
use Rattle.calculus.specs.Substitution.{Change, changed, change, change_all, the_one, put}
use Rattle.calculus.specs.Form.{term, IsDigest, Scope, Fits}
use Rattle.calculus.specs.Unfolding.{write_only, names_made}
use Rattle.calculus.proofs.Formed.{length-code}
use Rattle.calculus.proofs.Tails.{length-be32}
use Rattle.calculus.proofs.Placing.{trees-listed}
use Rattle.calculus.proofs.Digests.{digest-fits}
use Rattle.process_laws.proofs.Tallies.{total, total-ascending, total-joined}

-- what a form's own bytes are reckoned at
abbrev pub lead : Label → ℕ
lead (var i) = 45
lead (name_var i) = 45
lead l = length (head l 0)

abbrev mutual
  pub cost : Tree → ℕ
  cost (node l ts) = lead l + costs ts

  pub costs : Trees → ℕ
  costs none = 0
  costs (also t ts) = cost t + costs ts

costs-total : (ts : Trees) → costs ts ≡ total cost ts
costs-total none = refl
costs-total (also t ts) = ap (λ n. cost t + n) (costs-total ts)

-- a form's own bytes are no more than that, and at least a ninth of it
head-lead : (l : Label) (n : ℕ) → length (head l n) ≤ lead l
head-lead par n = omega (arith, length-be32 n, length-be32 0)
head-lead row n = omega (arith, length-be32 n, length-be32 0)
head-lead list n = omega (arith, length-be32 n, length-be32 0)
head-lead tuple n = omega (arith, length-be32 n, length-be32 0)
head-lead set n = omega (arith, length-be32 n, length-be32 0)
head-lead dict n = omega (arith, length-be32 n, length-be32 0)
head-lead pattern n = omega (arith, length-be32 n, length-be32 0)
head-lead (var i) n = omega (arith, length-be32 i)
head-lead (name_var i) n = omega (arith, length-be32 i)
head-lead l n = omega arith

lead-head : (l : Label) (n : ℕ) → lead l ≤ 9 * length (head l n)
lead-head par n = omega (arith, length-be32 n, length-be32 0)
lead-head row n = omega (arith, length-be32 n, length-be32 0)
lead-head list n = omega (arith, length-be32 n, length-be32 0)
lead-head tuple n = omega (arith, length-be32 n, length-be32 0)
lead-head set n = omega (arith, length-be32 n, length-be32 0)
lead-head dict n = omega (arith, length-be32 n, length-be32 0)
lead-head pattern n = omega (arith, length-be32 n, length-be32 0)
lead-head (var i) n = omega (arith, length-be32 i)
lead-head (name_var i) n = omega (arith, length-be32 i)
lead-head l n = omega arith

mutual
  pub code-cost : (t : Tree) → length (code t) ≤ cost t
  code-cost (node l ts) = omega (arith, length-code l ts, head-lead l (count ts), codes-cost ts)

  codes-cost : (ts : Trees) → length (joined (codes ts)) ≤ costs ts
  codes-cost none = omega arith
  codes-cost (also t ts) = omega (arith, length-append (code t) (joined (codes ts)), code-cost t, codes-cost ts)

mutual
  pub cost-code : (t : Tree) → cost t ≤ 9 * length (code t)
  cost-code (node l ts) = omega (arith, length-code l ts, lead-head l (count ts), cost-codes ts)

  cost-codes : (ts : Trees) → costs ts ≤ 9 * length (joined (codes ts))
  cost-codes none = omega arith
  cost-codes (also t ts) = omega (arith, length-append (code t) (joined (codes ts)), cost-code t, cost-codes ts)

-- room for every name that may yet come in
abbrev pub IsRoomy : Tree → Type 0
IsRoomy t = cost t < 2 ^ 32

pub roomy-short : (t : Tree) → IsRoomy t → IsShort t
roomy-short t h = omega (arith, h, code-cost t)

pub short-roomy : (t : Tree) → length (code t) < 2 ^ 28 → IsRoomy t
short-roomy t h = omega (arith, h, cost-code t)

total-listed : (ts : Trees) → total cost (trees (listed ts)) ≡ total cost ts
total-listed ts = ap (total cost) (trees-listed ts)

-- put in order or not, constituents are reckoned alike
made-cost : (l : Label) (us : Trees) (b : Bool) → cost (node l (trees (cond b (ascending (listed us)) (listed us)))) ≡ lead l + total cost us
made-cost l us true = ap (λ n. lead l + n) (costs-total (trees (ascending (listed us))) ∙ total-ascending cost (listed us) ∙ total-listed us)
made-cost l us false = ap (λ n. lead l + n) (costs-total (trees (listed us)) ∙ total-listed us)

module _ (F : Change) (small : (k e : ℕ) → (total cost (F k e var) ≤ 45) × (total cost (F k e name_var) ≤ 45)) where
  use-cost : (d i : ℕ) (form : ℕ → Label) → lead (form i) ≡ 45 → total cost (F (i - d) d form) ≤ 45 → total cost (changed F d form i) ≤ 45
  use-cost d i form e h =
      elim (leb d i) as (λ (b : Bool). total cost (cond b (F (i - d) d form) (also (leaf (form i)) none)) ≤ 45) [ true ↦ h | false ↦ omega (arith, e) ]

  node-cost : (d : ℕ) (l : Label) (ts : Trees) → total cost (change_all F d (length (binders l ts)) ts) ≤ costs ts → total cost (change F d (node l ts)) ≤ cost (node l ts)
  node-cost d (var i) ts h = omega (arith, use-cost d i var refl (small (i - d) d).0)
  node-cost d (name_var i) ts h = omega (arith, use-cost d i name_var refl (small (i - d) d).1)
  node-cost d par ts h = omega (arith, h, made-cost par (change_all F d 0 ts) true)
  node-cost d set ts h = omega (arith, h, made-cost set (change_all F d 0 ts) true)
  node-cost d dict ts h = omega (arith, h, made-cost dict (change_all F d 0 ts) true)
  node-cost d l ts h = omega (arith, h, made-cost l (change_all F d (length (binders l ts)) ts) false)

  mutual
    pub change-cost : (d : ℕ) (t : Tree) → total cost (change F d t) ≤ cost t
    change-cost d (node l ts) = node-cost d l ts (all-cost d (length (binders l ts)) ts)

    all-cost : (d n : ℕ) (ts : Trees) → total cost (change_all F d n ts) ≤ costs ts
    all-cost d n none = omega arith
    all-cost d n (also t none) = omega (arith, change-cost (d + n) t)
    all-cost d n (also t (also u us)) = omega (arith, change-cost d t, all-cost d n (also u us), total-joined cost (change F d t) (change_all F d n (also u us)))

-- a name of a `new` is no longer than a use of a variable is reckoned
abbrev pub IsShortName : Tree → Type 0
IsShortName t = total cost (trees (held t)) ≤ 45

fresh-name : (x : List ℕ) → IsDigest x → IsShortName (only (leaf (fresh x)))
fresh-name x h = omega (arith, h.0)

written-name : (x : List ℕ) → IsDigest x → IsShortName (write_only (only (leaf (fresh x))))
written-name x h = omega (arith, h.0, length-be32 0)

pub names-are : (s : List ℕ) (k : ℕ) (os : List Origin) → Every IsShortName (names_made s k os)
names-are s k [] = tt
names-are s k (origins.Plain ∷ os) = (fresh-name _ (digest-fits _), names-are s (suc k) os)
names-are s k (origins.Stdout ∷ os) = (written-name _ (digest-fits _), names-are s (suc k) os)
names-are s k (origins.StdoutAck ∷ os) = (written-name _ (digest-fits _), names-are s (suc k) os)

small-at : (k : ℕ) (vs : List Tree) → Every IsShortName vs → total cost (trees (held (at k vs))) ≤ 45
small-at k [] h = omega arith
small-at zero (v ∷ vs) h = h.0
small-at (suc k) (v ∷ vs) h = small-at k vs h.1

one-cost : (F : Change) (v : Scope) (t : Tree) → Fits term v t → cost (the_one (change F 0 t)) ≤ total cost (change F 0 t)
one-cost F v (node par ts) h = omega arith
one-cost F v (node _ ts) h = absurd h.1

-- names put in leave room
pub put-roomy : (v : Scope) (t : Tree) (vs : List Tree) → Fits term v t → Every IsShortName vs → cost (put vs t) ≤ cost t
unfolding put
put-roomy v t vs h n =
    let F : Change = λ k d form. trees (held (at k (reverse vs))) in
    let s : (k : ℕ) → total cost (trees (held (at k (reverse vs)))) ≤ 45 = λ k. small-at k (reverse vs) (every-reverse IsShortName vs n) in
    omega (arith, one-cost F v t h, change-cost F (λ k e. (s k, s k)) 0 t)
