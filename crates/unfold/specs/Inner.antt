-- What is unfolded inside a part.
use Rattle.std.specs.Prelude.{ℕ, Bool, true, false, ◌*◌, List, [], ◌∷◌, length, Option, Some, None, ⊤}
use Rattle.calculus.specs.Tree.{par, list, tuple, set, dict, send, receive, new, match, bundle, unary, binary, method, Tree, node, none, also}
use Rattle.calculus.specs.Shape.{leaf, held, listed, at}
use Rattle.calculus.specs.Substitution.{put}
use Rattle.calculus.specs.Matching.{Bindings, first_match}
use Rattle.calculus.specs.Outcome.{Prices, Outcome, free, pure, charged, after, within_limits}
use Rattle.calculus.specs.Values.{value}
use Rattle.calculus.specs.Unfolding.{names_made}

-- the body of a case with this first match, within the limits, or else what comes next
abbrev pub fitting_body : Option Bindings → Tree → Outcome Tree → Outcome Tree
fitting_body (Some vs) body next = free (within_limits (put vs body))
fitting_body None body next = next

-- the body of the first of these cases that fits the target, each tried at its price, and the empty process where none fits
abbrev pub chosen_body : Prices → Tree → List Tree → Outcome Tree
chosen_body p v [] = pure (leaf par)
chosen_body p v (c ∷ cs) = charged p.case (fitting_body (first_match (at 0 (held c)) v) (at 1 (held c)) (chosen_body p v cs))

-- a value of which nothing is unfolded
abbrev pub silent : Outcome Tree → Outcome Tree
silent o = after o (λ v. pure (leaf par))

-- the process that is unfolded inside a part with this seed, and the empty process where none is
abbrev pub inner_process : Prices → List ℕ → Tree → Outcome Tree
inner_process p t (node (new os) (also body none)) = charged (p.name * length os) (pure (put (names_made t 0 os) body))
inner_process p t (node match (also target (also (node l cs) none))) = after (value p target) (λ v. chosen_body p v (listed cs))
inner_process p t (node (bundle r) (also body none)) = pure body
inner_process p t (node (unary o) ts) = value p (node (unary o) ts)
inner_process p t (node (binary o) ts) = value p (node (binary o) ts)
inner_process p t (node (method n) ts) = value p (node (method n) ts)
inner_process p t (node list ts) = silent (value p (node list ts))
inner_process p t (node tuple ts) = silent (value p (node tuple ts))
inner_process p t (node set ts) = silent (value p (node set ts))
inner_process p t (node dict ts) = silent (value p (node dict ts))
inner_process p t (node l ts) = pure (leaf par)

-- no `new`, `match` or bundle
abbrev pub HoldsNoProcess : Tree → Type 0
HoldsNoProcess (node (new os) ts) = ⊥
HoldsNoProcess (node match ts) = ⊥
HoldsNoProcess (node (bundle r) ts) = ⊥
HoldsNoProcess _ = ⊤

-- neither offered nor unfolded: a ground value, a variable or a collection
abbrev pub is_silent : Tree → Bool
is_silent (node (send q) ts) = false
is_silent (node (receive k) ts) = false
is_silent (node (new os) ts) = false
is_silent (node match ts) = false
is_silent (node (bundle r) ts) = false
is_silent (node (unary o) ts) = false
is_silent (node (binary o) ts) = false
is_silent (node (method n) ts) = false
is_silent _ = true
