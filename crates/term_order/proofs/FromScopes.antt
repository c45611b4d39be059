-- A process of a scope suits, where it is in normal order and its code has room in four bytes.
use Rattle.std.proofs.Common.{List, [], ◌∷◌, ◌++◌, arith}
use Rattle.std.specs.Prelude.{reverse}
use Rattle.calculus.specs.Tree.{Label, tuple, Tree, node, Trees, none, also}
use Rattle.calculus.specs.Shape.{count}
use Rattle.calculus.specs.CodeLaws.{IsShort}
use Rattle.calculus.specs.Variables.{Sense, binders}
use Rattle.calculus.specs.Form.{Sort, Kids, all, these, no_form, kids, Scope, IsPlain, outer, Fits, Hold}
use Rattle.calculus.proofs.FromFits.{formed, fine}
use Rattle.calculus.proofs.Tails.{IsFine}
use Rattle.rho_term.specs.Normal.{IsNormal}
use Rattle.term_order.specs.Orders.{HasMember, IsFilled, AreFilled, Suits}

has_member : (s : Sort) (v : Scope) (l : Label) (ts : Trees) → IsPlain s v l ts → HasMember l ts
has_member s v tuple none h = absurd (omega arith)
has_member s v tuple (also t ts) h = tt
has_member s v _ ts h = tt

mutual
  filled : (s : Sort) (v : Scope) (t : Tree) → Fits s v t → IsFilled t
  filled s v (node l ts) h = (has_member s v l ts h.0, are_filled (kids s l (count ts)) (outer s l v) (reverse (binders l ts)) ts h.1)

  are_filled : (p : Kids) (v : Scope) (o : List Sense) (ts : Trees) → Hold p v o ts → AreFilled ts
  are_filled (all s) v o none h = tt
  are_filled (all s) v o (also t ts) h = (filled s v t h.0, are_filled (all s) v o ts h.1)
  are_filled (these []) v o none h = tt
  are_filled (these []) v o (also t ts) h = absurd h
  are_filled (these (s ∷ ss)) v o none h = absurd h
  are_filled (these (s ∷ ss)) v o (also t none) h = (filled s (o ++ v) t h.0, tt)
  are_filled (these (s ∷ ss)) v o (also t (also u us)) h = (filled s v t h.0, are_filled (these ss) v o (also u us) h.1)
  are_filled no_form v o ts h = absurd h

pub suits : (s : Sort) (v : Scope) (t : Tree) → IsNormal t → Fits s v t → IsShort t → Suits s t
suits s v t n h k = record { normal = n; formed = formed IsFine fine s v t h; filled = filled s v t h; short = k }
