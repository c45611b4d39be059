-- A tree without faults suits, where it is in normal order and its code has room in four bytes.
use Rattle.std.proofs.Common.{◌≡◌, ◌∷◌, [], arith}
use Rattle.calculus.specs.Tree.{Label, fresh, tuple, Tree, node, Trees, none, also}
use Rattle.calculus.specs.CodeLaws.{IsShort}
use Rattle.calculus.specs.Form.{Sort, Kids, all, these, no_form, kids}
use Rattle.calculus.proofs.Formed.{Formed, Holds}
use Rattle.calculus.proofs.Tails.{IsFine}
use Rattle.rho_term.specs.Faults.{own_faults, faults, all_faults}
use Rattle.rho_term.specs.Normal.{IsNormal}
use Rattle.term_order.specs.Orders.{HasMember, IsFilled, AreFilled, Suits}

fine : (l : Label) (ts : Trees) → own_faults l ts ≡ 0 → IsFine l
fine (fresh x) ts h = omega arith
fine _ ts h = tt

has_member : (l : Label) (ts : Trees) → own_faults l ts ≡ 0 → HasMember l ts
has_member tuple none h = absurd (omega arith)
has_member tuple (also t ts) h = tt
has_member _ ts h = tt

mutual
  formed : (s : Sort) (t : Tree) → faults s t ≡ 0 → Formed IsFine s t
  formed s (node l ts) h = (fine l ts (omega arith), holds (kids s l 0) ts (omega arith))

  holds : (p : Kids) (ts : Trees) → all_faults p ts ≡ 0 → Holds IsFine p ts
  holds (all s) none h = tt
  holds (all s) (also t ts) h = (formed s t (omega arith), holds (all s) ts (omega arith))
  holds (these []) none h = tt
  holds (these []) (also t ts) h = absurd (omega arith)
  holds (these (s ∷ ss)) none h = absurd (omega arith)
  holds (these (s ∷ ss)) (also t ts) h = (formed s t (omega arith), holds (these ss) ts (omega arith))
  holds no_form ts h = absurd (omega arith)

mutual
  filled : (s : Sort) (t : Tree) → faults s t ≡ 0 → IsFilled t
  filled s (node l ts) h = (has_member l ts (omega arith), are_filled (kids s l 0) ts (omega arith))

  are_filled : (p : Kids) (ts : Trees) → all_faults p ts ≡ 0 → AreFilled ts
  are_filled (all s) none h = tt
  are_filled (all s) (also t ts) h = (filled s t (omega arith), are_filled (all s) ts (omega arith))
  are_filled (these []) none h = tt
  are_filled (these []) (also t ts) h = absurd (omega arith)
  are_filled (these (s ∷ ss)) none h = absurd (omega arith)
  are_filled (these (s ∷ ss)) (also t ts) h = (filled s t (omega arith), are_filled (these ss) ts (omega arith))
  are_filled no_form ts h = absurd (omega arith)

pub faultless : (s : Sort) (t : Tree) → IsNormal t → faults s t ≡ 0 → IsShort t → Suits s t
faultless s t n h k = record { normal = n; formed = formed s t h; filled = filled s t h; short = k }
