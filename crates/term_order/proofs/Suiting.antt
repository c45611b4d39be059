-- What stands in a tree that suits does so too, and the code of such a tree is its head and their codes.
use Rattle.std.proofs.Common.{◌≡◌, ℕ, Bool, true, false, List, [], ◌∷◌, ◌++◌, refl, ap, ◌∙◌}
use Rattle.std.specs.Ordering.{ordering_then}
use Rattle.calculus.specs.Tree.{Label, Tree, node, Trees, also}
use Rattle.calculus.specs.Bytes.{joined}
use Rattle.calculus.specs.Shape.{count}
use Rattle.calculus.specs.Congruence.{is_bag}
use Rattle.calculus.specs.Order.{byte_cmp, sorted, placed, IsAscending}
use Rattle.calculus.specs.Code.{head, arranged, code, codes}
use Rattle.calculus.specs.Form.{Sort, Kids, all, these, kids}
use Rattle.calculus.proofs.Formed.{Holds}
use Rattle.calculus.proofs.Tails.{IsFine}
use Rattle.calculus.proofs.Splitting.{AreShort, kids-short, first-short, rest-short, heads_split, splits}
use Rattle.rho_term.specs.Normal.{IsArranged, AreNormal}
use Rattle.term_order.specs.Orders.{Suits, AreFilled}
use Rattle.term_order.proofs.Comparing.{cmp-append}

-- constituents that suit what a form holds
pub record SuitAll (p : Kids) (ts : Trees) : Type 0 where
  pub normal : AreNormal ts
  pub formed : Holds IsFine p ts
  pub filled : AreFilled ts
  pub short : AreShort ts

pub kids_suit : (s : Sort) (l : Label) (ts : Trees) → Suits s (node l ts) → SuitAll (kids s l 0) ts
kids_suit s l ts h = record { normal = h.normal.1; formed = h.formed.1; filled = h.filled.1; short = kids-short l ts h.short }

pub first_suits : (s : Sort) (ss : List Sort) (t : Tree) (ts : Trees) → SuitAll (these (s ∷ ss)) (also t ts) → Suits s t
first_suits s ss t ts h = record { normal = h.normal.0; formed = h.formed.0; filled = h.filled.0; short = first-short t ts h.short }

pub others_suit : (s : Sort) (ss : List Sort) (t : Tree) (ts : Trees) → SuitAll (these (s ∷ ss)) (also t ts) → SuitAll (these ss) ts
others_suit s ss t ts h = record { normal = h.normal.1; formed = h.formed.1; filled = h.filled.1; short = rest-short t ts h.short }

pub member_suits : (s : Sort) (t : Tree) (ts : Trees) → SuitAll (all s) (also t ts) → Suits s t
member_suits s t ts h = record { normal = h.normal.0; formed = h.formed.0; filled = h.filled.0; short = first-short t ts h.short }

pub members_suit : (s : Sort) (t : Tree) (ts : Trees) → SuitAll (all s) (also t ts) → SuitAll (all s) ts
members_suit s t ts h = record { normal = h.normal.1; formed = h.formed.1; filled = h.filled.1; short = rest-short t ts h.short }

-- what ascends is sorted already
sorted-ascending : (cs : List (List ℕ)) → IsAscending cs → sorted cs ≡ cs
unfolding sorted placed
sorted-ascending [] h = refl
sorted-ascending (c ∷ []) h = refl
sorted-ascending (c ∷ d ∷ cs) h = rw (sorted-ascending (d ∷ cs) h.1, h.0)

in_order : (b : Bool) (cs : List (List ℕ)) → IsArranged b cs → arranged b cs ≡ cs
in_order true cs h = sorted-ascending cs h
in_order false cs h = refl

pub code_is : (s : Sort) (l : Label) (ts : Trees) → Suits s (node l ts) → code (node l ts) ≡ head l (count ts) ++ joined (codes ts)
code_is s l ts h = ap (λ cs. head l (count ts) ++ joined cs) (in_order (is_bag l) (codes ts) h.normal.0)

-- two forms of one sort go by their heads, and then by their constituents
pub cmp_form : (s : Sort) (l m : Label) (ts us : Trees) → Suits s (node l ts) → Suits s (node m us)
    → byte_cmp (code (node l ts)) (code (node m us)) ≡ ordering_then (byte_cmp (head l (count ts)) (head m (count us))) (byte_cmp (joined (codes ts)) (joined (codes us)))
cmp_form s l m ts us h k =
    ap (λ z. byte_cmp z (code (node m us))) (code_is s l ts h) ∙ ap (byte_cmp (head l (count ts) ++ joined (codes ts))) (code_is s m us k)
    ∙ cmp-append (head l (count ts)) (head m (count us)) (joined (codes ts)) (joined (codes us)) (heads_split s l m ts us h.formed k.formed h.short k.short)

-- two trees of one sort with more codes after theirs
pub cmp_tree : (s : Sort) (t u : Tree) (cs ds : List ℕ) → Suits s t → Suits s u → byte_cmp (code t ++ cs) (code u ++ ds) ≡ ordering_then (byte_cmp (code t) (code u)) (byte_cmp cs ds)
cmp_tree s t u cs ds h k = cmp-append (code t) (code u) cs ds (splits s t u h.formed k.formed h.short k.short)
