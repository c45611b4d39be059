-- Parts that are offered, the lengths of their rows and their heights.
use Rattle.std.proofs.Common.{◌≡◌, ◌<◌, ◌≤◌, ℕ, ◌+◌, true, false, cond, List, [], ◌∷◌, length, get_or, map, refl, sym, ap, ◌∙◌, subst, arith, length-append}
use Rattle.std.specs.Prelude.{⊤, Bool, Vec, ltb}
use Rattle.std.specs.declared.alloc.Global.{Global}
use Rattle.std.proofs.lemmas.Bool.Decides.{nat_tests}
use Rattle.calculus.specs.declared.fault.FaultKind.TheVariants as fault
use Rattle.calculus.specs.declared.plain.Ground.TheVariants as ground
use Rattle.calculus.specs.declared.plain.Kind.{Kind}
use Rattle.calculus.specs.Tree.{Label, row, send, receive, Tree}
use Rattle.calculus.specs.Shape.{many, only, held, at, label_of}
use Rattle.calculus.specs.Size.{height}
use Rattle.calculus.specs.Code.{code, byte_of}
use Rattle.calculus.specs.Outcome.{gives, fails}
use Rattle.calculus.specs.Rows.{Row, row_length}
use Rattle.calculus.specs.Unfolding.{a_row, row_limits}
use Rattle.rho_term.specs.declared.term.Part.{Part}
use Rattle.rho_term.specs.declared.term.Part.TheVariants as part
use Rattle.rho_term.specs.declared.term.TermBind.{TermBind}
use Rattle.rho_term.specs.Parts.{part_tree, term_tree, bind_tree}
use Rattle.term_encoder.specs.Sizes.{size}
use Rattle.term_encoder.proofs.Lengths.{size-code}
use Rattle.offered_rows.specs.Offers.{IsOffered, IsOneOffered, row_of}

-- the one part of a process that has one
pub only-one : (ps : List Part) (t : Tree) → term_tree ps ≡ only t → (q : Part) × (ps ≡ q ∷ []) × (part_tree q ≡ t)
only-one [] t e = cc
only-one (q ∷ []) t e = (q, refl, cc)
only-one (q ∷ r ∷ ps) t e = cc

-- the first of a process's parts where it has one
pub first-one : (ps : List Part) (x : Part) (t u : Tree) → t ≡ only u → t ≡ term_tree ps → x ≡ get_or ps 0 x → (ps ≡ x ∷ []) × (part_tree x ≡ u)
first-one ps x t u h e f =
    let w = only-one ps u (sym e ∙ h) in
    let q : x ≡ w.0 = f ∙ ap (λ ys. get_or ys 0 x) w.1 in
    (w.1 ∙ ap (λ y. y ∷ []) (sym q), ap part_tree q ∙ w.2)

-- it has a part
pub some-parts : (ps : List Part) (n : ℕ) (t u : Tree) → t ≡ only u → t ≡ term_tree ps → length ps ≡ n → 0 < n
some-parts ps n t u h e l =
    let w = only-one ps u (sym e ∙ h) in
    omega (arith, ap (λ (ys : List Part). length ys) w.1, l)

-- a label of what is offered
abbrev IsOfferedLabel : Label → Type 0
IsOfferedLabel (send q) = ⊤
IsOfferedLabel (receive k) = ⊤
IsOfferedLabel _ = ⊥

label-of : (p : Part) → IsOffered p → IsOfferedLabel (label_of (part_tree p))
label-of (part.Send c xs q) h = tt
label-of (part.Receive k bs body) h = tt
label-of _ h = absurd h

from-label : (p : Part) → IsOfferedLabel (label_of (part_tree p)) → IsOffered p
from-label (part.Send c xs q) h = tt
from-label (part.Receive k bs body) h = tt
from-label (part.Ground (ground.Bool b)) h = h
from-label (part.Ground (ground.Int z)) h = h
from-label (part.Ground (ground.Str s)) h = h
from-label (part.Ground (ground.Uri s)) h = h
from-label (part.Ground (ground.Bytes s)) h = h
from-label _ h = h

-- a part that stands for the same tree as one that is offered is offered too
pub same-offered : (q p : Part) → part_tree q ≡ part_tree p → IsOffered p → IsOffered q
same-offered q p e h = from-label q (subst (λ t. IsOfferedLabel (label_of t)) (sym e) (label-of p h))

-- the code of a row is longer than that of its part by as many bytes for each
pub part-length : (id : List ℕ) (p : Part) → IsOffered p → row_length (row_of id (part_tree p)) ≡ 32 + size (part_tree p)
part-length id (part.Send c xs q) h =
    omega (arith, length-append (code c) (byte_of q ∷ code (many row xs.items)), size-code c, size-code (many row xs.items))
part-length id (part.Receive k bs body) h =
    omega (arith, length-append (code (many row (map bind_tree bs.items))) (code body), size-code (many row (map bind_tree bs.items)), size-code body)
part-length id _ h = absurd h

pub one-length : (id : List ℕ) (t : Tree) → IsOneOffered t → row_length (row_of id (at 0 (held t))) ≡ 28 + size t
one-length id t h =
    subst (λ u. row_length (row_of id (at 0 (held u))) ≡ 28 + size u) (sym h.2) (omega (arith, part-length id h.0 h.1))

pub one-height : (t : Tree) → IsOneOffered t → height (at 0 (held t)) ≡ height t
one-height t h = subst (λ u. height (at 0 (held u)) ≡ height u) (sym h.2) (omega arith)

-- a row that is too deep, one that is too big, and one within the limits
pub too-deep : (r : Row) → 400 < height r.part → row_limits r ≡ fails fault.TooDeep
too-deep r h =
    let e : ltb 400 (height r.part) ≡ true = grind (arith, nat_tests) in
    ap (λ b. cond b (fails fault.TooDeep) (cond (ltb 1048576 (row_length r)) (fails fault.TooBig) (gives (a_row r ∷ [])))) e

pub too-big : (r : Row) → height r.part ≤ 400 → 1048576 < row_length r → row_limits r ≡ fails fault.TooBig
too-big r h k =
    let e : ltb 400 (height r.part) ≡ false = grind (arith, nat_tests) in
    let f : ltb 1048576 (row_length r) ≡ true = grind (arith, nat_tests) in
    ap (λ b. cond b (fails fault.TooDeep) (cond (ltb 1048576 (row_length r)) (fails fault.TooBig) (gives (a_row r ∷ [])))) e ∙ ap (λ b. cond b (fails fault.TooBig) (gives (a_row r ∷ []))) f

pub row-fits : (r : Row) → height r.part ≤ 400 → row_length r ≤ 1048576 → row_limits r ≡ gives (a_row r ∷ [])
row-fits r h k =
    let e : ltb 400 (height r.part) ≡ false = grind (arith, nat_tests) in
    let f : ltb 1048576 (row_length r) ≡ false = grind (arith, nat_tests) in
    ap (λ b. cond b (fails fault.TooDeep) (cond (ltb 1048576 (row_length r)) (fails fault.TooBig) (gives (a_row r ∷ [])))) e ∙ ap (λ b. cond b (fails fault.TooBig) (gives (a_row r ∷ []))) f

-- what is taken out of a process of one part that is offered
pub first-offered : (ps : List Part) (x : Part) (t : Tree) → IsOneOffered t → t ≡ term_tree ps → x ≡ get_or ps 0 x → IsOffered x × (part_tree x ≡ at 0 (held t))
first-offered ps x t h e f =
    let w = first-one ps x t (part_tree h.0) h.2 e f in
    (same-offered x h.0 w.1 h.1, w.1 ∙ sym (ap (λ u. at 0 (held u)) h.2))

-- a part that is offered is a send or a receive
pub not-offered : (p : Part) → IsOffered p → ((c : Tree) (xs : Vec Tree Global) (q : Bool) → p ≡ part.Send c xs q → ⊥) → ((k : Kind) (bs : Vec TermBind Global) (body : Tree) → p ≡ part.Receive k bs body → ⊥) → ⊥
not-offered (part.Send c xs q) h s r = s c xs q refl
not-offered (part.Receive k bs body) h s r = r k bs body refl
not-offered _ h s r = h
