-- Congruent trees of one sort whose parts have short codes, and what stands in them.
use Rattle.std.proofs.Common.{◌≡◌, Bool, true, false, List, [], ◌∷◌, refl, sym, ap, ◌∙◌, subst}
use Rattle.std.specs.Prelude.{⊤}
use Rattle.std.specs.Bool.{one_answer}
use Rattle.std.specs.Str.{bytes_eq}
use Rattle.std.proofs.lemmas.Slice.Eq.{bytes_eq-Decides}
use Rattle.std.specs.List.{AllZip}
use Rattle.calculus.specs.Tree.{Label, par, row, pair, Tree, node, Trees, none, also, trees}
use Rattle.calculus.specs.Shape.{listed, at, held, process}
use Rattle.calculus.specs.Congruence.{is_bag, congruent}
use Rattle.calculus.specs.Code.{arranged}
use Rattle.calculus.specs.CodeLaws.{IsShort}
use Rattle.calculus.specs.CongruenceLaws.{AreCongruent}
use Rattle.calculus.specs.Form.{Sort, term, part, row_of, pair_of, Kids, all, these, no_form, kids}
use Rattle.calculus.specs.Normal.{ascending}
use Rattle.calculus.proofs.Known.{IsForm}
use Rattle.calculus.proofs.Reading.{IsRanged}
use Rattle.calculus.proofs.Formed.{Formed, Holds, is_form}
use Rattle.calculus.proofs.Splitting.{AreShort, kids-short, first-short, rest-short}
use Rattle.calculus.proofs.Alike.{EachTree}
use Rattle.calculus.proofs.Keys.{key, key_all, equal_nodes}
use Rattle.calculus.proofs.Equivalence.{agree, of_forms}
use Rattle.process_laws.proofs.Tied.{Tied, ascending-tied}

-- each constituent of a tree has a short code
abbrev pub Slim : Tree → Type 0
Slim (node l ts) = EachTree IsShort ts

-- congruent trees of one sort with such constituents
abbrev pub Aimed : Sort → Tree → Tree → Type 0
Aimed s t u = (key t ≡ key u) × (Formed IsRanged s t × Slim t) × (Formed IsRanged s u × Slim u)

each-short : (ts : Trees) → AreShort ts → EachTree IsShort ts
each-short none a = tt
each-short (also t ts) a = (first-short t ts a, each-short ts (rest-short t ts a))

slim : (t : Tree) → IsShort t → Slim t
slim (node l ts) a = each-short ts (kids-short l ts a)

pub aim : (s : Sort) (t u : Tree) → Tied s t u → Aimed s t u
aim s t u h = (h.0, (h.1.0, slim t h.1.1), (h.2.0, slim u h.2.1))

pub same_answer : (t u v w : Tree) → key t ≡ key u → key v ≡ key w → congruent t v ≡ congruent u w
same_answer t u v w e f =
    one_answer (congruent t v) (bytes_eq (key t) (key v)) (agree t v) (bytes_eq-Decides (key t) (key v))
    ∙ ap (λ x. bytes_eq x (key v)) e ∙ ap (λ x. bytes_eq (key u) x) f
    ∙ sym (one_answer (congruent u w) (bytes_eq (key u) (key w)) (agree u w) (bytes_eq-Decides (key u) (key w)))

-- of each two in one place both are tied
abbrev pub InTurn : List Sort → List Tree → List Tree → Type 0
InTurn [] [] [] = ⊤
InTurn [] [] (u ∷ us) = ⊥
InTurn [] (t ∷ ts) us = ⊥
InTurn (s ∷ ss) [] us = ⊥
InTurn (s ∷ ss) (t ∷ ts) [] = ⊥
InTurn (s ∷ ss) (t ∷ ts) (u ∷ us) = Tied s t u × InTurn ss ts us

-- constituents as a form holds them: those of a bag are tied once they ascend
abbrev pub Inside : Bool → Kids → List Tree → List Tree → Type 0
Inside true (all s) ts us = AllZip (Tied s) (ascending ts) (ascending us)
Inside false (all s) ts us = AllZip (Tied s) ts us
Inside true (these ss) ts us = ⊤
Inside false (these ss) ts us = InTurn ss ts us
Inside b no_form ts us = ⊤

all_tied : (s : Sort) (ts us : Trees) → Holds IsRanged (all s) ts → Holds IsRanged (all s) us → EachTree IsShort ts → EachTree IsShort us → key_all ts ≡ key_all us → AllZip (Tied s) (listed ts) (listed us)
all_tied s none none h k a b e = tt
all_tied s none (also u us) h k a b e = cc
all_tied s (also t ts) none h k a b e = cc
all_tied s (also t ts) (also u us) h k a b e =
    let x : key t ≡ key u = cc in
    let y : key_all ts ≡ key_all us = cc in
    ((x, (h.0, a.0), (k.0, b.0)), all_tied s ts us h.1 k.1 a.1 b.1 y)

in_turn_tied : (ss : List Sort) (ts us : Trees) → Holds IsRanged (these ss) ts → Holds IsRanged (these ss) us → EachTree IsShort ts → EachTree IsShort us → key_all ts ≡ key_all us → InTurn ss (listed ts) (listed us)
in_turn_tied [] none none h k a b e = tt
in_turn_tied [] none (also u us) h k a b e = absurd k
in_turn_tied [] (also t ts) us h k a b e = absurd h
in_turn_tied (s ∷ ss) none us h k a b e = absurd h
in_turn_tied (s ∷ ss) (also t ts) none h k a b e = absurd k
in_turn_tied (s ∷ ss) (also t ts) (also u us) h k a b e =
    let x : key t ≡ key u = cc in
    let y : key_all ts ≡ key_all us = cc in
    ((x, (h.0, a.0), (k.0, b.0)), in_turn_tied ss ts us h.1 k.1 a.1 b.1 y)

inside : (b : Bool) (p : Kids) (ts us : Trees) → Holds IsRanged p ts → Holds IsRanged p us → EachTree IsShort ts → EachTree IsShort us → arranged b (key_all ts) ≡ arranged b (key_all us) → Inside b p (listed ts) (listed us)
inside true (all s) ts us h k a b e = ascending-tied s ts us h k a b e
inside false (all s) ts us h k a b e = all_tied s ts us h k a b e
inside true (these ss) ts us h k a b e = tt
inside false (these ss) ts us h k a b e = in_turn_tied ss ts us h k a b e
inside b no_form ts us h k a c e = absurd h

pub opened : (s : Sort) (l m : Label) (ts us : Trees) → Aimed s (node l ts) (node m us) → (l ≡ m) × Inside (is_bag l) (kids s l 0) (listed ts) (listed us)
opened s l m ts us h =
    let n = equal_nodes l m ts us h.0 in
    let k : Holds IsRanged (kids s l 0) us = subst (λ (x : Label). Holds IsRanged (kids s x 0) us) (sym n.0) h.2.0.1 in
    (n.0, inside (is_bag l) (kids s l 0) ts us h.1.0.1 k h.1.1 h.2.1 n.1)

pub first_tied : (s : Sort) (ss : List Sort) (ts us : List Tree) → InTurn (s ∷ ss) ts us → Tied s (at 0 ts) (at 0 us)
first_tied s ss [] us h = absurd h
first_tied s ss (t ∷ ts) [] h = absurd h
first_tied s ss (t ∷ ts) (u ∷ us) h = h.0

pub second_tied : (r s : Sort) (ss : List Sort) (ts us : List Tree) → InTurn (r ∷ s ∷ ss) ts us → Tied s (at 1 ts) (at 1 us)
second_tied r s ss [] us h = absurd h
second_tied r s ss (t ∷ ts) [] h = absurd h
second_tied r s ss (t ∷ ts) (u ∷ us) h = first_tied s ss ts us h.1

pub two_tied : (s : Sort) (ts us : List Tree) → InTurn (s ∷ s ∷ []) ts us → AllZip (Tied s) ts us
two_tied s [] us h = absurd h
two_tied s (t ∷ ts) [] h = absurd h
two_tied s (t ∷ []) (u ∷ us) h = absurd h.1
two_tied s (t ∷ v ∷ ts) (u ∷ []) h = absurd h.1
two_tied s (t ∷ v ∷ []) (u ∷ w ∷ []) h = (h.0, (h.1.0, tt))
two_tied s (t ∷ v ∷ []) (u ∷ w ∷ x ∷ us) h = absurd h.1.1
two_tied s (t ∷ v ∷ x ∷ ts) (u ∷ w ∷ us) h = absurd h.1.1

-- the forms of a process, a row and a pair
pub one_process : (l : Label) → IsForm (kids term l 0) → l ≡ par
one_process par h = refl
one_process _ h = absurd h

pub one_row : (s : Sort) (l : Label) → IsForm (kids (row_of s) l 0) → l ≡ row
one_row s row h = refl
one_row s _ h = absurd h

pub one_pair : (s : Sort) (l : Label) → IsForm (kids (pair_of s) l 0) → l ≡ pair
one_pair s pair h = refl
one_pair s _ h = absurd h

-- what stands in congruent processes, rows and pairs
pub parts_tied : (t u : Tree) → Aimed term t u → AllZip (Tied part) (ascending (held t)) (ascending (held u))
parts_tied (node l ts) (node m us) h =
    let e = one_process l (is_form IsRanged (kids term l 0) ts h.1.0.1) in
    subst (λ (x : Label). Inside (is_bag x) (kids term x 0) (listed ts) (listed us)) e (opened term l m ts us h).1

pub row_tied : (s : Sort) (t u : Tree) → Aimed (row_of s) t u → AllZip (Tied s) (held t) (held u)
row_tied s (node l ts) (node m us) h =
    let e = one_row s l (is_form IsRanged (kids (row_of s) l 0) ts h.1.0.1) in
    subst (λ (x : Label). Inside (is_bag x) (kids (row_of s) x 0) (listed ts) (listed us)) e (opened (row_of s) l m ts us h).1

pub pair_tied : (s : Sort) (t u : Tree) → Aimed (pair_of s) t u → AllZip (Tied s) (held t) (held u)
pair_tied s (node l ts) (node m us) h =
    let e = one_pair s l (is_form IsRanged (kids (pair_of s) l 0) ts h.1.0.1) in
    let i = subst (λ (x : Label). Inside (is_bag x) (kids (pair_of s) x 0) (listed ts) (listed us)) e (opened (pair_of s) l m ts us h).1 in
    two_tied s (listed ts) (listed us) i

-- trees that are tied are congruent one by one
pub tied_congruent : (s : Sort) (ts us : List Tree) → AllZip (Tied s) ts us → AreCongruent ts us
tied_congruent s [] [] h = tt
tied_congruent s [] (u ∷ us) h = absurd h
tied_congruent s (t ∷ ts) [] h = absurd h
tied_congruent s (t ∷ ts) (u ∷ us) h = ((agree t u).1 h.0.0, tied_congruent s ts us h.1)

-- the processes of parts that are tied
each_formed : (ts us : List Tree) → AllZip (Tied part) ts us → (Holds IsRanged (all part) (trees ts) × EachTree IsShort (trees ts)) × (Holds IsRanged (all part) (trees us) × EachTree IsShort (trees us))
each_formed [] [] h = ((tt, tt), (tt, tt))
each_formed [] (u ∷ us) h = absurd h
each_formed (t ∷ ts) [] h = absurd h
each_formed (t ∷ ts) (u ∷ us) h =
    let r = each_formed ts us h.1 in
    (((h.0.1.0, r.0.0), (h.0.1.1, r.0.1)), ((h.0.2.0, r.1.0), (h.0.2.1, r.1.1)))

pub process_aimed : (ts us : List Tree) → AllZip (Tied part) ts us → Aimed term (process ts) (process us)
process_aimed ts us h =
    let r = each_formed ts us h in
    ((agree (process ts) (process us)).0 (of_forms par ts us (tied_congruent part ts us h)), ((tt, r.0.0), r.0.1), ((tt, r.1.0), r.1.1))
