-- Congruent values put into congruent bodies give congruent closed processes.
use Rattle.std.proofs.Common.{◌≡◌, ℕ, zero, suc, ◌+◌, Bool, true, false, List, [], ◌∷◌, ◌++◌, reverse, sym, subst}
use Rattle.std.specs.Prelude.{⊤}
use Rattle.std.proofs.lemmas.Grind.{reverse_onto}
use Rattle.calculus.specs.Tree.{Label, par, var, name_var, Tree, node, Trees, none, also, trees}
use Rattle.calculus.specs.Shape.{leaf, count, held, at, listed}
use Rattle.calculus.specs.Congruence.{is_bag}
use Rattle.calculus.specs.Variables.{Sense, binders}
use Rattle.calculus.specs.Substitution.{Change, change, the_one, put, renumber}
use Rattle.calculus.specs.Form.{Sort, term, part, row_of, pair_of, Kids, all, these, no_form, part_kids, kids, Scope, outer, Fits, Hold, IsClosed}
use Rattle.calculus.proofs.Known.{IsForm}
use Rattle.calculus.proofs.PlainKept.{NoVariable}
use Rattle.calculus.proofs.Kept.{Whole, EachWhole, AllWhole, part_whole, holds_whole}
use Rattle.calculus.proofs.Placing.{trees-listed}
use Rattle.calculus.proofs.Changed.{hold_form}
use Rattle.calculus.proofs.Keys.{key, key_all, equal_nodes}
use Rattle.process_laws.proofs.Tallies.{AreEven, sorted-even}
use Rattle.process_laws.proofs.Exchanging.{AreNoUses, AreNoUsesOutsideBags, IsNeat, AreNeat, even-self, one-even, alike}

-- a tree of a sort that stays one tree is no use of a variable
no-use : (s : Sort) (l : Label) (n : ℕ) → Whole s → IsForm (kids s l n) → NoVariable l
no-use term (var i) n o h = absurd h
no-use part (var i) n o h = absurd o
no-use _ (var i) n o h = absurd h
no-use term (name_var i) n o h = absurd h
no-use part (name_var i) n o h = absurd o
no-use _ (name_var i) n o h = absurd h
no-use s _ n o h = tt

fits-use : (s : Sort) (v : Scope) (l : Label) (ts : Trees) → Whole s → Fits s v (node l ts) → NoVariable l
fits-use s v l ts o h = no-use s l (count ts) o (hold_form (kids s l (count ts)) (outer s l v) (reverse (binders l ts)) ts h.1)

no-uses : (p : Kids) (v : Scope) (o : List Sense) (ts : Trees) → AllWhole p → Hold p v o ts → AreNoUses ts
no-uses (all s) v o none w h = tt
no-uses (all s) v o (also (node l t) ts) w h = (fits-use s v l t w h.0, no-uses (all s) v o ts w h.1)
no-uses (these []) v o none w h = tt
no-uses (these []) v o (also t ts) w h = absurd h
no-uses (these (s ∷ ss)) v o none w h = absurd h
no-uses (these (s ∷ ss)) v o (also (node l t) none) w h = (fits-use s (o ++ v) l t w.0 h.0, tt)
no-uses (these (s ∷ ss)) v o (also (node l t) (also u us)) w h = (fits-use s v l t w.0 h.0, no-uses (these ss) v o (also u us) w.1 h.1)
no-uses no_form v o ts w h = absurd h

by-bag : (b : Bool) (ts : Trees) → AreNoUses ts → AreNoUsesOutsideBags b ts
by-bag true ts h = tt
by-bag false ts h = h

-- the sorts that a sort holds: rows and pairs are of whole sorts
abbrev IsUsual : Sort → Type 0
IsUsual (row_of s) = Whole s
IsUsual (pair_of s) = Whole s
IsUsual _ = ⊤

plain-kids : (s : Sort) (l : Label) (n : ℕ) (v : Scope) (o : List Sense) (ts : Trees) → IsUsual s → Hold (kids s l n) v o ts → AreNoUsesOutsideBags (is_bag l) ts
plain-kids term par n v o ts u h = tt
plain-kids term _ n v o ts u h = absurd h
plain-kids part l n v o ts u h = by-bag (is_bag l) ts (no-uses (part_kids l) v o ts (part_whole l) h)
plain-kids (row_of s) l n v o ts u h = by-bag (is_bag l) ts (no-uses (kids (row_of s) l n) v o ts (holds_whole (row_of s) l n u tt) h)
plain-kids (pair_of s) l n v o ts u h = by-bag (is_bag l) ts (no-uses (kids (pair_of s) l n) v o ts (holds_whole (pair_of s) l n u tt) h)
plain-kids s l n v o ts u h = by-bag (is_bag l) ts (no-uses (kids s l n) v o ts (holds_whole s l n tt tt) h)

-- the sorts of constituents are usual
abbrev AreUsual : List Sort → Type 0
AreUsual [] = ⊤
AreUsual (s ∷ ss) = IsUsual s × AreUsual ss

-- what a form holds is of usual sorts
abbrev HoldUsual : Kids → Type 0
HoldUsual (all s) = IsUsual s
HoldUsual (these ss) = AreUsual ss
HoldUsual no_form = ⊤

whole-usual : (s : Sort) → Whole s → IsUsual s
whole-usual (row_of s) w = w
whole-usual (pair_of s) w = w
whole-usual _ w = tt

each-usual : (ss : List Sort) → EachWhole ss → AreUsual ss
each-usual [] w = tt
each-usual (s ∷ ss) w = (whole-usual s w.0, each-usual ss w.1)

all-usual : (p : Kids) → AllWhole p → HoldUsual p
all-usual (all s) w = whole-usual s w
all-usual (these ss) w = each-usual ss w
all-usual no_form w = tt

kids-usual : (s : Sort) (l : Label) (n : ℕ) → IsUsual s → HoldUsual (kids s l n)
kids-usual term par n u = tt
kids-usual term _ n u = tt
kids-usual part l n u = all-usual (part_kids l) (part_whole l)
kids-usual (row_of s) l n u = all-usual (kids (row_of s) l n) (holds_whole (row_of s) l n u tt)
kids-usual (pair_of s) l n u = all-usual (kids (pair_of s) l n) (holds_whole (pair_of s) l n u tt)
kids-usual s l n u = all-usual (kids s l n) (holds_whole s l n tt tt)

mutual
  pub fits-neat : (s : Sort) (v : Scope) (t : Tree) → IsUsual s → Fits s v t → IsNeat t
  fits-neat s v (node l ts) u h =
      (plain-kids s l (count ts) (outer s l v) (reverse (binders l ts)) ts u h.1, hold-neat (kids s l (count ts)) (outer s l v) (reverse (binders l ts)) ts (kids-usual s l (count ts) u) h.1)

  hold-neat : (p : Kids) (v : Scope) (o : List Sense) (ts : Trees) → HoldUsual p → Hold p v o ts → AreNeat ts
  hold-neat (all s) v o none u h = tt
  hold-neat (all s) v o (also t ts) u h = (fits-neat s v t u h.0, hold-neat (all s) v o ts u h.1)
  hold-neat (these []) v o none u h = tt
  hold-neat (these []) v o (also t ts) u h = absurd h
  hold-neat (these (s ∷ ss)) v o none u h = absurd h
  hold-neat (these (s ∷ ss)) v o (also t none) u h = (fits-neat s (o ++ v) t u.0 h.0, tt)
  hold-neat (these (s ∷ ss)) v o (also t (also w ws)) u h = (fits-neat s v t u.0 h.0, hold-neat (these ss) v o (also w ws) u.1 h.1)
  hold-neat no_form v o ts u h = absurd h

-- parts that are congruent as a bag
abbrev pub IsLevel : Tree → Tree → Type 0
IsLevel t u = AreEven (key_all (trees (held t))) (key_all (trees (held u)))

-- one by one
abbrev pub AreLevel : List Tree → List Tree → Type 0
AreLevel [] [] = ⊤
AreLevel [] (u ∷ us) = ⊥
AreLevel (t ∷ ts) [] = ⊥
AreLevel (t ∷ ts) (u ∷ us) = IsLevel t u × AreLevel ts us

levels-append : (ts us vs ws : List Tree) → AreLevel ts us → AreLevel vs ws → AreLevel (ts ++ vs) (us ++ ws)
levels-append [] [] vs ws h k = k
levels-append [] (u ∷ us) vs ws h k = absurd h
levels-append (t ∷ ts) [] vs ws h k = absurd h
levels-append (t ∷ ts) (u ∷ us) vs ws h k = (h.0, levels-append ts us vs ws h.1 k)

levels-reverse : (ts us : List Tree) → AreLevel ts us → AreLevel (reverse ts) (reverse us)
levels-reverse [] [] h = tt
levels-reverse [] (u ∷ us) h = absurd h
levels-reverse (t ∷ ts) [] h = absurd h
levels-reverse (t ∷ ts) (u ∷ us) h = rw (reverse_onto ts t [], reverse_onto us u []) (levels-append (reverse ts) (reverse us) (t ∷ []) (u ∷ []) (levels-reverse ts us h.1) (h.0, tt))

level-at : (k : ℕ) (ts us : List Tree) → AreLevel ts us → IsLevel (at k ts) (at k us)
level-at k [] [] h = even-self []
level-at k [] (u ∷ us) h = absurd h
level-at k (t ∷ ts) [] h = absurd h
level-at zero (t ∷ ts) (u ∷ us) h = h.0
level-at (suc k) (t ∷ ts) (u ∷ us) h = level-at k ts us h.1

-- congruent processes are level
pub closed-level : (t u : Tree) → IsClosed t → key t ≡ key u → IsLevel t u
closed-level (node par ts) (node m us) h e =
    let n = equal_nodes par m ts us e in
    subst (λ (x : Trees). AreEven (key_all x) (key_all (trees (listed us)))) (sym (trees-listed ts)) (subst (λ (x : Trees). AreEven (key_all ts) (key_all x)) (sym (trees-listed us)) (sorted-even (key_all ts) (key_all us) n.1))
closed-level (node _ ts) u h e = absurd h.1

the-one-key : (F G : Change) → ((k e : ℕ) → AreEven (key_all (F k e var)) (key_all (G k e var)) × AreEven (key_all (F k e name_var)) (key_all (G k e name_var)))
    → (v : Scope) (t u : Tree) → Fits term v t → key t ≡ key u → key (the_one (change F 0 t)) ≡ key (the_one (change G 0 u))
the-one-key F G r v (node par ts) (node m us) h e =
    let q : par ≡ m = (equal_nodes par m ts us e).0 in
    let k = alike F G r (node par ts) (node m us) e (fits-neat term v (node par ts) tt h) 0 in
    subst (λ (x : Label). AreEven (key_all (change F 0 (node par ts))) (key_all (change G 0 (node x us))) → key (the_one (change F 0 (node par ts))) ≡ key (the_one (change G 0 (node x us)))) q (λ z. one-even _ _ z) k
the-one-key F G r v (node _ ts) u h e = absurd h.1

-- congruent bodies under congruent values
pub put-key : (v : Scope) (t u : Tree) (vs ws : List Tree) → Fits term v t → key t ≡ key u → AreLevel vs ws → key (put vs t) ≡ key (put ws u)
unfolding put
put-key v t u vs ws h e l =
    the-one-key (λ k d form. trees (held (at k (reverse vs)))) (λ k d form. trees (held (at k (reverse ws))))
    (λ k d. (level-at k (reverse vs) (reverse ws) (levels-reverse vs ws l), level-at k (reverse vs) (reverse ws) (levels-reverse vs ws l))) v t u h e

-- congruent bodies whose variables are numbered anew alike
pub renumber-key : (v : Scope) (f : ℕ → ℕ) (t u : Tree) → Fits term v t → key t ≡ key u → key (renumber f t) ≡ key (renumber f u)
unfolding renumber
renumber-key v f t u h e = the-one-key (λ k d form. also (leaf (form (f k + d))) none) (λ k d form. also (leaf (form (f k + d))) none) (λ k d. (even-self (key_all (also (leaf (var (f k + d))) none)), even-self (key_all (also (leaf (name_var (f k + d))) none)))) v t u h e
