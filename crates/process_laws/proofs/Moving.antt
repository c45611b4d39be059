-- Any change leaves what is good good: no outer variable stands where it is seen.
use Rattle.std.proofs.Common.{ℕ, ◌+◌, List, [], ◌∷◌, length, sym, subst}
use Rattle.std.specs.Prelude.{⊤}
use Rattle.calculus.specs.Tree.{Label, par, row, list, tuple, set, dict, pair, var, name_var, send, receive, new, match, bundle, unary, binary, method, Tree, node, Trees, none, also, trees}
use Rattle.calculus.specs.Shape.{listed, joined_trees}
use Rattle.calculus.specs.Variables.{binders}
use Rattle.calculus.specs.Normal.{ascending, made_node}
use Rattle.calculus.specs.Substitution.{Change, change, change_all}
use Rattle.calculus.proofs.PlainKept.{NoVariable}
use Rattle.calculus.proofs.Placing.{trees-listed}
use Rattle.process_laws.proofs.Lists.{ascending-every}
use Rattle.process_laws.proofs.Goodness.{Role, a_term, a_part, a_pair, the_terms, the_cases, a_case, the_binds, a_bind, a_pattern, Slots, each_is, these_are, any_kids, no_kids, open_slots, IsGood, AreGoodKids, listed-good, trees-good, joined-good}

-- the roles of processes and what stands in them
abbrev pub IsOfProcess : Role → Type 0
IsOfProcess a_term = ⊤
IsOfProcess a_part = ⊤
IsOfProcess a_pair = ⊤
IsOfProcess the_terms = ⊤
IsOfProcess _ = ⊥

-- the roles that stay one tree
abbrev pub IsWhole : Role → Type 0
IsWhole a_part = ⊥
IsWhole _ = ⊤

-- roles of processes that stay one tree each
abbrev pub AreWhole : List Role → Type 0
AreWhole [] = ⊤
AreWhole (r ∷ rs) = (IsOfProcess r × IsWhole r) × AreWhole rs

-- what a form of such a role holds
abbrev pub AreOfProcess : Slots → Type 0
AreOfProcess (each_is r) = IsOfProcess r
AreOfProcess (these_are rs) = AreWhole rs
AreOfProcess any_kids = ⊤
AreOfProcess no_kids = ⊤

pub fit-part : (l : Label) → AreOfProcess (open_slots a_part l)
fit-part list = tt
fit-part tuple = tt
fit-part set = tt
fit-part dict = tt
fit-part (receive k) = tt
fit-part (new os) = tt
fit-part match = tt
fit-part (send q) = ((tt, tt), ((tt, tt), tt))
fit-part (bundle r) = ((tt, tt), tt)
fit-part (unary o) = ((tt, tt), tt)
fit-part (binary o) = ((tt, tt), ((tt, tt), tt))
fit-part (method n) = ((tt, tt), ((tt, tt), tt))
fit-part _ = tt

-- each change keeps the property of parts
abbrev pub IsStable : (Tree → Type 0) → Type 0
IsStable O = (F : Change) (d : ℕ) (l : Label) (ts : Trees) → NoVariable l → O (node l ts) → O (made_node l (listed (change_all F d (length (binders l ts)) ts)))

module _ (O : Tree → Type 0) where
  -- these are good: any number of parts, or one tree of another role
  abbrev pub AreGoodAs : Role → Trees → Type 0
  AreGoodAs a_part ts = AreGoodKids O (each_is a_part) ts
  AreGoodAs r none = ⊥
  AreGoodAs r (also t none) = IsGood O r t
  AreGoodAs r (also t (also u us)) = ⊥

  got : (r : Role) (ts : Trees) → AreGoodAs r ts → AreGoodKids O (each_is r) ts
  got a_part ts h = h
  got r none h = absurd h
  got r (also t none) h = (h, tt)
  got r (also t (also u us)) h = absurd h

  more : (r : Role) (rs : List Role) (ts us : Trees) → IsWhole r → AreGoodAs r ts → AreGoodKids O (these_are rs) us → AreGoodKids O (these_are (r ∷ rs)) (joined_trees ts us)
  more a_part rs ts us w h k = absurd w
  more r rs none us w h k = absurd h
  more r rs (also t none) us w h k = (h, k)
  more r rs (also t (also u vs)) us w h k = absurd h

  last : (r : Role) (rs : List Role) (ts : Trees) → IsWhole r → AreGoodAs r ts → AreGoodKids O (these_are rs) none → AreGoodKids O (these_are (r ∷ rs)) ts
  last a_part rs ts w h k = absurd w
  last r rs none w h k = absurd h
  last r rs (also t none) w h k = (h, k)
  last r rs (also t (also u vs)) w h k = absurd h

  relisted : (s : Slots) (us : Trees) → AreGoodKids O s us → AreGoodKids O s (trees (listed us))
  relisted s us k = subst (λ (vs : Trees). AreGoodKids O s vs) (sym (trees-listed us)) k

  sorted-good : (r : Role) (us : Trees) → AreGoodKids O (each_is r) us → AreGoodKids O (each_is r) (trees (ascending (listed us)))
  sorted-good r us k = trees-good O r (ascending (listed us)) (ascending-every (IsGood O r) (listed us) (listed-good O r us k))

  module _ (stable : IsStable O) (F : Change) where
    moved-part : (d : ℕ) (l : Label) (ts : Trees) → IsGood O a_part (node l ts) → AreGoodKids O (open_slots a_part l) (change_all F d (length (binders l ts)) ts) → AreGoodKids O (each_is a_part) (change F d (node l ts))
    moved-part d (var i) ts h k = absurd h.1
    moved-part d (name_var i) ts h k = absurd h.1
    moved-part d par ts h k = absurd h.1
    moved-part d set ts h k = ((stable F d set ts tt h.0, sorted-good a_term (change_all F d 0 ts) k), tt)
    moved-part d dict ts h k = ((stable F d dict ts tt h.0, sorted-good a_pair (change_all F d 0 ts) k), tt)
    moved-part d l ts h k = ((stable F d l ts tt h.0, relisted (open_slots a_part l) (change_all F d (length (binders l ts)) ts) k), tt)

    mutual
      pub moved : (r : Role) (d : ℕ) (t : Tree) → IsOfProcess r → IsGood O r t → AreGoodAs r (change F d t)
      moved a_term d (node par ts) o h = (tt, sorted-good a_part (change_all F d 0 ts) (moved-kids (each_is a_part) d 0 ts tt h.1))
      moved a_term d (node _ ts) o h = absurd h.1
      moved a_part d (node l ts) o h = moved-part d l ts h (moved-kids (open_slots a_part l) d (length (binders l ts)) ts (fit-part l) h.1)
      moved a_pair d (node pair ts) o h = (tt, relisted (these_are (a_term ∷ a_term ∷ [])) (change_all F d 0 ts) (moved-kids (these_are (a_term ∷ a_term ∷ [])) d 0 ts ((tt, tt), ((tt, tt), tt)) h.1))
      moved a_pair d (node _ ts) o h = absurd h.1
      moved the_terms d (node row ts) o h = (tt, relisted (each_is a_term) (change_all F d 0 ts) (moved-kids (each_is a_term) d 0 ts tt h.1))
      moved the_terms d (node _ ts) o h = absurd h.1
      moved the_cases d t o h = absurd o
      moved a_case d t o h = absurd o
      moved the_binds d t o h = absurd o
      moved a_bind d t o h = absurd o
      moved (a_pattern k) d t o h = absurd o

      moved-kids : (s : Slots) (d n : ℕ) (ts : Trees) → AreOfProcess s → AreGoodKids O s ts → AreGoodKids O s (change_all F d n ts)
      moved-kids (each_is r) d n none f h = tt
      moved-kids (each_is r) d n (also t none) f h = got r (change F (d + n) t) (moved r (d + n) t f h.0)
      moved-kids (each_is r) d n (also t (also u us)) f h =
          joined-good O r (change F d t) (change_all F d n (also u us)) (got r (change F d t) (moved r d t f h.0)) (moved-kids (each_is r) d n (also u us) f h.1)
      moved-kids (these_are []) d n none f h = tt
      moved-kids (these_are []) d n (also t ts) f h = absurd h
      moved-kids (these_are (r ∷ rs)) d n none f h = absurd h
      moved-kids (these_are (r ∷ rs)) d n (also t none) f h = last r rs (change F (d + n) t) f.0.1 (moved r (d + n) t f.0.0 h.0) h.1
      moved-kids (these_are (r ∷ rs)) d n (also t (also u us)) f h =
          more r rs (change F d t) (change_all F d n (also u us)) f.0.1 (moved r d t f.0.0 h.0) (moved-kids (these_are rs) d n (also u us) f.1 h.1)
      moved-kids any_kids d n ts f h = tt
      moved-kids no_kids d n ts f h = absurd h
