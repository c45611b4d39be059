-- Good trees: each part of them has a property, and so have all that a pattern, an operator or a method can take out of it.
use Rattle.std.proofs.Common.{ℕ, zero, suc, List, [], ◌∷◌}
use Rattle.std.specs.Prelude.{⊤}
use Rattle.calculus.proofs.Members.{Every}
use Rattle.calculus.specs.Tree.{Label, par, row, bool, int, str, uri, bytes, fresh, list, tuple, set, dict, pair, send, receive, bind, new, match, case, bundle, unary, binary, method, Tree, node, Trees, none, also, trees}
use Rattle.calculus.specs.Shape.{listed, held, joined_trees, at, leaf}
use Rattle.process_laws.proofs.UnfoldingPatterns.{PatternRole, a_pat, the_pats, a_rest}

-- what a tree stands for
pub data Role : Type 0 where
  a_term : Role
  a_part : Role
  a_pair : Role
  the_terms : Role
  the_cases : Role
  a_case : Role
  the_binds : Role
  a_bind : Role
  a_pattern : PatternRole → Role

-- what a form holds: any number of one role, these in turn, anything, or no such form
pub data Slots : Type 0 where
  each_is : Role → Slots
  these_are : List Role → Slots
  any_kids : Slots
  no_kids : Slots

-- what a part of a process holds
abbrev pub part_slots : Label → Slots
part_slots (bool x) = these_are []
part_slots (int x) = these_are []
part_slots (str x) = these_are []
part_slots (uri x) = these_are []
part_slots (bytes x) = these_are []
part_slots (fresh x) = these_are []
part_slots list = each_is a_term
part_slots tuple = each_is a_term
part_slots set = each_is a_term
part_slots dict = each_is a_pair
part_slots (send q) = these_are (a_term ∷ the_terms ∷ [])
part_slots (receive k) = these_are (the_binds ∷ a_term ∷ [])
part_slots (new os) = these_are (a_term ∷ [])
part_slots match = these_are (a_term ∷ the_cases ∷ [])
part_slots (bundle r) = these_are (a_term ∷ [])
part_slots (unary o) = these_are (a_term ∷ [])
part_slots (binary o) = these_are (a_term ∷ a_term ∷ [])
part_slots (method n) = these_are (a_term ∷ the_terms ∷ [])
part_slots _ = no_kids

-- what a form of this role holds
abbrev pub slots : Role → Label → Slots
slots a_term par = each_is a_part
slots a_part l = part_slots l
slots a_pair pair = these_are (a_term ∷ a_term ∷ [])
slots the_terms row = each_is a_term
slots the_cases row = each_is a_case
slots a_case case = these_are (a_pattern a_pat ∷ a_term ∷ [])
slots the_binds row = each_is a_bind
slots a_bind bind = these_are (a_term ∷ a_pattern the_pats ∷ a_pattern a_rest ∷ [])
slots _ _ = no_kids

-- what of it is ever taken out: nothing of a receive, a `new` or a `match`
abbrev pub open_slots : Role → Label → Slots
open_slots a_part (receive k) = any_kids
open_slots a_part (new os) = any_kids
open_slots a_part match = any_kids
open_slots the_cases l = any_kids
open_slots a_case l = any_kids
open_slots the_binds l = any_kids
open_slots a_bind l = any_kids
open_slots (a_pattern k) l = any_kids
open_slots r l = slots r l

-- a property of the parts alone
abbrev pub HasAsPart : (Tree → Type 0) → Role → Tree → Type 0
HasAsPart O a_part t = O t
HasAsPart O _ t = ⊤

module _ (O : Tree → Type 0) where
  abbrev mutual
    -- a tree is good for this role, where O is asked of each part
    pub IsGood : Role → Tree → Type 0
    IsGood r (node l ts) = HasAsPart O r (node l ts) × AreGoodKids (open_slots r l) ts

    -- so are these, as a form holds them
    pub AreGoodKids : Slots → Trees → Type 0
    AreGoodKids (each_is r) none = ⊤
    AreGoodKids (each_is r) (also t ts) = IsGood r t × AreGoodKids (each_is r) ts
    AreGoodKids (these_are []) none = ⊤
    AreGoodKids (these_are []) (also t ts) = ⊥
    AreGoodKids (these_are (r ∷ rs)) none = ⊥
    AreGoodKids (these_are (r ∷ rs)) (also t ts) = IsGood r t × AreGoodKids (these_are rs) ts
    AreGoodKids any_kids ts = ⊤
    AreGoodKids no_kids ts = ⊥

  -- each of these is good
  abbrev pub AreGood : Role → List Tree → Type 0
  AreGood r ts = Every (IsGood r) ts

  pub listed-good : (r : Role) (ts : Trees) → AreGoodKids (each_is r) ts → AreGood r (listed ts)
  listed-good r none h = tt
  listed-good r (also t ts) h = (h.0, listed-good r ts h.1)

  pub trees-good : (r : Role) (ts : List Tree) → AreGood r ts → AreGoodKids (each_is r) (trees ts)
  trees-good r [] h = tt
  trees-good r (t ∷ ts) h = (h.0, trees-good r ts h.1)

  pub joined-good : (r : Role) (ts us : Trees) → AreGoodKids (each_is r) ts → AreGoodKids (each_is r) us → AreGoodKids (each_is r) (joined_trees ts us)
  joined-good r none us h k = k
  joined-good r (also t ts) us h k = (h.0, joined-good r ts us h.1 k)

  -- the parts of a good process
  pub held-good : (t : Tree) → IsGood a_term t → AreGood a_part (held t)
  held-good (node par ts) h = listed-good a_part ts h.1
  held-good (node _ ts) h = absurd h.1

  pub nil-good : IsGood a_term (leaf par)
  nil-good = (tt, tt)

  pub at-good : (i : ℕ) (ts : List Tree) → AreGood a_term ts → IsGood a_term (at i ts)
  at-good i [] h = nil-good
  at-good zero (t ∷ ts) h = h.0
  at-good (suc i) (t ∷ ts) h = at-good i ts h.1

  -- a row's members
  pub row-good : (t : Tree) → IsGood the_terms t → AreGood a_term (held t)
  row-good (node row ts) h = listed-good a_term ts h.1
  row-good (node _ ts) h = absurd h.1
