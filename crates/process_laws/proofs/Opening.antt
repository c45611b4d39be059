-- What may be taken out of a built form is good where its constituents are.
use Rattle.std.proofs.Common.{◌≡◌, ℕ, ◌<◌, List, [], ◌∷◌, refl, subst, arith}
use Rattle.calculus.specs.Tree.{Label, par, row, pair, var, name_var, receive, new, match, case, Tree, node, Trees, none, also}
use Rattle.process_laws.proofs.Goodness.{Role, a_term, a_part, a_pair, the_terms, the_cases, a_case, the_binds, a_bind, a_pattern, Slots, each_is, these_are, any_kids, no_kids, part_slots, open_slots, IsGood, AreGoodKids}
use Rattle.process_laws.proofs.Building.{AreNoRoles, AreKids, IsBuiltNode, IsBuilt}

pub none-below : (i : ℕ) → i < 0 → ⊥
none-below i y = omega (arith, y)

module _ (L O : Tree → Type 0) (h : ℕ) (ih : (r : Role) (t : Tree) → IsBuilt L h r 0 t → IsGood O r t) where
  no-more : (rs : List Role) → AreNoRoles rs → AreGoodKids O (these_are rs) none
  no-more [] y = tt
  no-more (r ∷ rs) y = absurd y

  -- constituents of a form that binds nothing are good
  pub kids-good : (s : Slots) (n : ℕ) (ts : Trees) → n ≡ 0 → AreKids (IsBuilt L h) s 0 n ts → AreGoodKids O s ts
  kids-good (each_is r) n none e x = tt
  kids-good (each_is r) n (also t ts) e x = (ih r t x.0, kids-good (each_is r) n ts e x.1)
  kids-good (these_are []) n none e x = tt
  kids-good (these_are []) n (also t ts) e x = absurd x
  kids-good (these_are (r ∷ rs)) n none e x = absurd x
  kids-good (these_are (r ∷ rs)) n (also t none) e x = (ih r t (subst (λ (k : ℕ). IsBuilt L h r k t) (omega (arith, e)) x.0), no-more rs x.1)
  kids-good (these_are (r ∷ rs)) n (also t (also u us)) e x = (ih r t x.0, kids-good (these_are rs) n (also u us) e x.1)
  kids-good any_kids n ts e x = tt
  kids-good no_kids n ts e x = absurd x

  -- what of it may be taken out is good
  pub open-good : (r : Role) (l : Label) (ts : Trees) → IsBuiltNode (IsBuilt L h) r 0 (node l ts) → AreGoodKids O (open_slots r l) ts
  open-good a_part (receive k) ts x = tt
  open-good a_part (new os) ts x = tt
  open-good a_part match ts x = tt
  open-good a_part (var i) ts x = none-below i x.0
  open-good a_part (name_var i) ts x = none-below i x.0
  open-good a_part case ts x = absurd x
  open-good a_part l ts x = kids-good (part_slots l) 0 ts refl x
  open-good a_term par ts x = kids-good (each_is a_part) 0 ts refl x
  open-good a_term _ ts x = absurd x
  open-good a_pair pair ts x = kids-good (these_are (a_term ∷ a_term ∷ [])) 0 ts refl x
  open-good a_pair _ ts x = absurd x
  open-good the_terms row ts x = kids-good (each_is a_term) 0 ts refl x
  open-good the_terms _ ts x = absurd x
  open-good the_cases l ts x = tt
  open-good a_case l ts x = tt
  open-good the_binds l ts x = tt
  open-good a_bind l ts x = tt
  open-good (a_pattern k) l ts x = tt
