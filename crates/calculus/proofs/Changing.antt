-- Closed parts, or uses of other variables, in place of the uses of outer variables: the result is well formed.
use Rattle.std.proofs.Common.{◌≡◌, ℕ, ◌<◌, ◌≤◌, ◌+◌, ◌-◌, [], ◌++◌, length, sym, subst, arith, append_assoc, length-append}
use Rattle.std.specs.Prelude.{leb}
use Rattle.std.proofs.lemmas.Bool.{cond_both, leb-true, leb-false}
use Rattle.calculus.specs.Tree.{Label, var, name_var, receive, new, match, none, also}
use Rattle.calculus.specs.Shape.{leaf}
use Rattle.calculus.specs.Variables.{Sense, a_process, a_name}
use Rattle.calculus.specs.Substitution.{Change, changed}
use Rattle.calculus.specs.Form.{Sort, part, pat_part, name_part, all, Scope, HasVariable, outer, Fits, Hold}
use Rattle.calculus.proofs.Ranges.{in_scope}

-- the form of a use of a variable of this sense
abbrev pub form_of : Sense → ℕ → Label
form_of a_process = var
form_of a_name = name_var

-- a use of a variable in scope is a part
pub leaf_fits : (y : Scope) (i : ℕ) (s : Sense) → HasVariable y i s → Fits part y (leaf (form_of s i))
leaf_fits y i a_process h = (h, tt)
leaf_fits y i a_name h = (h, tt)

module _ (F : Change) where
  -- under d inner variables uses in the scope x become what is well formed in the scope y, and so further inside
  abbrev pub Good : ℕ → Scope → Scope → Type 0
  Good d x y =
      (o : Scope) (e i : ℕ) (s : Sense) → e ≡ length o + d → HasVariable (o ++ x) i s
      → (i < e → HasVariable (o ++ y) i s) × (e ≤ i → Hold (all part) (o ++ y) [] (F (i - e) e (form_of s)))

  pub deeper : (d n : ℕ) (x y q : Scope) → n ≡ length q → Good d x y → Good (d + n) (q ++ x) (q ++ y)
  deeper d n x y q a g o e i s b h =
      let r = g (o ++ q) e i s (omega (arith, length-append o q)) (subst (λ (z : Scope). HasVariable z i s) (sym (append_assoc o q x)) h) in (
        λ l. subst (λ (z : Scope). HasVariable z i s) (append_assoc o q y) (r.0 l),
        λ l. subst (λ (z : Scope). Hold (all part) z [] (F (i - e) e (form_of s))) (append_assoc o q y) (r.1 l),
      )

  -- what is closed stays as it is
  closed_good : (d : ℕ) → Good d [] []
  closed_good d o e i s b h = (λ l. h, λ l. absurd (omega (arith, in_scope (o ++ []) i s h, length-append {A = Sense} o [])))

  pub outer_good : (s : Sort) (l : Label) (d : ℕ) (x y : Scope) → Good d x y → Good d (outer s l x) (outer s l y)
  outer_good pat_part (receive k) d x y g = closed_good d
  outer_good pat_part (new os) d x y g = closed_good d
  outer_good pat_part match d x y g = closed_good d
  outer_good name_part (receive k) d x y g = closed_good d
  outer_good name_part (new os) d x y g = closed_good d
  outer_good name_part match d x y g = closed_good d
  outer_good s l d x y g = g

  -- a use of a variable
  pub variable_good : (d : ℕ) (x y : Scope) (i : ℕ) (s : Sense) → Good d x y → HasVariable x i s → Hold (all part) y [] (changed F d (form_of s) i)
  variable_good d x y i s g h =
      let r = g [] d i s (omega arith) h in
      cond_both (leb d i) (F (i - d) d (form_of s)) (also (leaf (form_of s i)) none) (λ ts. Hold (all part) y [] ts) (λ e. r.1 (leb-true d i e)) (λ e. (leaf_fits y i s (r.0 (leb-false d i e)), tt))
