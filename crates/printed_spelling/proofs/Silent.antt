-- What processes spell binds no name outside them.
use Rattle.std.proofs.Common.{◌≡◌, ℕ, ◌+◌, Bool, true, false, cond, List, [], ◌∷◌, ◌++◌, map, length, refl, ◌∙◌}
use Rattle.std.specs.Prelude.{⊤, zip}
use Rattle.std.proofs.lemmas.List.{append-nil}
use Rattle.calculus.specs.Tree.{Label, par, fresh, name_var, receive, new, match, Tree, node, Trees, none, also}
use Rattle.calculus.specs.Shape.{count, held, listed}
use Rattle.calculus.specs.Variables.{binders}
use Rattle.calculus.specs.Order.{up_to}
use Rattle.calculus.specs.Code.{codes}
use Rattle.calculus.specs.Normal.{placed_by, by_code, arranged_by}
use Rattle.calculus.specs.Form.{term, part, Kids, all, these, kids}
use Rattle.calculus.specs.Bare.{names, all_names}
use Rattle.calculus.specs.Written.{Written, form, Writtens, writtens}
use Rattle.grammar.specs.Values.{processes, par_of}
use Rattle.printed_spelling.specs.Spelled.{named, in_order_of, written_as, all_written}
use Rattle.calculus.specs.Printed.{first_number}

-- each of these binds no name
abbrev Silent : List Written → Type 0
Silent [] = ⊤
Silent (w ∷ ws) = (names w ≡ []) × Silent ws

-- each of these does, beside its code
abbrev SilentBeside : List (List ℕ × Written) → Type 0
SilentBeside [] = ⊤
SilentBeside (x ∷ xs) = (names x.1 ≡ []) × SilentBeside xs

silent-placed : (x : List ℕ × Written) (xs : List (List ℕ × Written)) → names x.1 ≡ [] → SilentBeside xs → SilentBeside (placed_by x xs)
unfolding placed_by
silent-placed x [] h k = (h, tt)
silent-placed x (y ∷ ys) h k =
    elim (up_to x.0 y.0) as (λ (b : Bool). SilentBeside (cond b (x ∷ y ∷ ys) (y ∷ placed_by x ys))) [ true ↦ (h, k) | false ↦ (k.0, silent-placed x ys h k.1) ]

silent-sorted : (xs : List (List ℕ × Written)) → SilentBeside xs → SilentBeside (by_code xs)
unfolding by_code
silent-sorted [] h = tt
silent-sorted (x ∷ xs) h = silent-placed x (by_code xs) h.0 (silent-sorted xs h.1)

silent-zip : (cs : List (List ℕ)) (ws : List Written) → Silent ws → SilentBeside (zip cs ws)
silent-zip [] ws h = tt
silent-zip (c ∷ cs) [] h = tt
silent-zip (c ∷ cs) (w ∷ ws) h = (h.0, silent-zip cs ws h.1)

silent-things : (xs : List (List ℕ × Written)) → SilentBeside xs → Silent (map (λ p. p.1) xs)
silent-things [] h = tt
silent-things (x ∷ xs) h = (h.0, silent-things xs h.1)

silent-par : (ws : List Written) → Silent ws → names (par_of processes ws) ≡ []
silent-par [] h = refl
silent-par (w ∷ []) h = h.0
silent-par (w ∷ x ∷ ws) h = refl

silent-all : (ws : List Written) → Silent ws → all_names (writtens ws) ≡ []
silent-all [] h = refl
silent-all (w ∷ ws) h = rw (h.0, silent-all ws h.1)

silent-terms : (ts : Trees) (ws : List Written) → Silent ws → names (par_of processes (in_order_of ts ws)) ≡ []
silent-terms ts ws h = silent-par (in_order_of ts ws) (silent-things (by_code (zip (codes ts) ws)) (silent-sorted (zip (codes ts) ws) (silent-zip (codes ts) ws h)))

mutual
  -- a process binds no name
  pub silent_term : (t : Tree) (d n : ℕ) → names (written_as term t d n) ≡ []
  silent_term (node par ts) d n = silent-terms ts (all_written (all part) ts 0 d n) (silent_parts ts 0 d n)
  silent_term (node _ ts) d n = silent-terms ts [] tt

  silent_part : (t : Tree) (d n : ℕ) → names (written_as part t d n) ≡ []
  silent_part (node (new os) none) d n = refl
  silent_part (node (new os) (also t none)) d n = silent-all (written_as term t (d + length (binders (new os) (also t none))) _ ∷ []) (silent_term t _ _, tt)
  silent_part (node (new os) (also t (also u us))) d n = silent-all (written_as term t d d ∷ []) (silent_term t d d, tt)
  silent_part (node _ ts) d n = refl

  silent_parts : (ts : Trees) (b d n : ℕ) → Silent (all_written (all part) ts b d n)
  silent_parts none b d n = tt
  silent_parts (also t ts) b d n = (silent_part t d n, silent_parts ts b d _)

quoted-silent : (w : Written) → names w ≡ [] → names w ++ [] ≡ []
quoted-silent w h = append-nil (names w) ∙ h

-- a name binds no name
pub silent_name : (t : Tree) (d n : ℕ) → names (named (held t) (written_as term t d n)) ≡ []
unfolding placed_by by_code
silent_name (node l none) d n = quoted-silent (written_as term (node l none) d n) (silent_term (node l none) d n)
silent_name (node par (also (node (name_var i) us) none)) d n = refl
silent_name (node par (also (node (fresh x) us) none)) d n = refl
silent_name (node _ (also (node (name_var i) us) none)) d n = refl
silent_name (node _ (also (node (fresh x) us) none)) d n = refl
silent_name (node l (also (node m us) none)) d n = quoted-silent (written_as term (node l (also (node m us) none)) d n) (silent_term (node l (also (node m us) none)) d n)
silent_name (node l (also t (also u us))) d n = quoted-silent (written_as term (node l (also t (also u us))) d n) (silent_term (node l (also t (also u us))) d n)
