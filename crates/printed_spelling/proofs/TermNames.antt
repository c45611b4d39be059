-- The names that patterns bind are numbered on from the pattern's next number.
use Rattle.std.proofs.Common.{◌≡◌, ℕ, zero, suc, ◌≤◌, ◌+◌, max, Bool, true, false, cond, List, [], ◌∷◌, ◌++◌, length, reverse, refl, sym, ap, ◌∙◌, arith, length-append}
use Rattle.std.specs.Prelude.{⊤, leb}
use Rattle.std.proofs.lemmas.List.{append-nil}
use Rattle.calculus.specs.Tree.{Label, set, dict, row, pair, bind, pattern, rest, tuple, any, some_process, some_name, same, both, either, not_this, receive, new, match, send, bundle, list_pattern, set_pattern, map_pattern, Tree, node, Trees, none, also}
use Rattle.calculus.specs.declared.plain.TermRest.TheVariants as rests
use Rattle.calculus.specs.Shape.{count, held, listed, label_of}
use Rattle.calculus.specs.Variables.{Sense, bound, bound_all, binders}
use Rattle.calculus.specs.Form.{Sort, term, part, a_bind, a_case, a_rest, pat, name_pat, pat_part, name_part, row_of, pair_of, Kids, all, these, no_form, pat_kids, name_kids, kids, Scope, outer, Fits, Hold}
use Rattle.calculus.specs.Bare.{names, all_names}
use Rattle.calculus.specs.Printed.{is_bare_name}
use Rattle.calculus.specs.Written.{Written, writtens}
use Rattle.calculus.proofs.Binding.{no_bound}
use Rattle.calculus.proofs.FromFits.{formed, fine}
use Rattle.calculus.proofs.Tails.{IsFine}
use Rattle.grammar.specs.Values.{patterns, par_of, quoted_of}
use Rattle.printed_spelling.specs.Spelled.{name_pattern, named, written_as, all_written}
use Rattle.printed_spelling.proofs.Numbered.{run, run-append}
use Rattle.printed_spelling.proofs.Silent.{silent_name}

-- the sorts of patterns and binds
abbrev pub Binds : Sort → Type 0
Binds pat = ⊤
Binds name_pat = ⊤
Binds pat_part = ⊤
Binds name_part = ⊤
Binds a_rest = ⊤
Binds a_bind = ⊤
Binds (row_of s) = Binds s
Binds (pair_of s) = Binds s
Binds _ = ⊥

abbrev EachBinds : List Sort → Type 0
EachBinds [] = ⊤
EachBinds (s ∷ ss) = Binds s × EachBinds ss

abbrev AllBind : Kids → Type 0
AllBind (all s) = Binds s
AllBind (these ss) = EachBinds ss
AllBind no_form = ⊤

names_par : (ws : List Written) → names (par_of patterns ws) ≡ all_names (writtens ws)
names_par [] = refl
names_par (w ∷ []) = sym (append-nil (names w))
names_par (w ∷ x ∷ ws) = refl

names_quoted : (hs : List Tree) (w : Written) → names (name_pattern hs w) ≡ names w
names_quoted [] w = append-nil (names w)
names_quoted (t ∷ []) w = elim (is_bare_name (label_of t)) as (λ (b : Bool). names (cond b w (quoted_of w)) ≡ names w) [ true ↦ refl | false ↦ append-nil (names w) ]
names_quoted (t ∷ u ∷ ts) w = append-nil (names w)

-- two lists of names, one after another
joined : (n : ℕ) (xs ys : List (List ℕ)) (us vs : List Sense) → xs ≡ run n (length us) → ys ≡ run (n + length us) (length vs) → xs ++ ys ≡ run n (length (us ++ vs))
joined n xs ys us vs e f = ap (λ zs. zs ++ ys) e ∙ ap (λ zs. run n (length us) ++ zs) f ∙ sym (run-append n (length us) (length vs)) ∙ ap (run n) (sym (length-append us vs))

-- the last one of a list
alone : (n m : ℕ) (xs : List (List ℕ)) (us : List Sense) → m ≡ n → xs ≡ run m (length us) → xs ++ [] ≡ run n (length (us ++ []))
alone n m xs us e f = append-nil xs ∙ f ∙ ap (λ k. run k (length us)) e ∙ ap (λ vs. run n (length vs)) (sym (append-nil us))

-- the names that these bind, where they are of one sort
abbrev NamesAll : Trees → Type 0
NamesAll ts = (s : Sort) (v : Scope) (o : List Sense) (b d n : ℕ) → Binds s → Hold (all s) v o ts → d ≤ n
    → all_names (writtens (all_written (all s) ts b d n)) ≡ run n (length (bound_all ts))

-- the names that these bind, where they are of these sorts in turn
abbrev NamesThese : Trees → Type 0
NamesThese ts = (ss : List Sort) (v : Scope) (d n : ℕ) → EachBinds ss → Hold (these ss) v [] ts → d ≤ n
    → all_names (writtens (all_written (these ss) ts 0 d n)) ≡ run n (length (bound_all ts))

names_either : (b : Bool) (v : Scope) (ts : Trees) (d n : ℕ) → NamesAll ts → Hold (cond b (all name_part) (all pat_part)) v [] ts → d ≤ n
    → all_names (writtens (all_written (cond b (all name_part) (all pat_part)) ts 0 d n)) ≡ run n (length (bound_all ts))
names_either true v ts d n x h k = x name_part v [] 0 d n tt h k
names_either false v ts d n x h k = x pat_part v [] 0 d n tt h k

names_kids : (p : Kids) (v : Scope) (ts : Trees) (d n : ℕ) → NamesAll ts → NamesThese ts → AllBind p → Hold p v [] ts → d ≤ n
    → all_names (writtens (all_written p ts 0 d n)) ≡ run n (length (bound_all ts))
names_kids (all s) v ts d n x y i h k = x s v [] 0 d n i h k
names_kids (these ss) v ts d n x y i h k = y ss v d n i h k
names_kids no_form v ts d n x y i h k = absurd h

names_part : (l : Label) (v : Scope) (ts : Trees) (d n : ℕ) → NamesAll ts → NamesThese ts → Hold (pat_kids l) (outer pat_part l v) (reverse (binders l ts)) ts → d ≤ n
    → names (written_as pat_part (node l ts) d n) ≡ run n (length (bound (node l ts)))
names_part some_process v none d n x y h k = refl
names_part some_process v (also t ts) d n x y h k = absurd h
names_part same v ts d n x y h k = refl
names_part (receive q) v ts d n x y h k = refl
names_part (new os) v ts d n x y h k = refl
names_part match v ts d n x y h k = refl
names_part both v ts d n x y h k = y (pat ∷ pat ∷ []) v d n (tt, (tt, tt)) h k
names_part either v ts d n x y h k = y (pat ∷ pat ∷ []) v d n (tt, (tt, tt)) h k
names_part not_this v ts d n x y h k = y (pat ∷ []) v d n (tt, tt) h k
names_part (bundle r) v ts d n x y h k = y (pat ∷ []) v d n (tt, tt) h k
names_part (send q) v ts d n x y h k = y (name_pat ∷ row_of pat ∷ []) v d n (tt, (tt, tt)) h k
names_part list_pattern v ts d n x y h k = y (row_of pat ∷ a_rest ∷ []) v d n (tt, (tt, tt)) h k
names_part set_pattern v ts d n x y h k = y (row_of pat ∷ a_rest ∷ []) v d n (tt, (tt, tt)) h k
names_part map_pattern v ts d n x y h k = y (row_of (pair_of pat) ∷ a_rest ∷ []) v d n (tt, (tt, tt)) h k
names_part tuple v ts d n x y h k = x pat v [] 0 d n tt h k
names_part some_name v ts d n x y h k = absurd h
names_part set v ts d n x y h k = absurd h
names_part dict v ts d n x y h k = absurd h
names_part (rest r) v ts d n x y h k = absurd h
names_part l v ts d n x y h k = names_kids (pat_kids l) v ts d n x y tt h k

mutual
  -- the names that a tree of such a sort binds
  pub names_of : (t : Tree) (s : Sort) (v : Scope) (d n : ℕ) → Binds s → Fits s v t → d ≤ n → names (written_as s t d n) ≡ run n (length (bound t))
  names_of (node pattern ts) pat v d n b h k = names_par (all_written (all pat_part) ts 0 d n) ∙ names_all ts pat_part v [] 0 d n tt h.1 k
  names_of (node _ ts) pat v d n b h k = absurd h.1
  names_of (node pattern ts) name_pat v d n b h k =
      names_quoted (listed ts) (par_of patterns (all_written (cond (leb (count ts) 1) (all name_part) (all pat_part)) ts 0 d n))
      ∙ names_par (all_written (cond (leb (count ts) 1) (all name_part) (all pat_part)) ts 0 d n) ∙ names_either (leb (count ts) 1) v ts d n (names_all ts) h.1 k
  names_of (node _ ts) name_pat v d n b h k = absurd h.1
  names_of (node row ts) (row_of s) v d n b h k = names_all ts s v [] 0 d n b h.1 k
  names_of (node _ ts) (row_of s) v d n b h k = absurd h.1
  names_of (node pair ts) (pair_of s) v d n b h k = names_these ts (s ∷ s ∷ []) v d n (b, (b, tt)) h.1 k
  names_of (node _ ts) (pair_of s) v d n b h k = absurd h.1
  names_of (node (rest rests.No) none) a_rest v d n b h k = refl
  names_of (node (rest rests.Wild) none) a_rest v d n b h k = refl
  names_of (node (rest rests.Var) none) a_rest v d n b h k = refl
  names_of (node (rest r) (also t ts)) a_rest v d n b h k = absurd h.1
  names_of (node _ ts) a_rest v d n b h k = absurd h.1
  names_of (node bind (also c (also r (also q none)))) a_bind v d n b h k =
      let e : bound c ≡ [] = no_bound IsFine term c tt (formed IsFine fine term v c h.1.0) in
      let m = n + length (bound c) in
      let f : m ≡ n = omega (arith, ap length e) in
      let x = names (written_as (row_of name_pat) r d m) in
      let y = names (written_as a_rest q (d + 0) (max (d + 0) (m + length (bound r)))) in
      let g : x ≡ run n (length (bound r)) = names_of r (row_of name_pat) v d m tt h.1.1.0 (omega arith) ∙ ap (λ j. run j (length (bound r))) f in
      let i : y ++ [] ≡ run (n + length (bound r)) (length (bound q ++ [])) =
      alone (n + length (bound r)) (max (d + 0) (m + length (bound r))) y (bound q) (omega arith) (names_of q a_rest v (d + 0) (max (d + 0) (m + length (bound r))) tt h.1.1.1.0 (omega arith)) in
      ap (λ z. z ++ (x ++ (y ++ []))) (silent_name c d n) ∙ joined n x (y ++ []) (bound r) (bound q ++ []) g i ∙ ap (λ us. run n (length (us ++ (bound r ++ (bound q ++ []))))) (sym e)
  names_of (node bind none) a_bind v d n b h k = absurd h.1
  names_of (node bind (also c none)) a_bind v d n b h k = absurd h.1.1
  names_of (node bind (also c (also r none))) a_bind v d n b h k = absurd h.1.1.1
  names_of (node bind (also c (also r (also q (also u us))))) a_bind v d n b h k = absurd h.1.1.1.1
  names_of (node _ ts) a_bind v d n b h k = absurd h.1
  names_of (node l ts) pat_part v d n b h k = names_part l v ts d n (names_all ts) (names_these ts) h.1 k
  names_of (node some_name none) name_part v d n b h k = refl
  names_of (node some_name (also t ts)) name_part v d n b h k = absurd h.1
  names_of (node l ts) name_part v d n b h k = names_part l v ts d n (names_all ts) (names_these ts) h.1 k
  names_of t term v d n b h k = absurd b
  names_of t part v d n b h k = absurd b
  names_of t a_case v d n b h k = absurd b

  names_all : (ts : Trees) (s : Sort) (v : Scope) (o : List Sense) (b d n : ℕ) → Binds s → Hold (all s) v o ts → d ≤ n
      → all_names (writtens (all_written (all s) ts b d n)) ≡ run n (length (bound_all ts))
  names_all none s v o b d n i h k = refl
  names_all (also t ts) s v o b d n i h k =
      joined n _ _ (bound t) (bound_all ts) (names_of t s v d n i h.0 k) (names_all ts s v o b d (n + length (bound t)) i h.1 (omega arith))

  names_these : (ts : Trees) (ss : List Sort) (v : Scope) (d n : ℕ) → EachBinds ss → Hold (these ss) v [] ts → d ≤ n
      → all_names (writtens (all_written (these ss) ts 0 d n)) ≡ run n (length (bound_all ts))
  names_these none [] v d n i h k = refl
  names_these none (s ∷ ss) v d n i h k = absurd h
  names_these (also t ts) [] v d n i h k = absurd h
  names_these (also t none) (s ∷ ss) v d n i h k =
      alone n (max (d + 0) n) _ (bound t) (omega arith) (names_of t s v (d + 0) (max (d + 0) n) i.0 h.0 (omega arith))
  names_these (also t (also u us)) (s ∷ ss) v d n i h k =
      joined n _ _ (bound t) (bound_all (also u us)) (names_of t s v d n i.0 h.0 k) (names_these (also u us) ss v d (n + length (bound t)) i.1 h.1 (omega arith))
