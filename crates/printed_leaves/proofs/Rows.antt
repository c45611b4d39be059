-- What lists of constituents print.
use Rattle.std.proofs.Common.{◌≡◌, ℕ, ◌+◌, Bool, true, false, cond, List, [], ◌∷◌, ◌++◌, length, map as each, zip, flat_map, refl, ap, ◌∙◌, arith}
use Rattle.calculus.specs.declared.plain.Kind.{Kind}
use Rattle.calculus.specs.Tree.{some_name, row, Tree, node, Trees, none, also, trees}
use Rattle.calculus.specs.Shape.{listed, many}
use Rattle.calculus.specs.Variables.{bound}
use Rattle.calculus.specs.Order.{IsAscending}
use Rattle.calculus.specs.Code.{codes as tree_codes}
use Rattle.calculus.specs.Form.{Sort, term, a_bind, a_case, pat, name_pat, pat_part, name_part, row_of, pair_of, all}
use Rattle.calculus.specs.Normal.{by_code, placed_by}
use Rattle.calculus.specs.Printed.{Printed, first_text, in_order_of, bind_texts}
use Rattle.calculus.specs.Printed.{printed, all_printed}
use Rattle.printed_leaves.specs.Texts.{text_of, texts_of, bind_text_of, binds_texts}

pub nothing_more : (d : ℕ) → d + 0 ≡ d
nothing_more d = omega arith

-- each tree of this sort prints one text
abbrev pub IsSingle : Sort → Type 0
IsSingle s = (t : Tree) (d n : ℕ) → printed s t d n ≡ text_of s t d n ∷ []

pub single_term : IsSingle term
single_term (node l ts) d n = refl

pub single_pair : (s : Sort) → IsSingle (pair_of s)
single_pair s (node l ts) d n = refl

pub single_case : IsSingle a_case
single_case (node l ts) d n = refl

pub single_pat : IsSingle pat
single_pat (node l ts) d n = refl

pub single_name_pat : IsSingle name_pat
single_name_pat (node l ts) d n = refl

flat_texts : (s : Sort) → IsSingle s → (ts : List Tree) (b d n : ℕ) → flat_map (λ x. x) (all_printed (all s) (trees ts) b d n) ≡ texts_of s ts d n
flat_texts s h [] b d n = refl
flat_texts s h (t ∷ ts) b d n =
    ap (λ (x : Printed). x ++ flat_map (λ y. y) (all_printed (all s) (trees ts) b d (n + length (bound t)))) (h t d n)
    ∙ ap (λ (xs : Printed). text_of s t d n ∷ xs) (flat_texts s h ts b d (n + length (bound t)))

-- a list prints the texts of its members
pub row_printed : (s : Sort) → IsSingle s → (ts : List Tree) (e d n : ℕ) → e ≡ d → printed (row_of s) (many row ts) e n ≡ texts_of s ts d n
row_printed s h ts e d n p = flat_texts s h ts 0 e n ∙ ap (λ (k : ℕ). texts_of s ts k n) p

pub each_first : (s : Sort) (ts : List Tree) (b d n : ℕ) → each first_text (all_printed (all s) (trees ts) b d n) ≡ texts_of s ts d n
each_first s [] b d n = refl
each_first s (t ∷ ts) b d n = ap (λ (xs : Printed). text_of s t d n ∷ xs) (each_first s ts b d (n + length (bound t)))

flat_binds : (k : Kind) (ts : List Tree) (b d n : ℕ) → bind_texts k (flat_map (λ x. x) (all_printed (all a_bind) (trees ts) b d n)) ≡ binds_texts k ts d n
flat_binds k [] b d n = refl
flat_binds k (node l us ∷ ts) b d n = ap (λ (xs : Printed). bind_text_of k (node l us) d n ∷ xs) (flat_binds k ts b d (n + length (bound (node l us))))

pub binds_printed : (k : Kind) (ts : List Tree) (d n : ℕ) → bind_texts k (printed (row_of a_bind) (many row ts) d n) ≡ binds_texts k ts d n
binds_printed k ts d n = flat_binds k ts 0 d n

-- things whose codes ascend are arranged already
in_order : {A : Type 0} (cs : List (List ℕ)) (xs : List A) → IsAscending cs → by_code (zip cs xs) ≡ zip cs xs
unfolding by_code placed_by
in_order [] xs h = refl
in_order (c ∷ cs) [] h = refl
in_order (c ∷ []) (x ∷ xs) h = refl
in_order (c ∷ d ∷ cs) (x ∷ []) h = refl
in_order (c ∷ d ∷ cs) (x ∷ y ∷ xs) h = rw (in_order (d ∷ cs) (y ∷ xs) h.1, h.0)

-- as many things as trees
abbrev Match : List (List ℕ) → List Printed → Type 0
Match [] [] = Unit {0}
Match (c ∷ cs) (x ∷ xs) = Match cs xs
Match _ _ = ⊥

matched : (s : Sort) (ts : List Tree) (b d n : ℕ) → Match (tree_codes (trees ts)) (all_printed (all s) (trees ts) b d n)
matched s [] b d n = tt
matched s (t ∷ ts) b d n = matched s ts b d (n + length (bound t))

seconds : (cs : List (List ℕ)) (xs : List Printed) → Match cs xs → each (λ p. p.1) (zip cs xs) ≡ xs
seconds [] [] h = refl
seconds [] (x ∷ xs) h = absurd h
seconds (c ∷ cs) [] h = absurd h
seconds (c ∷ cs) (x ∷ xs) h = ap (λ (ys : List Printed). x ∷ ys) (seconds cs xs h)

-- ascending trees print their texts as they stand
pub ordered_texts : (s : Sort) (ts : List Tree) (b d n : ℕ) → IsAscending (tree_codes (trees ts)) → in_order_of (trees ts) (all_printed (all s) (trees ts) b d n) ≡ texts_of s ts d n
ordered_texts s ts b d n h =
    let cs = tree_codes (trees ts) in
    let xs = all_printed (all s) (trees ts) b d n in
    ap (λ (zs : List (List ℕ × Printed)). each first_text (each (λ p. p.1) zs)) (in_order cs xs h)
    ∙ ap (λ (ys : List Printed). each first_text ys) (seconds cs xs (matched s ts b d n))
    ∙ each_first s ts b d n

-- a part of a pattern prints the same in a pattern of names
name_as_pat : (t : Tree) (d n : ℕ) → printed name_part t d n ≡ printed pat_part t d n
name_as_pat (node some_name ts) d n = refl
name_as_pat (node _ ts) d n = refl

first_names : (ts : List Tree) (b d n : ℕ) → each first_text (all_printed (all name_part) (trees ts) b d n) ≡ texts_of pat_part ts d n
first_names [] b d n = refl
first_names (t ∷ ts) b d n =
    ap (λ (x : Printed). first_text x ∷ each first_text (all_printed (all name_part) (trees ts) b d (n + length (bound t)))) (name_as_pat t d n)
    ∙ ap (λ (xs : Printed). text_of pat_part t d n ∷ xs) (first_names ts b d (n + length (bound t)))

pub first_either : (c : Bool) (ts : List Tree) (b d n : ℕ) → each first_text (all_printed (cond c (all name_part) (all pat_part)) (trees ts) b d n) ≡ texts_of pat_part ts d n
first_either true ts b d n = first_names ts b d n
first_either false ts b d n = each_first pat_part ts b d n

pub listed-trees : (ts : List Tree) → listed (trees ts) ≡ ts
listed-trees [] = refl
listed-trees (t ∷ ts) = ap (λ (us : List Tree). t ∷ us) (listed-trees ts)

pub trees-listed : (ts : Trees) → trees (listed ts) ≡ ts
trees-listed none = refl
trees-listed (also t ts) = ap (λ (us : Trees). also t us) (trees-listed ts)
