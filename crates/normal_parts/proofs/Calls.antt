-- What calls of the walk come to.
use Rattle.std.proofs.Common.{◌≡◌, ℕ, ◌+◌, ◌-◌, ◌≤◌, length, reverse, arith, drop, List, [], ◌∷◌, ◌++◌, map, ap, sym, ◌∙◌, subst, All}
use Rattle.std.proofs.lemmas.List.{length-append}
use Rattle.std.proofs.Math.Seq.{drop-append_seam}
use Rattle.calculus.specs.Tree.{Label, Tree, par, row, pattern}
use Rattle.calculus.specs.Shape.{one, two, many, held, label_of}
use Rattle.calculus.specs.Written.{Written, closed, form_of_one}
use Rattle.calculus.specs.Bare.{Names, bare_in}
use Rattle.rho_term.specs.Normal.{IsOrdered}
use Rattle.rho_term.specs.Parts.{part_tree, pat_part_tree}
use Rattle.rho_term.specs.declared.term.Part.{Part}
use Rattle.rho_term.specs.declared.term.PatPart.{PatPart}
use Rattle.code_order.specs.Made.{reordered, made_process}
use Rattle.normal_parts.specs.InScope.{within}
use Rattle.normal_parts.specs.Made.{normal_in, parts_in, pattern_parts_in}
use Rattle.normal_parts.proofs.FromParts.{process-made, pattern-made, closed-made, pattern-ordered}
use Rattle.normal_parts.proofs.Flat.{parts-closed}

-- a term that is made of a process's parts
pub term-made : (ps : List Tree) (t : Written) (v : Names) → label_of (bare_in t v) ≡ par → ps ≡ parts_in t v → made_process ps ≡ normal_in t v
unfolding normal_in parts_in
term-made ps t v l e = ap made_process e ∙ process-made (bare_in t v) l

-- a pattern that is made of a pattern's parts
pub pat-made : (ps : List Tree) (t : Written) (v : Names) → label_of (bare_in t v) ≡ pattern → ps ≡ pattern_parts_in t v → many pattern ps ≡ normal_in t v
unfolding normal_in pattern_parts_in
pat-made ps t v l e = ap (many pattern) e ∙ pattern-made (bare_in t v) l

pub pat-ordered : (ps : List PatPart) (t : Written) (v : Names) → map pat_part_tree ps ≡ pattern_parts_in t v → All (λ p. IsOrdered (pat_part_tree p)) ps
unfolding pattern_parts_in
pat-ordered ps t v e = pattern-ordered ps (held (bare_in t v)) e

-- the parts of a closed form that were put in order
pub closed-parts : (ps : List Part) (t : Written) (v : Names) → map part_tree ps ≡ parts_in t v → map (λ p. reordered (part_tree p)) ps ≡ pattern_parts_in (form_of_one closed t) v
unfolding parts_in
closed-parts ps t v e = closed-made part_tree ps (held (bare_in t v)) e ∙ sym (parts-closed t v)

-- a process is the form that it is written as, and comes to the parts of that
pub of-form : {us ts : List Tree} {t u : Written} (v : Names) → t ≡ u → parts_in u v ≡ ts → us ≡ ts → us ≡ parts_in t v
of-form v w e k = k ∙ sym e ∙ ap (λ x. parts_in x v) (sym w)

-- the same of a pattern
pub of-pattern : {us ts : List Tree} {t u : Written} (v : Names) → t ≡ u → pattern_parts_in u v ≡ ts → us ≡ ts → us ≡ pattern_parts_in t v
of-pattern v w e k = k ∙ sym e ∙ ap (λ x. pattern_parts_in x v) (sym w)

-- equal constituents
pub many-same : (l : Label) {ts us : List Tree} → ts ≡ us → many l ts ∷ [] ≡ many l us ∷ []
many-same l e = ap (λ z. many l z ∷ []) e

pub row-same : {ts us : List Tree} → ts ≡ us → many row ts ≡ many row us
row-same e = ap (many row) e

pub one-same : (l : Label) {t u : Tree} → t ≡ u → one l t ∷ [] ≡ one l u ∷ []
one-same l e = ap (λ z. one l z ∷ []) e

pub two-same : (l : Label) {t u x y : Tree} → t ≡ u → x ≡ y → two l t x ∷ [] ≡ two l u y ∷ []
two-same l {u = u} {x = x} e k = ap (λ z. two l z x ∷ []) e ∙ ap (λ z. two l u z ∷ []) k

-- a scope in which more names were bound holds at least those that it held, and without the new ones is as it was
pub still-bound : (xs v b : Names) (n : ℕ) → n ≡ length v → b ≡ within xs v → n ≤ length b
still-bound xs v b n e h =
    let k : length (reverse xs ++ v) ≡ length (reverse xs) + length v = length-append (reverse xs) v in
    let j : length b ≡ length (reverse xs ++ v) = ap length h in
    omega (arith, k, j, e)

pub left-again : (xs v b : Names) (n : ℕ) → n ≡ length v → b ≡ within xs v → drop (length b - n) b ≡ v
left-again xs v b n e h =
    let k : length (reverse xs ++ v) ≡ length (reverse xs) + length v = length-append (reverse xs) v in
    let j : length (reverse xs ++ v) - n ≡ length (reverse xs) = omega (arith, k, e) in
    subst (λ z. drop (length z - n) z ≡ v) (sym h) (ap (λ m. drop m (reverse xs ++ v)) j ∙ drop-append_seam (reverse xs) v)
