-- A loop that copies things one after another.
use Rattle.std.proofs.Common.{◌≡◌, ℕ, ◌+◌, ◌<◌, ◌≤◌, List, [], ◌∷◌, ◌++◌, map, drop, length, get_or, ap, sym, ◌∙◌, append_assoc}
use Rattle.calculus.specs.Shape.{two}
use Rattle.calculus.specs.Tree.{Label, Tree}
use Rattle.std.specs.Prelude.{Bool, false, Result, Ok, Err, IfOk}
use Rattle.std.specs.declared.alloc.AllocError.{AllocError}
use Rattle.std.proofs.lemmas.List.{append-nil, drop_all, drop_more, map-append}

-- a turn of a loop over things, of which each copy stands for the same
pub copied-step : {A B : Type 0} (f : A → B) (cs ds ps : List A) (i : ℕ) (c p : A) → i < length ps → p ≡ get_or ps i p → f c ≡ f p → ds ≡ cs ++ c ∷ [] → map f cs ++ map f (drop i ps) ≡ map f ps → map f ds ++ map f (drop (i + 1) ps) ≡ map f ps
copied-step f cs ds ps i c p h g k e n =
    let m : drop i ps ≡ p ∷ drop (i + 1) ps = drop_more ps i p h ∙ ap (λ z. z ∷ drop (i + 1) ps) (sym g) in
    ap (λ z. map f z ++ map f (drop (i + 1) ps)) e
    ∙ ap (λ z. z ++ map f (drop (i + 1) ps)) (map-append f cs (c ∷ []))
    ∙ append_assoc (map f cs) (f c ∷ []) (map f (drop (i + 1) ps))
    ∙ ap (λ z. map f cs ++ (z ∷ map f (drop (i + 1) ps))) k
    ∙ ap (λ z. map f cs ++ map f z) (sym m)
    ∙ n

-- a turn of a loop over things, of which each copy is the same
pub same-step : {A : Type 0} (cs ds ps : List A) (i : ℕ) (c p : A) → i < length ps → p ≡ get_or ps i p → c ≡ p → ds ≡ cs ++ c ∷ [] → cs ++ drop i ps ≡ ps → ds ++ drop (i + 1) ps ≡ ps
same-step cs ds ps i c p h g k e n =
    let m : drop i ps ≡ p ∷ drop (i + 1) ps = drop_more ps i p h ∙ ap (λ z. z ∷ drop (i + 1) ps) (sym g) in
    ap (λ z. z ++ drop (i + 1) ps) e
    ∙ append_assoc cs (c ∷ []) (drop (i + 1) ps)
    ∙ ap (λ z. cs ++ (z ∷ drop (i + 1) ps)) k
    ∙ ap (λ z. cs ++ z) (sym m)
    ∙ n

-- the end of such a loop
pub copied-end : {A B : Type 0} (f : A → B) (cs ps : List A) (i : ℕ) → length ps ≤ i → map f cs ++ map f (drop i ps) ≡ map f ps → map f cs ≡ map f ps
copied-end f cs ps i h e = sym (append-nil (map f cs)) ∙ ap (λ z. map f cs ++ map f z) (sym (drop_all i ps h)) ∙ e

pub same-end : {A : Type 0} (cs ps : List A) (i : ℕ) → length ps ≤ i → cs ++ drop i ps ≡ ps → cs ≡ ps
same-end cs ps i h e = sym (append-nil cs) ∙ ap (λ z. cs ++ z) (sym (drop_all i ps h)) ∙ e

-- what was made, if it is a copy, is one of what was copied
pub made-copy : {T S : Type 0} (b o : Bool) (f : T → S) (x : T) (y : S) (res : Result T AllocError) → IfOk res (λ v. (b ≡ false) × (v ≡ x))
    → (b ≡ false → (o ≡ false) × (f x ≡ y)) → IfOk res (λ v. f v ≡ y)
made-copy b o f x y (Ok v) p q = ap f p.1 ∙ (q p.0).1
made-copy b o f x y (Err e) p q = tt

-- two constituents that are the same
pub two-same : (l : Label) (t u v w : Tree) → t ≡ v → u ≡ w → two l t u ≡ two l v w
two-same l t u v w a b = ap (λ x. two l x u) a ∙ ap (two l v) b
