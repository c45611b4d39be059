-- First broken rules, and refusals that name them.
use Rattle.std.proofs.Common.{◌≡◌, ℕ, List, [], ◌∷◌, ◌++◌, map, ap, sym, ◌∙◌, refl, append-nil, subst, ◌+◌, ◌<◌, drop, get_or, length, arith}
use Rattle.std.specs.Prelude.{Option, Some, None, Result, Ok, Err, OnOk}
use Rattle.std.proofs.lemmas.List.{drop_more}
use Rattle.scope.specs.Binding.{Scope}
use Rattle.calculus.specs.Written.{Written, writtens}
use Rattle.scope.specs.Rules.{Broken, Reading, past, how_many, breaks, all_breaks}
use Rattle.input_faults.specs.declared.fault.ScopeFault.{ScopeFault}
use Rattle.input_faults.specs.Walks.{Judges}
use Rattle.input_faults.specs.Faults.{StandsFirst, NamesFirst, IsRefusal, broken_rule}

stands-left : (b : Broken) (xs ys : List Broken) → StandsFirst b xs → StandsFirst b (xs ++ ys)
stands-left b [] ys h = elim h [ ]
stands-left b (x ∷ xs) ys h = h

names-left : (o : Option Broken) (xs ys : List Broken) → NamesFirst o xs → NamesFirst o (xs ++ ys)
names-left None xs ys h = h
names-left (Some b) xs ys h = stands-left b xs ys h

-- the first broken rule of the first is that of all
pub refusal-left : (e : ScopeFault) (xs ys : List Broken) → IsRefusal e xs → IsRefusal e (xs ++ ys)
refusal-left e xs ys h = record { first = names-left (broken_rule e) xs ys h.first }

-- where the first break none, it is that of the rest
pub refusal-right : (e : ScopeFault) (xs ys : List Broken) → xs ≡ [] → IsRefusal e ys → IsRefusal e (xs ++ ys)
refusal-right e xs ys n h = subst (λ z. IsRefusal e (z ++ ys)) (sym n) h

pub none-append : (xs ys : List Broken) → xs ≡ [] → ys ≡ [] → xs ++ ys ≡ []
none-append xs ys n m = ap (λ z. z ++ ys) n ∙ m

pub judges-right : {A : Type 0} (r : Result A ScopeFault) (xs ys : List Broken) → xs ≡ [] → Judges r ys → Judges r (xs ++ ys)
judges-right r xs ys n h = subst (λ z. Judges r (z ++ ys)) (sym n) h

pub judges-end : {A : Type 0} (r : Result A ScopeFault) (xs : List Broken) → Judges r xs → Judges r (xs ++ [])
judges-end r xs h = subst (Judges r) (sym (append-nil xs)) h

-- a refusal of the first of these rules is one of all
pub judges-left : {A : Type 0} (r s : Result A ScopeFault) (e : ScopeFault) (xs ys : List Broken) → r ≡ Err e → s ≡ Err e → Judges r xs → Judges s (xs ++ ys)
judges-left r s e xs ys p q h =
    let k : IsRefusal e xs = subst (λ z. Judges z xs) p h in
    subst (λ z. Judges z (xs ++ ys)) (sym q) (refusal-left e xs ys k)

-- a refusal at a turn of a loop over these
pub loop-refusal : {A : Type 0} (f : A → Written) (ps : List A) (i : ℕ) (d : A) (v : Scope) (r : Reading) (e : ScopeFault) (bs : List Broken) → i < length ps → d ≡ get_or ps i d → bs ≡ all_breaks (writtens (map f (drop i ps))) v r → IsRefusal e (breaks (f d) v r) → IsRefusal e bs
loop-refusal f ps i d v r e bs h g k n =
    let m : drop i ps ≡ d ∷ drop (i + 1) ps = drop_more ps i d h ∙ ap (λ z. z ∷ drop (i + 1) ps) (sym g) in
    let q : bs ≡ breaks (f d) v r ++ all_breaks (writtens (map f (drop (i + 1) ps))) v (past (f d) r) = k ∙ ap (λ z. all_breaks (writtens (map f z)) v r) m in
    subst (IsRefusal e) (sym q) (refusal-left e (breaks (f d) v r) (all_breaks (writtens (map f (drop (i + 1) ps))) v (past (f d) r)) n)

pub many-members : {A : Type 0} (f : A → Written) (ps : List A) → how_many (writtens (map f ps)) ≡ length ps
many-members f [] = refl
many-members f (p ∷ ps) = omega (arith, many-members f ps)

pub on-ok : {A E : Type 0} {P : Type 0} (r : Result A E) → P → OnOk r P
on-ok (Ok a) p = p
on-ok (Err e) p = tt
