-- The names that a `new` declares, one after another.
use Rattle.std.proofs.Common.{◌≡◌, ℕ, zero, suc, ◌+◌, ◌<◌, ◌≤◌, List, [], ◌∷◌, ◌++◌, length, drop, get_or, refl, sym, ap, ◌∙◌, arith, append_assoc, append-nil, add-one, codes}
use Rattle.calculus.specs.declared.plain.Origin.{Origin}
use Rattle.calculus.specs.declared.plain.Origin.TheVariants as origins
use Rattle.calculus.specs.Printed.{separated, declared_texts, variable_text, uri_text}
use Rattle.printed_leaves.specs.Words.{before}
use Rattle.printed_leaves.specs.Texts.{separated_from}
use Rattle.printed_leaves.proofs.Lists.{separated_zero, none_left}

pub name_taken : (os : List Origin) (i : ℕ) → i < length os → drop i os ≡ get_or os i origins.Plain ∷ drop (suc i) os
name_taken [] i l = absurd (omega arith)
name_taken (p ∷ os) zero l = refl
name_taken (p ∷ os) (suc i) l = name_taken os i (omega arith)

pub names_start : (os : List Origin) (n : ℕ) (out : List ℕ) → out ++ separated_from 0 (codes ", ") (declared_texts n os) ≡ out ++ separated (codes ", ") (declared_texts n os)
names_start os n out = ap (λ (x : List ℕ). out ++ x) (separated_zero (codes ", ") (declared_texts n os))

pub name_more : (os : List Origin) (i n m : ℕ) (o : Origin) (out x y new whole : List ℕ) → drop i os ≡ o ∷ drop (suc i) os
    → x ≡ out ++ before i (codes ", ") → (y ≡ x ++ variable_text n) × (m ≡ n + 1) → new ≡ y ++ uri_text o
    → out ++ separated_from i (codes ", ") (declared_texts n (drop i os)) ≡ whole → new ++ separated_from (i + 1) (codes ", ") (declared_texts m (drop (i + 1) os)) ≡ whole
name_more os i n m o out x y new whole e p q r h =
    let mark = codes ", " in
    let more = separated_from (suc i) mark (declared_texts (suc n) (drop (suc i) os)) in
    let b = before i mark in
    let v = variable_text n in
    let u = uri_text o in
    let g : out ++ (b ++ ((v ++ u) ++ more)) ≡ whole = ap (λ (xs : List Origin). out ++ separated_from i mark (declared_texts n xs)) (sym e) ∙ h in
    let f : new ++ more ≡ out ++ (b ++ ((v ++ u) ++ more)) = rw (r, q.0, p) (simp append_assoc) in
    rw (q.1, add-one i, add-one n) (f ∙ g)

pub names_end : (os : List Origin) (i n : ℕ) (out whole : List ℕ) → length os ≤ i → out ++ separated_from i (codes ", ") (declared_texts n (drop i os)) ≡ whole → out ≡ whole
names_end os i n out whole l h = sym (append-nil out) ∙ ap (λ (xs : List Origin). out ++ separated_from i (codes ", ") (declared_texts n xs)) (sym (none_left os i l)) ∙ h
