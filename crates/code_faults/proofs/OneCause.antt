-- At one place a code breaks by bytes that are wrong there or by a form that is too deep, and never by both.
use Rattle.std.proofs.Common.{◌≡◌, ℕ, ◌+◌, ◌-◌, ◌<◌, List, [], ◌∷◌, ◌++◌, length, take, refl, ap, sym, ◌∙◌, arith, append_assoc, append-nil, length-append, ⊎_elim}
use Rattle.std.specs.Prelude.{true, false, ⊤}
use Rattle.std.proofs.Math.Seq.{take-append_seam, take-append-add}
use Rattle.calculus.specs.Tree.{par, row, pair, bind, case, pattern, Tree, node, none, also}
use Rattle.calculus.specs.Bytes.{be32}
use Rattle.calculus.specs.Shape.{count, label_of}
use Rattle.calculus.specs.Size.{rise, height}
use Rattle.calculus.specs.Code.{code}
use Rattle.calculus.specs.CodeLaws.{IsShort}
use Rattle.calculus.specs.Form.{term, IsClosed}
use Rattle.calculus.specs.Formed.{IsFine}
use Rattle.calculus.proofs.Formed.{some-code}
use Rattle.calculus.proofs.FromFits.{formed, fine}
use Rattle.calculus.proofs.Prefixes.{cut, Splits-length}
use Rattle.calculus.proofs.Tails.{length-be32}
use Rattle.code_faults.specs.Places.{Slot, another, begins_form, Item, field, name_length, inner, spelled, spelling, items, these, form, nameless, Breaks, differs, misses, unnamed, falls, deep, within, past}
use Rattle.code_faults.specs.Blaming.{IsWrongAt, IsDeepAt, IsNamelessAt}
use Rattle.code_faults.specs.Laws.{OneCauseAtOnePlace}
use Rattle.code_faults.proofs.Spelling.{spelling-items}
use Rattle.code_faults.proofs.Heights.{Kid, Below, kid-first, below-items, below-past, form-first}
use Rattle.code_faults.proofs.Refuting.{Ascend, ascend-items, ascend-past, refuted, no-form}

kid-code : (high : ℕ) (slot : Slot) (t : Tree) → Kid slot high t → 0 < length (code t)
kid-code high slot t k = some-code IsFine k.sort t k.formed

-- a form that is too deep in a code stands before its end
before-end : {d : List ℕ} {n : ℕ} {is : List Item} {c : List ℕ} (high : ℕ) → Breaks (form d) n is c → Below high is → length c < length (spelling is)
before-end high (deep _ slot least t is f) b = omega (arith, kid-code high slot t (kid-first high slot least t is b), length-append (code t) (spelling is))
before-end high (within _ room slot least t is c l w h) b =
    let k = kid-first high slot least t is b in
    omega (arith, before-end (height t - rise (label_of t)) h (below-items k.sort t k.formed), ap length (spelling-items t), length-append (code t) (spelling is))
before-end high (past _ room i is c h) b = omega (arith, before-end high h (below-past high i is b), length-append (spelled i) c, length-append (spelled i) (spelling is))

-- what stands first is a field with bytes, or no part
Starts : List Item → Type 0
Starts [] = ⊤
Starts (field f ∷ is) = 0 < length f
Starts (name_length n ∷ is) = ⊤
Starts (inner slot least t ∷ is) = slot ≡ another

starts : (t : Tree) → Starts (items t)
unfolding Starts
starts (node par ts) = omega (arith, length-be32 (count ts))
starts (node row ts) = omega (arith, length-be32 (count ts))
starts (node pattern ts) = omega (arith, length-be32 (count ts))
starts (node pair none) = tt
starts (node pair (also t ts)) = refl
starts (node bind none) = tt
starts (node bind (also t ts)) = refl
starts (node case none) = tt
starts (node case (also t ts)) = refl
starts (node l ts) = omega arith

-- no form is too deep right at the beginning of another
not-first : {d : List ℕ} {n : ℕ} {is : List Item} {c : List ℕ} (high : ℕ) → Breaks (form d) n is c → Below high is → Starts is → length c ≡ 0 → ⊥
unfolding Starts
not-first high (deep d slot least t is f) b s e = (form-first slot d f).1 s
not-first high (within _ room slot least t is c l w h) b s e =
    let k = kid-first high slot least t is b in
    not-first (height t - rise (label_of t)) h (below-items k.sort t k.formed) (starts t) e
not-first high (past _ room (field f) is c h) b s e = omega (arith, s, e, length-append f c)
not-first high (past _ room (name_length m) is c h) b s e = omega (arith, e, length-be32 m, length-append (be32 m) c)
not-first high (past _ room (inner slot least t) is c h) b s e = omega (arith, e, kid-code high slot t (kid-first high slot least t is b), length-append (code t) c)

none-left : (b : List ℕ) → length b ≡ 0 → b ≡ []
none-left [] e = refl
none-left (x ∷ b) e = absurd (omega (arith, e))

-- with nothing before them the bytes are the same
same-left : (b c a d : List ℕ) → b ++ a ≡ c ++ d → length b ≡ 0 → length c ≡ 0 → a ≡ d
same-left b c a d q e f = ap (λ (z : List ℕ). z ++ a) (sym (none-left b e)) ∙ q ∙ ap (λ (z : List ℕ). z ++ d) (none-left c f)

-- bytes begin with the tag of a form, or do not
both-ways : (slot : Slot) (a d : List ℕ) → a ≡ d → begins_form slot a ≡ false → begins_form slot d ≡ true → ⊥
both-ways slot a d e f g = cc

-- in one code with the same bytes before the place
one-cause : {a d : List ℕ} {m n : ℕ} {is : List Item} {b c : List ℕ} (high : ℕ) → Breaks (these a) m is b → Breaks (form d) n is c → m ≡ n → Below high is → Ascend is → b ++ a ≡ c ++ d → length b ≡ length c → ⊥
one-cause {d = d} high (differs _ _ f is h) (past _ _ _ _ c k) r b o q l = h [] (c ++ d) (append-nil _ ∙ q ∙ append_assoc f c d)
one-cause {d = d} high (misses _ _ n is h z) (past _ _ _ _ c k) r b o q l = h [] (c ++ d) (append-nil _ ∙ q ∙ append_assoc (be32 n) c d)
one-cause {a = a} {d = d} high (falls _ _ slot least t is h w) (deep _ _ _ _ _ f) r b o q l = both-ways slot a d q (w r) f
one-cause high (falls _ _ slot least t is h w) (within _ _ _ _ _ _ c u v k) r b o q l =
    let g = kid-first high slot least t is b in
    not-first (height t - rise (label_of t)) k (below-items g.sort t g.formed) (starts t) (sym l)
one-cause high (falls _ _ slot least t is h w) (past _ _ _ _ c k) r b o q l =
    omega (arith, l, kid-code high slot t (kid-first high slot least t is b), length-append (code t) c)
one-cause {a = a} {d = d} high (within _ _ slot least t is e u w h) (deep _ _ _ _ _ f) r b o q l =
    both-ways slot a d (same-left e [] a d q l refl) (w l r) f
one-cause high (within _ _ slot least t is e u w h) (within _ _ _ _ _ _ c s v k) r b o q l =
    let g = kid-first high slot least t is b in
    one-cause (height t - rise (label_of t)) h k (ap (λ (z : ℕ). z - rise (label_of t)) r) (below-items g.sort t g.formed) (ascend-items t) q l
one-cause {a = a} {d = d} high (within _ _ slot least t is e u w h) (past _ _ _ _ c k) r b o q l =
    refuted h no-form (ascend-items t) [] (c ++ d) (ap (λ (z : List ℕ). e ++ z) (append-nil a) ∙ q ∙ append_assoc (code t) c d ∙ ap (λ (z : List ℕ). z ++ (c ++ d)) (sym (spelling-items t)))
one-cause high (past _ _ i is e h) (deep _ slot least t _ f) r b o q l =
    omega (arith, l, kid-code high slot t (kid-first high slot least t is b), length-append (code t) e)
one-cause high (past _ _ i is e h) (within _ _ slot least t _ c u v k) r b o q l =
    let g = kid-first high slot least t is b in
    omega (arith, l, before-end (height t - rise (label_of t)) k (below-items g.sort t g.formed), ap length (spelling-items t), length-append (code t) e)
one-cause {a = a} {d = d} high (past _ _ i is e h) (past _ _ _ _ c k) r b o q l =
    one-cause high h k r (below-past high i is b) (ascend-past i is o)
    ((cut (spelled i) (spelled i) (e ++ a) (c ++ d) (Splits-length (spelled i) (spelled i) refl) (sym (append_assoc (spelled i) e a) ∙ q ∙ append_assoc (spelled i) c d)).1)
    (omega (arith, l, length-append (spelled i) e, length-append (spelled i) c))

-- a name of no bytes stands where its length stands
record Zeros (after : List ℕ) : Type 0 where
  others : List ℕ
  are : after ≡ be32 0 ++ others

zeros : {after : List ℕ} {n : ℕ} {is : List Item} {before : List ℕ} → Breaks (nameless after) n is before → Zeros after
zeros (unnamed after others _ n is e h) = record { others = others; are = e }
zeros (within _ _ slot least t is c l w h) = zeros h
zeros (past _ _ i is c h) = zeros h

-- and no code goes on with that length
no-zeros : {after : List ℕ} {n : ℕ} {is : List Item} {before : List ℕ} → Breaks (nameless after) n is before → (x y : List ℕ) → before ++ (be32 0 ++ x) ≡ spelling is ++ y → ⊥
no-zeros (unnamed after others _ n is e h) x y q =
    let same = cut (be32 0) (be32 n) x (spelling is ++ y) (Splits-length (be32 0) (be32 n) (length-be32 0 ∙ sym (length-be32 n))) (q ∙ append_assoc (be32 n) (spelling is) y) in
    h [] others (append-nil after ∙ e ∙ ap (λ (z : List ℕ). z ++ others) same.0)
no-zeros (within _ _ slot least t is c l w h) x y q = no-zeros h x (spelling is ++ y) (q ∙ append_assoc (code t) (spelling is) y ∙ ap (λ (z : List ℕ). z ++ (spelling is ++ y)) (sym (spelling-items t)))
no-zeros (past _ _ i is c h) x y q = no-zeros h x y ((cut (spelled i) (spelled i) (c ++ (be32 0 ++ x)) (spelling is ++ y) (Splits-length (spelled i) (spelled i) refl) (sym (append_assoc (spelled i) c (be32 0 ++ x)) ∙ q ∙ append_assoc (spelled i) (spelling is) y)).1)

-- so no code begins with the bytes before the place that is blamed
nameless-first : (at : ℕ) (bs : List ℕ) → IsNamelessAt at bs → (t : Tree) → IsClosed t → IsShort t → (x : List ℕ) → take at bs ++ x ≡ code t → ⊥
nameless-first at bs h t r s x q =
    let front : List ℕ = take 4 h.after in
    let split : take at bs ≡ h.before ++ front = ap (λ (n : ℕ). take n bs) h.place ∙ ap (λ (z : List ℕ). take (length h.before + 4) z) h.are ∙ take-append-add h.before h.after 4 in
    let e : h.before ++ (front ++ x) ≡ code t ++ [] = sym (append_assoc h.before front x) ∙ ap (λ (z : List ℕ). z ++ x) (sym split) ∙ q ∙ sym (append-nil (code t)) in
    let b = h.nameless t r s (front ++ x) [] e in
    let z = zeros b in
    let four : front ≡ be32 0 = ap (λ (w : List ℕ). take 4 w) z.are ∙ ap (λ (n : ℕ). take n (be32 0 ++ z.others)) (sym (length-be32 0)) ∙ take-append_seam (be32 0) z.others in
    no-zeros b x [] (ap (λ (w : List ℕ). h.before ++ (w ++ x)) (sym four) ∙ e ∙ ap (λ (w : List ℕ). w ++ []) (sym (spelling-items t)))

-- bytes that are wrong at a place are not too deep there
wrong-not-deep : (at : ℕ) (bs : List ℕ) → IsWrongAt at bs → IsDeepAt at bs → (t : Tree) → IsClosed t → IsShort t → (x : List ℕ) → take at bs ++ x ≡ code t → ⊥
wrong-not-deep at bs h k t r s x q =
    let first : take at bs ≡ h.before = ap (λ (n : ℕ). take n bs) h.place ∙ ap (λ (z : List ℕ). take (length h.before) z) h.are ∙ take-append_seam h.before h.after in
    let second : take at bs ≡ k.before = ap (λ (n : ℕ). take n bs) k.place ∙ ap (λ (z : List ℕ). take (length k.before) z) k.are ∙ take-append_seam k.before k.after in
    let e : h.before ++ x ≡ code t ++ [] = ap (λ (z : List ℕ). z ++ x) (sym first) ∙ q ∙ sym (append-nil (code t)) in
    let g : k.before ++ x ≡ code t ++ [] = ap (λ (z : List ℕ). z ++ x) (sym second) ∙ q ∙ sym (append-nil (code t)) in
    let fits = below-items term t (formed IsFine fine term [] t r) in
    let high : ℕ = height t - rise (label_of t) in
    ⊎_elim
    (λ (b : Breaks (these h.after) 400 (items t) h.before). one-cause high b (k.deep t r s x [] g) refl fits (ascend-items t) (sym h.are ∙ k.are) (sym h.place ∙ k.place))
    (λ (p : (code t ≡ h.before) × (0 < length h.after)). omega (arith, before-end high (k.deep t r s x [] g) fits, ap length (spelling-items t), ap length p.0, h.place, k.place))
    (h.wrong t r s x [] e)

pub one_cause_at_one_place : OneCauseAtOnePlace
one_cause_at_one_place at bs h k t r s x q = ⊎_elim (λ (w : IsWrongAt at bs). wrong-not-deep at bs w k t r s x q) (λ (w : IsNamelessAt at bs). nameless-first at bs w t r s x q) h
