-- What is wrong at a place is no code, and no prefix of one.
use Rattle.std.proofs.Common.{◌≡◌, ℕ, ◌<◌, List, [], ◌∷◌, ◌++◌, map, length, take, refl, ap, sym, ◌∙◌, subst, arith, append_assoc, append-nil, length-append, ⊎_elim}
use Rattle.std.specs.Prelude.{Bool, true, false, ⊤}
use Rattle.std.specs.Ordering.{is_le, nat_cmp}
use Rattle.std.specs.declared.cmp.Ordering.TheVariants.{Less, Equal}
use Rattle.std.proofs.Math.Seq.{take-append_seam}
use Rattle.calculus.specs.Tree.{Label, method, Tree, node, Trees}
use Rattle.calculus.specs.Bytes.{be32}
use Rattle.calculus.specs.Shape.{count, listed}
use Rattle.calculus.specs.Order.{byte_cmp, up_to, IsAscending, IsBelowFirst}
use Rattle.calculus.specs.Congruence.{is_bag}
use Rattle.calculus.specs.Code.{code, codes}
use Rattle.calculus.proofs.Prefixes.{cut, Splits-length}
use Rattle.code_faults.specs.Places.{Slot, slot_of, Item, field, name_length, inner, own_items, spelled, spelling, fields, by_code, standing, constituents, items, Stop, these, form, nameless, bytes_of, Breaks, differs, misses, unnamed, falls, deep, within, past}
use Rattle.code_faults.specs.Laws.{WrongBytesAreNoCode, NamelessBytesAreNoCode, WrongAtOnePlace}
use Rattle.code_faults.proofs.TextRefusals.{more}
use Rattle.code_faults.proofs.Spelling.{standing-codes, spelling-items}
use Rattle.code_faults.proofs.Going.{sorted-ascends}
use Rattle.code_faults.proofs.Blaming.{lowest}
use Rattle.code_faults.proofs.Reaching.{less_or_equal, then_less, then_equal}

-- no constituent falls below the least that it may be
abbrev pub Ascend : List Item → Type 0
Ascend [] = ⊤
Ascend (field f ∷ is) = Ascend is
Ascend (name_length n ∷ is) = Ascend is
Ascend (inner slot least t ∷ is) = (up_to least (code t) ≡ true) × Ascend is

ascend-fields : (fs : List (List ℕ)) (is : List Item) → Ascend is → Ascend (map field fs ++ is)
ascend-fields [] is h = h
ascend-fields (f ∷ fs) is h = ascend-fields fs is h

ascend-listed : (slot : Slot) (us : List Tree) → Ascend (constituents slot false [] us)
ascend-listed slot [] = tt
ascend-listed slot (u ∷ us) = (lowest (code u), ascend-listed slot us)

ascend-bag : (slot : Slot) (least : List ℕ) (us : List Tree) → IsBelowFirst least (map code us) → IsAscending (map code us) → Ascend (constituents slot true least us)
ascend-bag slot least [] p h = tt
ascend-bag slot least (u ∷ us) p h = (p, ascend-bag slot (code u) us h.0 h.1)

below-all : (cs : List (List ℕ)) → IsBelowFirst [] cs
below-all [] = tt
below-all (c ∷ cs) = lowest c

ascend-standing : (slot : Slot) (bag : Bool) (ts : Trees) → Ascend (constituents slot bag [] (standing bag ts))
ascend-standing slot true ts = ascend-bag slot [] (by_code ts) (below-all (map code (by_code ts))) (subst IsAscending (sym (standing-codes true ts)) (sorted-ascends (codes ts)))
ascend-standing slot false ts = ascend-listed slot (listed ts)

ascend-own : (l : Label) (n : ℕ) (is : List Item) → Ascend is → Ascend (own_items l n ++ is)
ascend-own (method x) n is h = h
ascend-own l n is h = ascend-fields (fields l n) is h

pub ascend-items : (t : Tree) → Ascend (items t)
ascend-items (node l ts) = ascend-own l (count ts) (constituents (slot_of l) (is_bag l) [] (standing (is_bag l) ts)) (ascend-standing (slot_of l) (is_bag l) ts)

-- what is no less than others is so with more bytes behind
up-longer : (a c z : List ℕ) → up_to a c ≡ true → up_to a (c ++ z) ≡ true
up-longer [] c z h = lowest (c ++ z)
up-longer (x ∷ a) [] z h = absurd (cc)
up-longer (x ∷ a) (y ∷ c) z h = ⊎_elim
    (λ (p : nat_cmp x y ≡ Less). then_less (nat_cmp x y) (byte_cmp a (c ++ z)) p)
    (λ (p : (nat_cmp x y ≡ Equal) × (is_le (byte_cmp a c) ≡ true)). then_equal (nat_cmp x y) (byte_cmp a (c ++ z)) p.0 (up-longer a c z p.1))
    (less_or_equal (nat_cmp x y) (byte_cmp a c) h)

pub ascend-past : (i : Item) (is : List Item) → Ascend (i ∷ is) → Ascend is
ascend-past (field f) is h = h
ascend-past (name_length n) is h = h
ascend-past (inner slot least t) is h = h.1

-- bytes that are wrong at a place in a code do not begin with it
pub refuted : {stop : Stop} {room : ℕ} {is : List Item} {before : List ℕ} → Breaks stop room is before → ((after : List ℕ) → stop ≡ form after → ⊥) → Ascend is → (x y : List ℕ) → before ++ (bytes_of stop ++ x) ≡ spelling is ++ y → ⊥
refuted (deep after slot least t is h) s a x y q = s after refl
refuted (misses after room n is h z) s a x y q = h x (spelling is ++ y) (q ∙ append_assoc (be32 n) (spelling is) y)
refuted (unnamed after others room n is e h) s a x y q = h x (spelling is ++ y) (q ∙ append_assoc (be32 n) (spelling is) y)
refuted (differs _ room f is h) s a x y q = h x (spelling is ++ y) (q ∙ append_assoc f (spelling is) y)
refuted (falls _ room slot least t is h n) s a x y q = h x (subst (λ (z : List ℕ). up_to least z ≡ true) (sym (q ∙ append_assoc (code t) (spelling is) y)) (up-longer least (code t) (spelling is ++ y) a.0))
refuted (within _ room slot least t is before r n h) s a x y q = refuted h s (ascend-items t) x (spelling is ++ y) (q ∙ append_assoc (code t) (spelling is) y ∙ ap (λ (z : List ℕ). z ++ (spelling is ++ y)) (sym (spelling-items t)))
refuted {stop = stop} (past _ room i is before h) s a x y q = refuted h s (ascend-past i is a) x y ((cut (spelled i) (spelled i) (before ++ (bytes_of stop ++ x)) (spelling is ++ y) (Splits-length (spelled i) (spelled i) refl) (sym (append_assoc (spelled i) before (bytes_of stop ++ x)) ∙ q ∙ append_assoc (spelled i) (spelling is) y)).1)

pub no-form : {a : List ℕ} (after : List ℕ) → these a ≡ form after → ⊥
no-form after e = cc

no-deep : {a : List ℕ} (after : List ℕ) → nameless a ≡ form after → ⊥
no-deep after e = cc

-- in one code bytes are wrong at one place
pub one-place : {a d : List ℕ} {m n : ℕ} {is : List Item} {b c : List ℕ} → Breaks (these a) m is b → Breaks (these d) n is c → Ascend is → b ++ a ≡ c ++ d → length b < length c → ⊥
one-place (differs _ _ f is h) (differs _ _ _ _ k) o q l = absurd (omega arith)
one-place {d = d} (differs _ _ f is h) (past _ _ _ _ c k) o q l = h [] (c ++ d) (append-nil _ ∙ q ∙ append_assoc f c d)
one-place (misses _ _ n is h z) (misses _ _ _ _ k w) o q l = absurd (omega arith)
one-place {d = d} (misses _ _ n is h z) (past _ _ _ _ c k) o q l = h [] (c ++ d) (append-nil _ ∙ q ∙ append_assoc (be32 n) c d)
one-place (falls _ _ slot least t is h w) (falls _ _ _ _ _ _ k u) o q l = absurd (omega arith)
one-place (falls _ _ slot least t is h w) (within _ _ _ _ _ _ c r u k) o q l =
    let z = r.reaches l in
    h z.more (subst (λ (x : List ℕ). up_to least (x ++ z.more) ≡ true) (sym q) z.up)
one-place {d = d} (falls _ _ slot least t is h w) (past _ _ _ _ c k) o q l = h [] (subst (λ (z : List ℕ). up_to least z ≡ true) (sym (append-nil _ ∙ q ∙ append_assoc (code t) c d)) (up-longer least (code t) (c ++ d) o.0))
one-place (within _ _ slot least t is b r w h) (falls _ _ _ _ _ _ k u) o q l = absurd (omega arith)
one-place (within _ _ slot least t is b r w h) (within _ _ _ _ _ _ c s u k) o q l = one-place h k (ascend-items t) q l
one-place {a = a} {d = d} (within _ _ slot least t is b r w h) (past _ _ _ _ c k) o q l = refuted h no-form (ascend-items t) [] (c ++ d) (ap (λ (z : List ℕ). b ++ z) (append-nil a) ∙ q ∙ append_assoc (code t) c d ∙ ap (λ (z : List ℕ). z ++ (c ++ d)) (sym (spelling-items t)))
one-place (past _ _ i is b h) (differs _ _ _ _ k) o q l = absurd (omega arith)
one-place (past _ _ i is b h) (misses _ _ _ _ k w) o q l = absurd (omega arith)
one-place (past _ _ i is b h) (falls _ _ _ _ _ _ k u) o q l = absurd (omega arith)
one-place {a = a} {d = d} (past _ _ i is b h) (within _ _ slot least t _ c r u k) o q l = refuted k no-form (ascend-items t) [] (b ++ a) (ap (λ (z : List ℕ). c ++ z) (append-nil d) ∙ sym q ∙ append_assoc (code t) b a ∙ ap (λ (z : List ℕ). z ++ (b ++ a)) (sym (spelling-items t)))
one-place {a = a} {d = d} (past _ _ i is b h) (past _ _ _ _ c k) o q l =
    one-place h k (ascend-past i is o) ((cut (spelled i) (spelled i) (b ++ a) (c ++ d) (Splits-length (spelled i) (spelled i) refl) (sym (append_assoc (spelled i) b a) ∙ q ∙ append_assoc (spelled i) c d)).1)
    (omega (arith, l, length-append (spelled i) b, length-append (spelled i) c))

pub wrong_bytes_are_no_code : WrongBytesAreNoCode
wrong_bytes_are_no_code at bs h t r s x q =
    let e : h.before ++ (h.after ++ x) ≡ code t ++ [] = sym (append_assoc h.before h.after x) ∙ ap (λ (z : List ℕ). z ++ x) (sym h.are) ∙ q ∙ sym (append-nil (code t)) in
    ⊎_elim (λ (b : Breaks (these h.after) 400 (items t) h.before). refuted b no-form (ascend-items t) x [] (e ∙ ap (λ (z : List ℕ). z ++ []) (sym (spelling-items t))))
    (λ (p : (code t ≡ h.before) × (0 < length h.after)). absurd (omega (arith, p.1, ap length e, ap length p.0, length-append h.before (h.after ++ x), length-append h.after x, length-append (code t) [])))
    (h.wrong t r s (h.after ++ x) [] e)

pub wrong_at_one_place : WrongAtOnePlace
wrong_at_one_place i j bs h k l t r s x q =
    let seam : take j bs ≡ k.before = ap (λ (n : ℕ). take n bs) k.place ∙ ap (λ (z : List ℕ). take (length k.before) z) k.are ∙ take-append_seam k.before k.after in
    let c : k.before ++ x ≡ code t ++ [] = ap (λ (z : List ℕ). z ++ x) (sym seam) ∙ q ∙ sym (append-nil (code t)) in
    let less : length h.before < length k.before = omega (arith, l, h.place, k.place) in
    let same : h.before ++ h.after ≡ k.before ++ k.after = sym h.are ∙ k.are in
    let m = more h.before k.before h.after k.after (omega (arith, less)) same in
    let e : h.before ++ (m.more ++ x) ≡ code t ++ [] = sym (append_assoc h.before m.more x) ∙ ap (λ (z : List ℕ). z ++ x) (sym m.is) ∙ c in
    ⊎_elim
    (λ (b : Breaks (these h.after) 400 (items t) h.before). ⊎_elim
    (λ (d : Breaks (these k.after) 400 (items t) k.before). one-place b d (ascend-items t) same less)
    (λ (p : (code t ≡ k.before) × (0 < length k.after)). refuted b no-form (ascend-items t) [] k.after (ap (λ (z : List ℕ). h.before ++ z) (append-nil h.after) ∙ same ∙ ap (λ (z : List ℕ). z ++ k.after) (sym p.0 ∙ sym (spelling-items t))))
    (k.wrong t r s x [] c))
    (λ (p : (code t ≡ h.before) × (0 < length h.after)). absurd (omega (arith, less, ap length c, ap length p.0, length-append k.before x, length-append (code t) [])))
    (h.wrong t r s (m.more ++ x) [] e)

pub nameless_bytes_are_no_code : NamelessBytesAreNoCode
nameless_bytes_are_no_code at bs h t r s x q =
    let e : h.before ++ (h.after ++ x) ≡ code t ++ [] = sym (append_assoc h.before h.after x) ∙ ap (λ (z : List ℕ). z ++ x) (sym h.are) ∙ q ∙ sym (append-nil (code t)) in
    refuted (h.nameless t r s (h.after ++ x) [] e) no-deep (ascend-items t) x [] (e ∙ ap (λ (z : List ℕ). z ++ []) (sym (spelling-items t)))
