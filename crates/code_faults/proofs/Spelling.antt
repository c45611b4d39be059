-- The fields and constituents of a code, one after another, are the code.
use Rattle.std.proofs.Common.{◌≡◌, ℕ, ◌^◌, cond, List, [], ◌∷◌, ◌++◌, map, length, refl, ap, sym, ◌∙◌, append_assoc, append-nil}
use Rattle.std.specs.Prelude.{Bool, true, false, pos, ◌+ℤ◌, nat_abs}
use Rattle.calculus.specs.Tree.{Label, par, row, int, str, uri, bytes, fresh, var, name_var, list, tuple, set, dict, new, method, pattern, Tree, node, Trees, none, also}
use Rattle.calculus.specs.Kinds.{origin_number}
use Rattle.calculus.specs.declared.plain.Origin.{Origin}
use Rattle.calculus.specs.Bytes.{be32, be64, joined}
use Rattle.calculus.specs.Shape.{count}
use Rattle.calculus.specs.Order.{up_to, placed, sorted}
use Rattle.calculus.specs.Congruence.{is_bag}
use Rattle.calculus.specs.Code.{text, head, arranged, code, codes}
use Rattle.code_faults.specs.Places.{text_fields, fields, Slot, slot_of, Item, field, own_items, spelling, put, by_code, standing, constituents, items}

single-bytes : (os : List Origin) → joined (map (λ (o : Origin). origin_number o ∷ []) os) ≡ map origin_number os
single-bytes [] = refl
single-bytes (o ∷ os) = ap (λ (z : List ℕ). origin_number o ∷ z) (single-bytes os)

after-tag : (k : ℕ) {a b : List ℕ} → a ≡ b → k ∷ a ≡ k ∷ b
after-tag k p = ap (λ (z : List ℕ). k ∷ z) p

texts : (k : ℕ) (s : List ℕ) → joined ((k ∷ []) ∷ text_fields s) ≡ k ∷ text s
texts k s = after-tag k (ap (λ (z : List ℕ). be32 (length s) ++ z) (append-nil s))

fields-head : (l : Label) (n : ℕ) → joined (fields l n) ≡ head l n
fields-head par n = append-nil (be32 n)
fields-head row n = append-nil (be32 n)
fields-head (int x) n = after-tag 0x11 (append-nil (be64 (nat_abs (x +ℤ pos (2 ^ 63)))))
fields-head (str x) n = texts 0x12 x
fields-head (uri x) n = texts 0x13 x
fields-head (bytes x) n = texts 0x14 x
fields-head (fresh x) n = after-tag 0x15 (append-nil x)
fields-head (var x) n = after-tag 0x16 (append-nil (be32 x))
fields-head (name_var x) n = after-tag 0x17 (append-nil (be32 x))
fields-head list n = after-tag 0x20 (append-nil (be32 n))
fields-head tuple n = after-tag 0x21 (append-nil (be32 n))
fields-head set n = after-tag 0x22 (append-nil (be32 n))
fields-head dict n = after-tag 0x23 (append-nil (be32 n))
fields-head (new x) n = after-tag 0x32 (ap (λ (z : List ℕ). be32 (length x) ++ z) (single-bytes x))
fields-head (method x) n = texts 0x42 x
fields-head pattern n = append-nil (be32 n)
fields-head _ n = refl

spelled-fields : (fs : List (List ℕ)) (is : List Item) → spelling (map field fs ++ is) ≡ joined fs ++ spelling is
spelled-fields [] is = refl
spelled-fields (f ∷ fs) is = ap (λ (z : List ℕ). f ++ z) (spelled-fields fs is) ∙ sym (append_assoc f (joined fs) (spelling is))

spelled-constituents : (slot : Slot) (b : Bool) (least : List ℕ) (us : List Tree) → spelling (constituents slot b least us) ≡ joined (map code us)
spelled-constituents slot b least [] = refl
spelled-constituents slot b least (u ∷ us) = ap (λ (z : List ℕ). code u ++ z) (spelled-constituents slot b (cond b (code u) []) us)

put-one : (t u : Tree) (us vs : List Tree) (cs : List (List ℕ)) (b : Bool) → map code vs ≡ cs → map code (cond b (t ∷ u ∷ us) (u ∷ vs)) ≡ cond b (code t ∷ code u ∷ map code us) (code u ∷ cs)
put-one t u us vs cs true p = refl
put-one t u us vs cs false p = ap (λ (z : List (List ℕ)). code u ∷ z) p

put-placed : (t : Tree) (us : List Tree) → map code (put t us) ≡ placed (code t) (map code us)
unfolding put placed
put-placed t [] = refl
put-placed t (u ∷ us) = put-one t u us (put t us) (placed (code t) (map code us)) (up_to (code t) (code u)) (put-placed t us)

-- constituents stand as their codes do
pub standing-codes : (b : Bool) (ts : Trees) → map code (standing b ts) ≡ arranged b (codes ts)
unfolding by_code sorted
standing-codes true none = refl
standing-codes true (also t ts) = put-placed t (by_code ts) ∙ ap (λ (cs : List (List ℕ)). placed (code t) cs) (standing-codes true ts)
standing-codes false none = refl
standing-codes false (also t ts) = ap (λ (cs : List (List ℕ)). code t ∷ cs) (standing-codes false ts)

spelled-own : (l : Label) (n : ℕ) (is : List Item) → spelling (own_items l n ++ is) ≡ head l n ++ spelling is
spelled-own (method x) n is = after-tag 0x42 (sym (append_assoc (be32 (length x)) x (spelling is)))
spelled-own l n is = spelled-fields (fields l n) is ∙ ap (λ (z : List ℕ). z ++ spelling is) (fields-head l n)

pub spelling-items : (t : Tree) → spelling (items t) ≡ code t
spelling-items (node l ts) =
    let cs = constituents (slot_of l) (is_bag l) [] (standing (is_bag l) ts) in
    spelled-own l (count ts) cs
    ∙ ap (λ (z : List ℕ). head l (count ts) ++ z) (spelled-constituents (slot_of l) (is_bag l) [] (standing (is_bag l) ts) ∙ ap joined (standing-codes (is_bag l) ts))
