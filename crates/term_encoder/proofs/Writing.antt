-- One write after another.
use Rattle.std.proofs.Common.{◌≡◌, ℕ, ◌+◌, ◌<◌, ◌≤◌, true, false, List, [], ◌∷◌, ◌++◌, map, take, length, get_or, sym, ap, subst, ◌∙◌, append_assoc}
use Rattle.std.proofs.lemmas.Bool.{false≢true}
use Rattle.std.proofs.lemmas.List.{append-nil, take_all, take_more}
use Rattle.std.specs.Prelude.{Result, Ok, Err, IfOk}
use Rattle.std.specs.declared.alloc.AllocError.{AllocError}
use Rattle.std.specs.declared.alloc.Global.{Global}
use Rattle.std.specs.declared.vec.Vec.{Vec}
use Rattle.calculus.specs.Bytes.{be32, joined}
use Rattle.calculus.specs.Code.{code, codes}
use Rattle.calculus.specs.Order.{IsAscending}
use Rattle.calculus.specs.Shape.{count, many}
use Rattle.calculus.specs.Tree.{Tree, row, par, trees}
use Rattle.calculus.proofs.ListCodes.{count-trees, length-map, sorted-ascending}
use Rattle.term_encoder.specs.Writing.{Writes}
use Rattle.term_encoder.specs.declared.encoder.Encoder.{Encoder}

-- what was written, as other words have it
pub wrote : {a b : Encoder} {x y : List ℕ} → Writes a b x → x ≡ y → Writes a b y
wrote {a = a} {b = b} p e = subst (λ z. Writes a b z) e p

-- nothing was written once memory was wanting
pub wrote_none : {a : Encoder} (x : List ℕ) → a.failed ≡ true → Writes a a x
wrote_none x e = record { written = λ h. absurd (false≢true (sym h ∙ e)) }

-- one write and then another
pub wrote_both : {a b c : Encoder} {x y : List ℕ} → Writes a b x → Writes b c y → Writes a c (x ++ y)
wrote_both {a = a} {x = x} {y = y} p q = record {
  written = λ h.
      let k = q.written h in
      let n = p.written k.0 in
      (n.0, k.1 ∙ ap (λ z. z ++ y) n.1 ∙ append_assoc a.bytes.items x y);
}

-- a form of no constituents, of one and of two, after its head
pub wrote_leaf : {a b : Encoder} {x : List ℕ} → Writes a b x → Writes a b (x ++ [])
wrote_leaf {x = x} p = wrote p (sym (append-nil x))

pub wrote_one : {a b c : Encoder} {x y : List ℕ} → Writes a b x → Writes b c y → Writes a c (x ++ (y ++ []))
wrote_one p q = wrote_both p (wrote_leaf q)

pub wrote_two : {a b c d : Encoder} {x y z : List ℕ} → Writes a b x → Writes b c y → Writes c d z → Writes a d (x ++ (y ++ (z ++ [])))
wrote_two p q r = wrote_both p (wrote_one q r)

-- the codes of these trees, in turn
abbrev pub all_codes : List Tree → List ℕ
all_codes ts = joined (codes (trees ts))

-- those of one more tree
all_codes-push : {A : Type 0} (f : A → Tree) (xs : List A) (x : A) → all_codes (map f (xs ++ x ∷ [])) ≡ all_codes (map f xs) ++ code (f x)
all_codes-push f [] x = append-nil (code (f x))
all_codes-push f (y ∷ ys) x = ap (λ z. code (f y) ++ z) (all_codes-push f ys x) ∙ sym (append_assoc (code (f y)) (all_codes (map f ys)) (code (f x)))

-- a turn of a loop over things that stand for trees
pub wrote_next : {A : Type 0} (f : A → Tree) {o a b : Encoder} (xs ys : List A) (i : ℕ) (x : A) → ys ≡ xs → i < length ys → x ≡ get_or ys i x
    → Writes o a (all_codes (map f (take i xs))) → Writes a b (code (f x)) → Writes o b (all_codes (map f (take (i + 1) xs)))
wrote_next f xs ys i x v h e p q =
    let h' : i < length xs = subst (λ zs. i < length zs) v h in
    let e' : x ≡ get_or xs i x = e ∙ ap (λ zs. get_or zs i x) v in
    wrote (wrote_both p q)
    (sym (all_codes-push f (take i xs) x)
    ∙ ap (λ z. all_codes (map f (take i xs ++ z ∷ []))) e'
    ∙ ap (λ zs. all_codes (map f zs)) (sym (take_more xs i x h')))

-- the end of such a loop, which began with the number of these things
pub wrote_row : {A : Type 0} (f : A → Tree) {o a b : Encoder} (xs ys : List A) (i n : ℕ) → ys ≡ xs → length ys ≤ i → n ≡ length xs
    → Writes o a (be32 n) → Writes a b (all_codes (map f (take i xs))) → Writes o b (code (many row (map f xs)))
wrote_row f xs ys i n v h e p q =
    let h' : length xs ≤ i = subst (λ zs. length zs ≤ i) v h in
    wrote (wrote_both p q)
    (ap (λ zs. be32 n ++ all_codes (map f zs)) (take_all i xs h')
    ∙ ap (λ m. be32 m ++ all_codes (map f xs)) (e ∙ sym (length-map f xs) ∙ sym (count-trees (map f xs))))

-- a row of trees that ascend in their codes is as one of trees without an order
pub row-bag : (ts : List Tree) → IsAscending (codes (trees ts)) → code (many row ts) ≡ code (many par ts)
row-bag ts up = ap (λ cs. be32 (count (trees ts)) ++ joined cs) (sym (sorted-ascending (codes (trees ts)) up))

-- what an encoder gives that began with nothing
pub wrote_code : {a b : Encoder} {x : List ℕ} (result : Result (Vec ℕ Global) AllocError) → a.bytes.items ≡ [] → Writes a b x
    → IfOk result (λ v. (b.failed ≡ false) × (v ≡ b.bytes)) → IfOk result (λ v. v.items ≡ x)
wrote_code {x = x} (Ok v) e p q = ap (λ w. w.items) q.1 ∙ (p.written q.0).1 ∙ ap (λ z. z ++ x) e
wrote_code (Err f) e p q = tt
