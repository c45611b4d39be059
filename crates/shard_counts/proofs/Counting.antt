-- Counts by key.
use Rattle.std.proofs.Common.{◌≡◌, ℕ, zero, suc, ◌+◌, ◌-◌, ◌<◌, Bool, true, false, cond, List, [], ◌∷◌, length, get_or, take, add-one, refl, sym, ap, ◌∙◌, subst, arith, Vec, Global}
use Rattle.std.specs.Prelude.{Some, None}
use Rattle.std.specs.Bool.{Decides}
use Rattle.std.specs.Int.{bit_at}
use Rattle.std.specs.Map.{lookup}
use Rattle.std.proofs.lemmas.Nat.Bits.{bit_at-zero}
use Rattle.std.proofs.lemmas.Map.Text.{is_eq-slice_cmp}
use Rattle.std.proofs.lemmas.Slice.Eq.{bytes_eq-Decides}
use Rattle.shard_counts.specs.Counts.{is_key, Entries, counts_in, count, adds, added}

pub is_key-Decides : (k q : List ℕ) → Decides (is_key k q) (k ≡ q)
is_key-Decides k q = rw is_eq-slice_cmp (bytes_eq-Decides k q)

-- a test of a key, from the other side
turned : (k q : List ℕ) → is_key k q ≡ false → is_key q k ≡ false
turned k q e = go (is_key q k) refl
  where
    no : false ≡ true → ⊥
    no z = cc z

    go : (b : Bool) → is_key q k ≡ b → is_key q k ≡ false
    go true i = absurd (no (sym e ∙ (is_key-Decides k q).1 (sym ((is_key-Decides q k).0 i))))
    go false i = i

-- what is made of the counts under one key, where the others stay
pub counts-change : (old new : Entries) (q : List ℕ) (bits : ℕ) (f : ℕ → ℕ → ℕ) → ((n : ℕ) → f n 0 ≡ n)
    → ((z : Vec ℕ Global) → is_key q z.items ≡ false → lookup (λ (y : Vec ℕ Global). is_key z.items y.items) new ≡ lookup (λ (y : Vec ℕ Global). is_key z.items y.items) old)
    → ((s : ℕ) → s < 64 → count new q s ≡ f (count old q s) (bit_at bits s)) → (k : Vec ℕ Global) (s : ℕ) → s < 64 → count new k.items s ≡ f (count old k.items s) (adds q bits k.items s)
counts-change old new q bits f plain others here k s lt = go (is_key k.items q) refl
  where
    go : (b : Bool) → is_key k.items q ≡ b → count new k.items s ≡ f (count old k.items s) (cond b (bit_at bits s) 0)
    go true i = let P : List ℕ → Type 0 = λ z. count new z s ≡ f (count old z s) (bit_at bits s) in subst P (sym ((is_key-Decides k.items q).0 i)) (here s lt)
    go false i = ap (λ o. get_or (counts_in o) s 0) (others k (turned k.items q i)) ∙ sym (plain (count old k.items s))

-- the counts under one key
pub here : (es : Entries) (q cs : List ℕ) → lookup (λ (y : Vec ℕ Global). is_key q y.items) es ≡ Some cs → (s : ℕ) → count es q s ≡ get_or cs s 0
here es q cs e s = ap (λ o. get_or (counts_in o) s 0) e

-- there are none
pub absent : (es : Entries) (q : List ℕ) → lookup (λ (y : Vec ℕ Global). is_key q y.items) es ≡ None → (s : ℕ) → count es q s ≡ 0
absent es q e s = ap (λ o. get_or (counts_in o) s 0) e

-- one more key
pub added-more : (ks : List (Vec ℕ Global)) (i : ℕ) (d : Vec ℕ Global) (bits : ℕ) (k : List ℕ) (s : ℕ) → i < length ks → added (take (i + 1) ks) bits k s ≡ added (take i ks) bits k s + adds (get_or ks i d).items bits k s
added-more ks i d bits k s lt = ap (λ n. added (take n ks) bits k s) (add-one i) ∙ go ks i lt
  where
    go : (ls : List (Vec ℕ Global)) (j : ℕ) → j < length ls → added (take (suc j) ls) bits k s ≡ added (take j ls) bits k s + adds (get_or ls j d).items bits k s
    go [] j h = absurd (omega arith)
    go (l ∷ ls) zero h = omega arith
    go (l ∷ ls) (suc j) h = let e = go ls j (omega arith) in omega (arith, e)

pub plus-more : (a b c x y z : ℕ) → c ≡ b + x → b ≡ a + y → z ≡ y + x → c ≡ a + z
plus-more a b c x y z e f g = omega (arith, e, f, g)

pub minus-more : (a b c x y z : ℕ) → c ≡ b - x → b ≡ a - y → z ≡ y + x → c ≡ a - z
minus-more a b c x y z e f g = omega (arith, e, f, g)

-- no bits add nothing
pub added-none : (ks : List (Vec ℕ Global)) (k : List ℕ) (s : ℕ) → added ks 0 k s ≡ 0
added-none [] k s = refl
added-none (q ∷ qs) k s = let a = one (is_key k q.items) in let b = added-none qs k s in omega (arith, a, b)
  where
    one : (b : Bool) → cond b (bit_at 0 s) 0 ≡ 0
    one true = bit_at-zero s
    one false = refl

pub plus-none : (a x : ℕ) → x ≡ 0 → a ≡ a + x
plus-none a x e = omega (arith, e)

pub minus-none : (a x : ℕ) → x ≡ 0 → a ≡ a - x
minus-none a x e = omega (arith, e)
