-- Codes of the rows of a key, one row after another and in another order.
use Rattle.std.proofs.Common.{◌≡◌, ℕ, zero, suc, ◌<◌, ◌+◌, Bool, true, false, cond, List, [], ◌∷◌, ◌++◌, length, map as each, take, drop, get_or, refl, ap, sym, ◌∙◌, subst, arith, append-nil, inl, inr}
use Rattle.std.specs.Prelude.{◌⊎◌, ◌≢◌, IsPermutation, All}
use Rattle.std.specs.Str.{bytes_eq}
use Rattle.std.proofs.Math.Seq.{drop-cons, take-length}
use Rattle.std.proofs.lemmas.List.{take_more}
use Rattle.std.proofs.lemmas.List.Elements.{All-head, All-tail, All-cons}
use Rattle.calculus.specs.Exchanges.{Exchanges, nothing, under, neighbours, then}
use Rattle.calculus.proofs.Permutations.{exchanges, keep, join, unmoved, exchange, moved_so, moved-nothing}
use Rattle.calculus.specs.Order.{sorted, up_to, IsAscending, IsBelowFirst}
use Rattle.calculus.specs.Rows.{Row, row_code}
use Rattle.calculus.specs.Root.{key}
use Rattle.calculus.specs.Steps.{differ, is_one_of}
use Rattle.calculus.proofs.Ordered.{up_to_total, up_to_both, up_to_trans}
use Rattle.events.proofs.Groups.{same, equal, sorted-moved}
use Rattle.calculus.proofs.ListCodes.{sorted-ascending, length-map}
use Rattle.radix_root.specs.Leaves.{group_digest, codes_at, groups_of}
use Rattle.radix_root.specs.Groups.{given, digest_after}
use Rattle.radix_root.specs.declared.group.Group.{Group}
use Rattle.checkpoint.specs.declared.keyed.KeyedRow.{KeyedRow}
use Rattle.checkpoint.specs.declared.groups.Groups.{Groups}
use Rattle.checkpoint.specs.Groups.{row_of, keys_in, AreApart, Give, Holds, IsKeyed}
use Rattle.checkpoint.proofs.Apart.{one-push, differ-push, append-some}

pub sorted-none : sorted [] ≡ []
unfolding sorted
sorted-none = refl

pub map-push : {A B : Type 0} (f : A → B) (xs : List A) (x : A) → each f (xs ++ x ∷ []) ≡ each f xs ++ f x ∷ []
map-push f [] x = refl
map-push f (y ∷ ys) x = ap (λ zs. f y ∷ zs) (map-push f ys x)

pub codes-push : (rows : List Row) (r : Row) (k : List ℕ) → codes_at (rows ++ r ∷ []) k ≡ codes_at rows k ++ cond (bytes_eq k (key r)) (row_code r ∷ []) []
codes-push [] r k = refl
codes-push (q ∷ qs) r k = go (bytes_eq k (key q)) (codes-push qs r k)
  where
    go : (b : Bool) → codes_at (qs ++ r ∷ []) k ≡ codes_at qs k ++ cond (bytes_eq k (key r)) (row_code r ∷ []) []
        → cond b (row_code q ∷ codes_at (qs ++ r ∷ []) k) (codes_at (qs ++ r ∷ []) k) ≡ cond b (row_code q ∷ codes_at qs k) (codes_at qs k) ++ cond (bytes_eq k (key r)) (row_code r ∷ []) []
    go true e = ap (λ cs. row_code q ∷ cs) e
    go false e = e

-- no row of another key comes
pub codes-other : (rows : List Row) (r : Row) (k : List ℕ) → bytes_eq k (key r) ≡ false → codes_at (rows ++ r ∷ []) k ≡ codes_at rows k
codes-other rows r k e = codes-push rows r k ∙ ap (λ b. codes_at rows k ++ cond b (row_code r ∷ []) []) e ∙ append-nil (codes_at rows k)

pub codes-same : (rows : List Row) (r : Row) (k : List ℕ) → key r ≡ k → codes_at (rows ++ r ∷ []) k ≡ codes_at rows k ++ row_code r ∷ []
codes-same rows r k e = codes-push rows r k ∙ ap (λ b. codes_at rows k ++ cond b (row_code r ∷ []) []) (equal k (key r) (sym e))

-- one more row of the group that is not closed
pub open-push : (gs : List Group) (k0 : List ℕ) (rows : List Row) (r : Row) → key r ≡ k0
    → Give gs (λ k. cond (bytes_eq k k0) [] (groups_of rows k)) → Give gs (λ k. cond (bytes_eq k k0) [] (groups_of (rows ++ r ∷ []) k))
open-push gs k0 rows r e h k = go (bytes_eq k k0) refl (h k)
  where
    go : (b : Bool) → bytes_eq k k0 ≡ b → digest_after gs [] k ≡ group_digest k (cond b [] (groups_of rows k)) → digest_after gs [] k ≡ group_digest k (cond b [] (groups_of (rows ++ r ∷ []) k))
    go true q g = g
    go false q g = g ∙ ap (λ cs. group_digest k (sorted cs)) (sym (codes-other rows r k (ap (bytes_eq k) e ∙ q)))

-- the groups of all rows, beside a group that has none
pub open-new : (gs : List Group) (k0 : List ℕ) (rows : List Row) → codes_at rows k0 ≡ [] → Give gs (groups_of rows) → Give gs (λ k. cond (bytes_eq k k0) [] (groups_of rows k))
open-new gs k0 rows n h k = go (bytes_eq k k0) refl
  where
    go : (b : Bool) → bytes_eq k k0 ≡ b → digest_after gs [] k ≡ group_digest k (cond b [] (groups_of rows k))
    go true q = h k ∙ ap (group_digest k) (ap (λ l. sorted (codes_at rows l)) (same k k0 q) ∙ ap sorted n ∙ sorted-none)
    go false q = h k

after-push : (gs : List Group) (g : Group) (v k : List ℕ) → digest_after (gs ++ g ∷ []) v k ≡ cond (bytes_eq k g.key.0) (given g.digest) (digest_after gs v k)
after-push [] g v k = refl
after-push (h ∷ gs) g v k = after-push gs g (cond (bytes_eq k h.key.0) (given h.digest) v) k

-- the last group is closed
pub closed : (gs after : List Group) (g : Group) (k0 : List ℕ) (rows : List Row) (before cs : List (List ℕ)) → after ≡ gs ++ g ∷ [] → g.key.0 ≡ k0 → given g.digest ≡ group_digest k0 cs
    → before ≡ codes_at rows k0 → IsPermutation before cs → IsAscending cs → Give gs (λ k. cond (bytes_eq k k0) [] (groups_of rows k)) → Give after (groups_of rows)
closed gs after g k0 rows before cs pushed own is e p up h k =
    ap (λ xs. digest_after xs [] k) pushed ∙ after-push gs g [] k ∙ ap (λ l. cond (bytes_eq k l) (given g.digest) (digest_after gs [] k)) own ∙ go (bytes_eq k k0) refl (h k)
  where
    whole : cs ≡ sorted (codes_at rows k0)
    whole = sym (sorted-ascending cs up) ∙ sym (sorted-moved p) ∙ ap sorted e

    go : (b : Bool) → bytes_eq k k0 ≡ b → digest_after gs [] k ≡ group_digest k (cond b [] (groups_of rows k)) → cond b (given g.digest) (digest_after gs [] k) ≡ group_digest k (groups_of rows k)
    go true q m =
        let z : k0 ≡ k = sym (same k k0 q) in
        is ∙ ap (λ l. group_digest l cs) z ∙ ap (group_digest k) (whole ∙ ap (λ l. sorted (codes_at rows l)) z)
    go false q m = m

pair-moved : (k : List ℕ) (b d : Bool) (x y : List ℕ) (zs : List (List ℕ)) → IsPermutation (cond b (x ∷ cond d (y ∷ zs) zs) (cond d (y ∷ zs) zs)) (cond d (y ∷ cond b (x ∷ zs) zs) (cond b (x ∷ zs) zs))
pair-moved k true true x y zs = exchange x y zs
pair-moved k true false x y zs = unmoved (x ∷ zs)
pair-moved k false true x y zs = unmoved (y ∷ zs)
pair-moved k false false x y zs = unmoved zs

-- rows in another order have the same codes of each key, in another order
pub codes-moved : {rows others : List Row} (k : List ℕ) → IsPermutation rows others → IsPermutation (codes_at rows k) (codes_at others k)
codes-moved k p = go (exchanges p)
  where
    more : (b : Bool) (x : List ℕ) {xs ys : List (List ℕ)} → IsPermutation xs ys → IsPermutation (cond b (x ∷ xs) xs) (cond b (x ∷ ys) ys)
    more true x m = keep x m
    more false x m = m

    go : {rows others : List Row} → Exchanges rows others → IsPermutation (codes_at rows k) (codes_at others k)
    go nothing = unmoved []
    go (under r e) = more (bytes_eq k (key r)) (row_code r) (go e)
    go (neighbours r q zs) = pair-moved k (bytes_eq k (key r)) (bytes_eq k (key q)) (row_code r) (row_code q) (codes_at zs k)
    go (then e f) = join (go e) (go f)

-- groups that have rows have them in any order
pub apart-moved : {rows others : List Row} (gs : List Group) → IsPermutation rows others → AreApart gs others → AreApart gs rows
apart-moved {rows} {others} gs p h = record { once = h.once; some = λ k m e. h.some k m (moved-nothing (moved_so (codes-moved k p)) e) }

-- and the same groups
pub groups-moved : {rows others : List Row} (gs : List Group) → IsPermutation rows others → Give gs (groups_of others) → Give gs (groups_of rows)
groups-moved gs p h k = h k ∙ ap (group_digest k) (sym (sorted-moved (codes-moved k p)))

pub up_to-self : (x : List ℕ) → up_to x x ≡ true
up_to-self x = go (up_to x x) refl
  where
    go : (b : Bool) → up_to x x ≡ b → b ≡ true
    go true e = refl
    go false e = sym e ∙ up_to_total x x e

-- each key that has rows is no greater than this
abbrev pub IsAtLeast : List ℕ → List Row → Type 0
IsAtLeast low rows = (k : List ℕ) → (codes_at rows k ≡ []) ⊎ (up_to k low ≡ true)

pub at-least-push : (low : List ℕ) (rows : List Row) (r : Row) → IsAtLeast low rows → ((k : List ℕ) → codes_at rows k ≡ []) ⊎ (up_to low (key r) ≡ true) → IsAtLeast (key r) (rows ++ r ∷ [])
at-least-push low rows r h u k = go (bytes_eq k (key r)) refl
  where
    old : ((k : List ℕ) → codes_at rows k ≡ []) ⊎ (up_to low (key r) ≡ true) → (codes_at rows k ≡ []) ⊎ (up_to k low ≡ true) → (codes_at rows k ≡ []) ⊎ (up_to k (key r) ≡ true)
    old (inl n) g = inl (n k)
    old (inr l) (inl n) = inl n
    old (inr l) (inr g) = inr (up_to_trans k low (key r) g l)

    next : (bytes_eq k (key r) ≡ false) → (codes_at rows k ≡ []) ⊎ (up_to k (key r) ≡ true) → (codes_at (rows ++ r ∷ []) k ≡ []) ⊎ (up_to k (key r) ≡ true)
    next q (inl n) = inl (codes-other rows r k q ∙ n)
    next q (inr g) = inr g

    go : (b : Bool) → bytes_eq k (key r) ≡ b → (codes_at (rows ++ r ∷ []) k ≡ []) ⊎ (up_to k (key r) ≡ true)
    go true q = inr (subst (λ z. up_to k z ≡ true) (same k (key r) q) (up_to-self k))
    go false q = next q (old u (h k))

-- a key that is no less than the last one is that, or has no rows
pub fresh-or-last : (low x : List ℕ) (rows : List Row) → IsAtLeast low rows → ((k : List ℕ) → codes_at rows k ≡ []) ⊎ (up_to low x ≡ true) → (x ≡ low) ⊎ (codes_at rows x ≡ [])
fresh-or-last low x rows h (inl n) = inr (n x)
fresh-or-last low x rows h (inr l) = go (h x)
  where
    go : (codes_at rows x ≡ []) ⊎ (up_to x low ≡ true) → (x ≡ low) ⊎ (codes_at rows x ≡ [])
    go (inl n) = inr n
    go (inr g) = inl (up_to_both x low g l)

-- the codes of the last group with that of one more row
pub codes-added : {V : Type 0} (code : V → List ℕ) (old new : List V) (v : V) (rows : List Row) (r : Row) (k0 : List ℕ)
    → new ≡ old ++ v ∷ [] → code v ≡ row_code r → each code old ≡ codes_at rows k0 → key r ≡ k0 → each code new ≡ codes_at (rows ++ r ∷ []) k0
codes-added code old new v rows r k0 e f g h = ap (each code) e ∙ map-push code old v ∙ ap (λ cs. cs ++ code v ∷ []) g ∙ ap (λ c. codes_at rows k0 ++ c ∷ []) f ∙ sym (codes-same rows r k0 h)

-- one more row of these groups or of others
pub apart-more : (gs : List Group) (rows : List Row) (r : Row) → AreApart gs rows → AreApart gs (rows ++ r ∷ [])
apart-more gs rows r h = record {
  once = h.once;
  some = λ k m e. append-some (codes_at rows k) (cond (bytes_eq k (key r)) (row_code r ∷ []) []) (h.some k m) (sym (codes-push rows r k) ∙ e);
}

-- the last group is closed, which has rows
pub apart-closed : (gs after : List Group) (g : Group) (k0 : List ℕ) (rows : List Row) → after ≡ gs ++ g ∷ [] → g.key.0 ≡ k0 → codes_at rows k0 ≢ [] → is_one_of k0 (keys_in gs) ≡ false → AreApart gs rows → AreApart after rows
apart-closed gs after g k0 rows pushed own some new h = record {
  once = ap differ whole ∙ differ-push (keys_in gs) k0 h.once new;
  some = λ k m. go k (one-push k k0 (keys_in gs) (sym (ap (is_one_of k) whole) ∙ m));
}
  where
    whole : keys_in after ≡ keys_in gs ++ k0 ∷ []
    whole = ap keys_in pushed ∙ map-push (λ (x : Group). x.key.0) gs g ∙ ap (λ (k : List ℕ). keys_in gs ++ k ∷ []) own

    go : (k : List ℕ) → (is_one_of k (keys_in gs) ≡ true) ⊎ (k ≡ k0) → codes_at rows k ≢ []
    go k (inl m) = h.some k m
    go k (inr e) = λ f. some (sym (ap (codes_at rows) e) ∙ f)

-- no group is closed, and the last one has no rows
pub closed-nothing : (gs : List Group) (k0 : List ℕ) (rows : List Row) → codes_at rows k0 ≡ [] → Give gs (λ k. cond (bytes_eq k k0) [] (groups_of rows k)) → Give gs (groups_of rows)
closed-nothing gs k0 rows n h k = go (bytes_eq k k0) refl (h k)
  where
    go : (b : Bool) → bytes_eq k k0 ≡ b → digest_after gs [] k ≡ group_digest k (cond b [] (groups_of rows k)) → digest_after gs [] k ≡ group_digest k (groups_of rows k)
    go true q m = m ∙ ap (group_digest k) (sym (ap (λ l. sorted (codes_at rows l)) (same k k0 q) ∙ ap sorted n ∙ sorted-none))
    go false q m = m

none-apart : (gs : List Group) → gs ≡ [] → AreApart gs []
none-apart [] e = record { once = refl; some = λ k m. absurd (cc m) }
none-apart (g ∷ gs) e = absurd (cc e)

-- nothing was added
pub none-held : (gs : Groups) → gs.closed.items ≡ [] → gs.codes.items ≡ [] → Holds gs []
none-held gs e f = record {
  codes = ap (each (λ c. c.now)) f;
  closed = λ k. ap (λ xs. digest_after xs [] k) e ∙ ap (group_digest k) (go k (bytes_eq k gs.key.0));
  apart = none-apart gs.closed.items e;
  last = ap (λ xs. is_one_of gs.key.0 (keys_in xs)) e;
}
  where
    go : (k : List ℕ) (b : Bool) → [] ≡ cond b [] (groups_of [] k)
    go k true = refl
    go k false = sym sorted-none

-- keyed rows were added and others are left, which stand in the order of their keys
pub record Going (gs : Groups) (done todo : List KeyedRow) : Type 0 where
  pub holds : Holds gs (each row_of done)
  pub least : IsAtLeast gs.key.0 (each row_of done)
  pub next : ((k : List ℕ) → codes_at (each row_of done) k ≡ []) ⊎ IsBelowFirst gs.key.0 (each (λ k. k.key.now.0) todo)
  pub rest : IsAscending (each (λ k. k.key.now.0) todo)
  pub keyed : All IsKeyed todo

-- the next one is added
pub go-on : (gs hs : Groups) (done todo : List KeyedRow) (x : KeyedRow) → Going gs done (x ∷ todo) → hs.key.0 ≡ x.key.now.0
    → ((rows : List Row) → Holds gs rows → (x.key.now.0 ≡ gs.key.0) ⊎ (codes_at rows x.key.now.0 ≡ []) → Holds hs (rows ++ row_of x ∷ [])) → Going hs (done ++ x ∷ []) todo
go-on gs hs done todo x g e add = record {
  holds = subst (Holds hs) rows (add (each row_of done) g.holds (fresh-or-last gs.key.0 x.key.now.0 (each row_of done) g.least g.next));
  least = subst (λ l. IsAtLeast l (each row_of (done ++ x ∷ []))) (sym (e ∙ own)) (subst (IsAtLeast (key (row_of x))) rows
      (at-least-push gs.key.0 (each row_of done) (row_of x) g.least (up g.next)));
  next = inr (subst (λ l. IsBelowFirst l (each (λ k. k.key.now.0) todo)) (sym e) g.rest.0);
  rest = g.rest.1;
  keyed = All-tail IsKeyed x todo g.keyed;
}
  where
    own : x.key.now.0 ≡ key (row_of x)
    own = (All-head IsKeyed x todo g.keyed).0

    rows : each row_of done ++ row_of x ∷ [] ≡ each row_of (done ++ x ∷ [])
    rows = sym (map-push row_of done x)

    up : ((k : List ℕ) → codes_at (each row_of done) k ≡ []) ⊎ (up_to gs.key.0 x.key.now.0 ≡ true) → ((k : List ℕ) → codes_at (each row_of done) k ≡ []) ⊎ (up_to gs.key.0 (key (row_of x)) ≡ true)
    up (inl n) = inl n
    up (inr l) = inr (subst (λ z. up_to gs.key.0 z ≡ true) own l)

pub taken-more : {A : Type 0} (xs : List A) (i : ℕ) (x : A) → i < length xs → x ≡ get_or xs i x → take (i + 1) xs ≡ take i xs ++ x ∷ []
taken-more xs i x l e = take_more xs i x l ∙ ap (λ y. take i xs ++ y ∷ []) (sym e)

pub dropped-more : {A : Type 0} (xs : List A) (i : ℕ) (x : A) → i < length xs → x ≡ get_or xs i x → drop i xs ≡ x ∷ drop (i + 1) xs
dropped-more xs i x l e =
    let s : suc i ≡ i + 1 = omega arith in
    drop-cons xs i x l ∙ ap (λ y. y ∷ drop (suc i) xs) (sym e) ∙ ap (λ n. x ∷ drop n xs) s

-- what holds of each holds in another order
pub all-moved : {A : Type 0} (P : A → Type 0) {xs ys : List A} → IsPermutation xs ys → All P xs → All P ys
all-moved P p = go (exchanges p)
  where
    go : {xs ys : List _} → Exchanges xs ys → All P xs → All P ys
    go nothing h = h
    go (under {xs} {ys} x e) h = All-cons P x ys (All-head P x xs h) (go e (All-tail P x xs h))
    go (neighbours x y zs) h = let t = All-tail P x (y ∷ zs) h in All-cons P y (x ∷ zs) (All-head P y zs t) (All-cons P x zs (All-head P x (y ∷ zs) h) (All-tail P y zs t))
    go (then e f) h = go f (go e h)

-- lists that tell the same in each place tell the same in this one
pub at-place : {A B C : Type 0} (f : A → C) (g : B → C) (xs : List A) (ys : List B) (i : ℕ) (x : A) (y : B) → each f xs ≡ each g ys → i < length ys → f (get_or xs i x) ≡ g (get_or ys i y)
at-place f g [] [] i x y e l = absurd (omega (arith, l))
at-place f g [] (y2 ∷ ys) i x y e l = absurd (cc e)
at-place f g (x2 ∷ xs) [] i x y e l = absurd (cc e)
at-place f g (x2 ∷ xs) (y2 ∷ ys) zero x y e l = cc e
at-place f g (x2 ∷ xs) (y2 ∷ ys) (suc i) x y e l = at-place f g xs ys i x y (cc e) (omega (arith, l))

-- and this place is within the ones where it is within the others
pub at-bound : {A B C : Type 0} (f : A → C) (g : B → C) (xs : List A) (ys : List B) (i : ℕ) → each f xs ≡ each g ys → i < length ys → i < length xs
at-bound f g xs ys i e l =
    let same : length xs ≡ length ys = sym (length-map f xs) ∙ ap length e ∙ length-map g ys in
    omega (arith, same, l)

-- all of a list are taken
pub taken-all : {A : Type 0} (xs : List A) (i : ℕ) → i ≡ length xs → take i xs ≡ xs
taken-all xs i e = ap (λ n. take n xs) e ∙ take-length xs
