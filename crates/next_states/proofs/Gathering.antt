-- Codes that are gathered by their keys.
use Rattle.std.proofs.Common.{◌≡◌, ℕ, Bool, true, false, cond, not, ◌&&◌, ◌||◌, List, [], ◌∷◌, ◌++◌, map as each, refl, ap, sym, ◌∙◌, subst, append-nil, inl, inr}
use Rattle.std.specs.Prelude.{◌⊎◌, Option, Some, None, IsSome, IfSome, is_some}
use Rattle.std.specs.List.{AllByRecursion}
use Rattle.std.specs.List.Sorted.{IsStrictlySortedBy}
use Rattle.std.specs.Map.{lookup, keys_of}
use Rattle.std.specs.Ordering.{is_eq}
use Rattle.std.specs.declared.cmp.Ordering.TheVariants.{Less}
use Rattle.std.specs.BTreeMap.{BTreeMap, get, is_at}
use Rattle.std.specs.Str.{bytes_eq}
use Rattle.std.specs.declared.alloc.Global.{Global}
use Rattle.std.specs.declared.vec.Vec.{Vec}
use Rattle.std.proofs.lemmas.Map.Keys.{sorted_head, sorted_tail}
use Rattle.std.proofs.lemmas.Map.Text.{is_eq-slice_cmp}
use Rattle.calculus.specs.Order.{byte_cmp}
use Rattle.calculus.specs.Steps.{differ, is_one_of}
use Rattle.events.proofs.Groups.{same, equal}
use Rattle.next_states.specs.Pairs.{Pair, codes_in}
use Rattle.next_states.specs.Walks.{Sets}
use Rattle.next_states.proofs.Pairs.{codes-append}

-- lists of bytes
abbrev pub Codes : Type 0
Codes = Vec (Vec ℕ Global) Global

-- lists of bytes, by keys
abbrev pub Groups : Type 0
Groups = BTreeMap (List ℕ) Codes

-- these lists of bytes are the codes of a key
abbrev AreOf : List Pair → List ℕ → Codes → Type 0
AreOf ps k v = each (λ x. x.items) v.items ≡ codes_in ps k

-- of each key that is there these codes are
abbrev pub AreThere : Groups → List Pair → Type 0
AreThere m ps = (k : List ℕ) → IfSome (get byte_cmp m k) (AreOf ps k)

some-weaker : (P Q : Codes → Type 0) → ((v : Codes) → P v → Q v) → (o : Option Codes) → IfSome o P → IfSome o Q
some-weaker P Q f (Some v) h = f v h
some-weaker P Q f None h = tt

-- the key that is set is there
pub set-here : (m n : Groups) (d : List ℕ) (w : Codes) → Sets m d (Some w) n → IsSome (get byte_cmp n d)
set-here m n d w s = ap is_some (s d ∙ ap (λ b. cond b (Some w) (get byte_cmp m d)) (is_eq-slice_cmp d d ∙ equal d d refl))

-- a key that was there is there
pub set-others : (m n : Groups) (d : List ℕ) (w : Codes) → Sets m d (Some w) n → (k : List ℕ) → IsSome (get byte_cmp m k) → IsSome (get byte_cmp n k)
set-others m n d w s k h = subst IsSome (sym (s k)) (on (is_at (byte_cmp d) k) h)
  where
    on : (b : Bool) → IsSome (get byte_cmp m k) → IsSome (cond b (Some w) (get byte_cmp m k))
    on true g = refl
    on false g = g

-- no codes are gathered
pub set-bare : (m n : Groups) (d : List ℕ) (w : Codes) → Sets m d (Some w) n → w.items ≡ [] → AreThere m [] → AreThere n []
set-bare m n d w s e h k = subst (λ (o : Option Codes). IfSome o (AreOf [] k)) (sym (s k)) (on (is_at (byte_cmp d) k))
  where
    on : (b : Bool) → IfSome (cond b (Some w) (get byte_cmp m k)) (AreOf [] k)
    on true = ap (each (λ x. x.items)) e
    on false = h k

-- two writes of one key
pub set-twice : (m l n : Groups) (d : List ℕ) (o : Option Codes) (w : Codes) → Sets m d o l → Sets l d (Some w) n → Sets m d (Some w) n
set-twice m l n d o w s t k = t k ∙ ap (cond (is_at (byte_cmp d) k) (Some w)) (s k) ∙ on (is_at (byte_cmp d) k)
  where
    on : (b : Bool) → cond b (Some w) (cond b o (get byte_cmp m k)) ≡ cond b (Some w) (get byte_cmp m k)
    on true = refl
    on false = refl

-- the codes of a key with one pair more
here : (ps : List Pair) (d code k : List ℕ) → d ≡ k → codes_in (ps ++ (d, code) ∷ []) k ≡ codes_in ps k ++ code ∷ []
here ps d code k e = codes-append ps ((d, code) ∷ []) k ∙ ap (λ b. codes_in ps k ++ cond b (code ∷ []) []) (equal k d (sym e))

elsewhere : (ps : List Pair) (d code k : List ℕ) → bytes_eq d k ≡ false → codes_in (ps ++ (d, code) ∷ []) k ≡ codes_in ps k
elsewhere ps d code k f = codes-append ps ((d, code) ∷ []) k ∙ ap (λ b. codes_in ps k ++ cond b (code ∷ []) []) (go (bytes_eq k d) refl) ∙ append-nil (codes_in ps k)
  where
    go : (b : Bool) → bytes_eq k d ≡ b → bytes_eq k d ≡ false
    go true e = absurd (no (sym (equal d k (sym (same k d e))) ∙ f))
      where
        no : true ≡ false → ⊥
        no z = cc
    go false e = e

-- one code more of a key that is there
pub put-there : (m n : Groups) (d code : List ℕ) (v w : Codes) → Sets m d (Some w) n → get byte_cmp m d ≡ Some v → each (λ x. x.items) w.items ≡ each (λ x. x.items) v.items ++ code ∷ []
    → (ps : List Pair) → AreThere m ps → AreThere n (ps ++ (d, code) ∷ [])
put-there m n d code v w s e f ps h k = subst (λ (o : Option Codes). IfSome o (AreOf (ps ++ (d, code) ∷ []) k)) (sym (s k ∙ ap (λ b. cond b (Some w) (get byte_cmp m k)) (is_eq-slice_cmp d k))) (on (bytes_eq d k) refl)
  where
    at_d : AreOf ps d v
    at_d = subst (λ (o : Option Codes). IfSome o (AreOf ps d)) e (h d)

    on : (b : Bool) → bytes_eq d k ≡ b → IfSome (cond b (Some w) (get byte_cmp m k)) (AreOf (ps ++ (d, code) ∷ []) k)
    on true g = f ∙ ap (λ cs. cs ++ code ∷ []) (at_d ∙ ap (codes_in ps) (same d k g)) ∙ sym (here ps d code k (same d k g))
    on false g = some-weaker (AreOf ps k) (AreOf (ps ++ (d, code) ∷ []) k) (λ v i. i ∙ sym (elsewhere ps d code k g)) (get byte_cmp m k) (h k)

-- and of one that is not
pub put-none : (m n : Groups) (d code : List ℕ) → Sets m d None n → (ps : List Pair) → AreThere m ps → AreThere n (ps ++ (d, code) ∷ [])
put-none m n d code s ps h k = subst (λ (o : Option Codes). IfSome o (AreOf (ps ++ (d, code) ∷ []) k)) (sym (s k ∙ ap (λ b. cond b None (get byte_cmp m k)) (is_eq-slice_cmp d k))) (on (bytes_eq d k) refl)
  where
    on : (b : Bool) → bytes_eq d k ≡ b → IfSome (cond b None (get byte_cmp m k)) (AreOf (ps ++ (d, code) ∷ []) k)
    on true g = tt
    on false g = some-weaker (AreOf ps k) (AreOf (ps ++ (d, code) ∷ []) k) (λ v i. i ∙ sym (elsewhere ps d code k g)) (get byte_cmp m k) (h k)

-- a key that is there was there, or is the one that was set
pub set-only : (m n : Groups) (d : List ℕ) (w : Codes) → Sets m d (Some w) n → (k : List ℕ) → IsSome (get byte_cmp n k) → IsSome (get byte_cmp m k) ⊎ (k ≡ d)
set-only m n d w s k h = on (bytes_eq d k) refl (subst IsSome (s k ∙ ap (λ b. cond b (Some w) (get byte_cmp m k)) (is_eq-slice_cmp d k)) h)
  where
    on : (b : Bool) → bytes_eq d k ≡ b → IsSome (cond (bytes_eq d k) (Some w) (get byte_cmp m k)) → IsSome (get byte_cmp m k) ⊎ (k ≡ d)
    on true e g = inr (sym (same d k e))
    on false e g = inl (subst (λ b. IsSome (cond b (Some w) (get byte_cmp m k))) e g)

-- one that was there is set
pub set-there : (m n : Groups) (d : List ℕ) (v w : Codes) → Sets m d (Some w) n → get byte_cmp m d ≡ Some v → (k : List ℕ) → IsSome (get byte_cmp n k) → IsSome (get byte_cmp m k)
set-there m n d v w s e k h = go (set-only m n d w s k h)
  where
    go : IsSome (get byte_cmp m k) ⊎ (k ≡ d) → IsSome (get byte_cmp m k)
    go (inl g) = g
    go (inr q) = ap is_some (ap (get byte_cmp m) q ∙ e)

-- where one is taken away that was not there, the others are there
pub gone-others : (m n : Groups) (d : List ℕ) → Sets m d None n → get byte_cmp m d ≡ None → (k : List ℕ) → IsSome (get byte_cmp m k) → IsSome (get byte_cmp n k)
gone-others m n d s e k h = subst IsSome (sym (s k ∙ ap (λ b. cond b None (get byte_cmp m k)) (is_eq-slice_cmp d k))) (on (bytes_eq d k) refl)
  where
    on : (b : Bool) → bytes_eq d k ≡ b → IsSome (cond b None (get byte_cmp m k))
    on true g = absurd (no (ap is_some (sym (ap (get byte_cmp m) (same d k g)) ∙ e)) h)
      where
        truth : false ≡ true → ⊥
        truth y = cc

        no : is_some (get byte_cmp m k) ≡ false → IsSome (get byte_cmp m k) → ⊥
        no z i = truth (sym z ∙ i)
    on false g = h

-- one is taken away
pub set-none : (m n : Groups) (d : List ℕ) → Sets m d None n → (k : List ℕ) → IsSome (get byte_cmp n k) → IsSome (get byte_cmp m k)
set-none m n d s k h = on (is_at (byte_cmp d) k) (subst IsSome (s k) h)
  where
    on : (b : Bool) → IsSome (cond b None (get byte_cmp m k)) → IsSome (get byte_cmp m k)
    on true g = absurd (cc g)
    on false g = g

-- no key is there
pub none-there : (m : Groups) → m.entries ≡ [] → (k : List ℕ) → IsSome (get byte_cmp m k) → ⊥
none-there m e k h = no (subst (λ (es : List (List ℕ × Codes)). is_some (lookup (λ q. is_eq (byte_cmp k q)) es) ≡ true) e h)
  where
    no : false ≡ true → ⊥
    no z = cc

-- keys of entries are found
pub one-found : {X : Type 0} (k : List ℕ) (es : List (List ℕ × X)) → is_one_of k (keys_of es) ≡ true → IsSome (lookup (λ q. is_eq (byte_cmp k q)) es)
one-found k [] h = absurd (cc h)
one-found k (e ∷ es) h = go (bytes_eq k e.0) refl h (one-found k es)
  where
    put : (b : Bool) → bytes_eq k e.0 ≡ b → IsSome (cond b (Some e.1) (lookup (λ q. is_eq (byte_cmp k q)) es)) → IsSome (lookup (λ q. is_eq (byte_cmp k q)) (e ∷ es))
    put b f g = subst (λ t. IsSome (cond t (Some e.1) (lookup (λ q. is_eq (byte_cmp k q)) es))) (sym (is_eq-slice_cmp k e.0 ∙ f)) g

    go : (b : Bool) → bytes_eq k e.0 ≡ b → (b || is_one_of k (keys_of es)) ≡ true → (is_one_of k (keys_of es) ≡ true → IsSome (lookup (λ q. is_eq (byte_cmp k q)) es)) → IsSome (lookup (λ q. is_eq (byte_cmp k q)) (e ∷ es))
    go true f g next = put true f refl
    go false f g next = put false f (next g)

-- keys in order differ
pub sorted-differ : (ks : List (List ℕ)) → IsStrictlySortedBy byte_cmp ks → differ ks ≡ true
sorted-differ [] s = refl
sorted-differ (k ∷ ks) s = ap (λ b. not b && differ ks) (go ks (sorted_head byte_cmp k ks s)) ∙ sorted-differ ks (sorted_tail byte_cmp k ks s)
  where
    go : (xs : List (List ℕ)) → AllByRecursion (λ y. byte_cmp k y ≡ Less) xs → is_one_of k xs ≡ false
    go [] a = refl
    go (x ∷ xs) a = ap (λ b. b || is_one_of k xs) (sym (is_eq-slice_cmp k x) ∙ ap is_eq a.0) ∙ go xs a.1
