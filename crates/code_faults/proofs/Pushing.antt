-- One more thing at the end of those that were read.
use Rattle.std.proofs.Common.{◌≡◌, ℕ, zero, suc, ◌+◌, true, cond, List, [], ◌∷◌, ◌++◌, map, length, refl, ap, sym, ◌∙◌, subst, arith, append_assoc, append-nil, length-append}
use Rattle.std.specs.Prelude.{All, reverse, replicate}
use Rattle.std.proofs.lemmas.List.{map-append, reverse-append}
use Rattle.std.proofs.lemmas.List.Elements.{All-append}
use Rattle.std.proofs.lemmas.List.Sums.{sum_by-append}
use Rattle.calculus.specs.Tree.{Tree, trees}
use Rattle.calculus.specs.Order.{up_to}
use Rattle.calculus.specs.Shape.{label_of}
use Rattle.calculus.specs.Code.{code}
use Rattle.calculus.specs.Form.{Sort, Scope, wides}
use Rattle.calculus.specs.Variables.{Sense, a_name, bound, bound_all, is_wide}
use Rattle.calculus.specs.declared.plain.Origin.{Origin}
use Rattle.code_faults.specs.declared.sort.Sense.{Sense as Read}
use Rattle.code_faults.specs.declared.sort.Sense.TheVariants.{Name}
use Rattle.code_faults.specs.Scopes.{sense_of, senses_of, scope_of}
use Rattle.code_faults.specs.Reading.{Reads}
use Rattle.code_faults.proofs.Rows.{Row, row-none, row-more, bound-more}
use Rattle.code_faults.proofs.Bags.{Bag, bag-none, bag-more}

pub row-start : {A : Type 0} {f : A → Tree} {s : Sort} {v : Scope} {room : ℕ} {xs : List A} {a : List ℕ} → xs ≡ [] → Row f s v room xs a a
row-start {f = f} {s = s} {v = v} {room = room} {xs = xs} {a = a} e = subst (λ ys. Row f s v room ys a a) (sym e) (row-none f s v room a)

pub bag-start : {A : Type 0} {f : A → Tree} {s : Sort} {v : Scope} {room : ℕ} {xs : List A} {a : List ℕ} → xs ≡ [] → Bag f s v room xs a a []
bag-start {f = f} {s = s} {v = v} {room = room} {xs = xs} {a = a} e = subst (λ ys. Bag f s v room ys a a []) (sym e) (bag-none f s v room a)

pub row-push : {A : Type 0} {f : A → Tree} {s : Sort} {v : Scope} {room : ℕ} {xs ys : List A} {x : A} {a b c : List ℕ} → ys ≡ xs ++ x ∷ [] → Row f s v room xs a b → Reads s v room (f x) b c → Row f s v room ys a c
row-push {f = f} {s = s} {v = v} {room = room} {x = x} {a = a} {c = c} e h k = subst (λ zs. Row f s v room zs a c) (sym e) (row-more x c h k)

pub bag-push : {A : Type 0} {f : A → Tree} {s : Sort} {v : Scope} {room : ℕ} {xs ys : List A} {x : A} {a b c last next : List ℕ} → ys ≡ xs ++ x ∷ [] → Bag f s v room xs a b last → Reads s v room (f x) b c
    → ((d : List ℕ) → b ≡ d ++ c → next ≡ d) → up_to last next ≡ true → Bag f s v room ys a c next
bag-push {f = f} {s = s} {v = v} {room = room} {x = x} {a = a} {c = c} {next = next} e h k g u = subst (λ zs. Bag f s v room zs a c next) (sym e) (bag-more x c next h k (g (code (f x)) k.is) u)

pub count-push : {A : Type 0} (xs : List A) {ys : List A} (x : A) {i : ℕ} → ys ≡ xs ++ x ∷ [] → length xs ≡ i → length ys ≡ i + 1
count-push xs x e h = ap length e ∙ length-append xs (x ∷ []) ∙ ap (λ (n : ℕ). n + 1) h

only_one : {A : Type 0} (P : A → Type 0) (x : A) → P x → All P (x ∷ [])
only_one P x h zero d l = h
only_one P x h (suc k) d l = absurd (omega arith)

pub all-push : {A : Type 0} (P : A → Type 0) (xs : List A) {ys : List A} (x : A) → ys ≡ xs ++ x ∷ [] → All P xs → P x → All P ys
all-push P xs x e h k = subst (λ zs. All P zs) (sym e) (All-append P xs (x ∷ []) h (only_one P x k))

pub bound-start : {A : Type 0} (f : A → Tree) (xs : List A) {now : List Sense} → xs ≡ [] → now ≡ now ++ bound_all (trees (map f xs))
bound-start f xs {now = now} e = subst (λ ys. now ≡ now ++ bound_all (trees (map f ys))) (sym e) (sym (append-nil now))

pub bound-start_trees : {ts : List Tree} {now : List Sense} → ts ≡ [] → now ≡ now ++ bound_all (trees ts)
bound-start_trees {now = now} e = subst (λ us. now ≡ now ++ bound_all (trees us)) (sym e) (sym (append-nil now))

pub bound-push_trees : (ts : List Tree) {us : List Tree} (t : Tree) (start : List Sense) {now next : List Sense} → us ≡ ts ++ t ∷ [] → now ≡ start ++ bound_all (trees ts) → next ≡ now ++ bound t → next ≡ start ++ bound_all (trees us)
bound-push_trees ts {us = us} t start e h k =
    k ∙ ap (λ (vs : List Sense). vs ++ bound t) h ∙ append_assoc start (bound_all (trees ts)) (bound t) ∙ ap (λ (vs : List Sense). start ++ vs) (sym (bound-more ts t)) ∙ ap (λ zs. start ++ bound_all (trees zs)) (sym e)

pub bound-push : {A : Type 0} (f : A → Tree) (xs : List A) {ys : List A} (x : A) (start : List Sense) {now next : List Sense} → ys ≡ xs ++ x ∷ [] → now ≡ start ++ bound_all (trees (map f xs)) → next ≡ now ++ bound (f x) → next ≡ start ++ bound_all (trees (map f ys))
bound-push f xs x start e h k = bound-push_trees (map f xs) (f x) start (ap (map f) e ∙ map-append f xs (x ∷ [])) h k

-- wide parts, with one more
pub wides-push : {A : Type 0} (f : A → Tree) (xs : List A) {ys : List A} (x : A) {now next : ℕ} → ys ≡ xs ++ x ∷ [] → wides (map f xs) ≡ now → next ≡ now + cond (is_wide (label_of (f x))) 1 0 → wides (map f ys) ≡ next
wides-push f xs x e h k =
    ap (λ zs. wides (map f zs)) e ∙ ap wides (map-append f xs (x ∷ [])) ∙ sum_by-append (λ t. cond (is_wide (label_of t)) 1 0) (map f xs) (f x ∷ []) ∙ omega (arith, h, k)

-- the scope with these variables added
pub scope-more : (xs : List Read) (ys : List Read) (vs : List Sense) → senses_of ys ≡ senses_of xs ++ vs → scope_of ys ≡ reverse vs ++ scope_of xs
scope-more xs ys vs e = ap reverse e ∙ reverse-append (senses_of xs) vs

names-senses : (os : List Origin) → senses_of (replicate (length os) Name) ≡ map (λ (o : Origin). a_name) os
names-senses [] = refl
names-senses (o ∷ os) = ap (λ (vs : List Sense). a_name ∷ vs) (names-senses os)

-- the scope with a name for each of these
pub scope-names : (xs ys : List Read) (os : List Origin) (n : ℕ) → n ≡ length os → ys ≡ xs ++ replicate n Name → scope_of ys ≡ reverse (map (λ (o : Origin). a_name) os) ++ scope_of xs
scope-names xs ys os n e h = scope-more xs ys (map (λ (o : Origin). a_name) os)
    (ap senses_of h ∙ map-append sense_of xs (replicate n Name) ∙ ap (λ (m : ℕ). senses_of xs ++ senses_of (replicate m Name)) e ∙ ap (λ (vs : List Sense). senses_of xs ++ vs) (names-senses os))
