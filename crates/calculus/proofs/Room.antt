-- More room leaves what is known as it is.
use Rattle.std.proofs.Common.{◌≡◌, ◌≤◌, ℕ, zero, suc, ◌*◌, Bool, true, false, cond, List, [], ◌∷◌, ◌++◌, length, refl, ap, sym, subst, arith}
use Rattle.std.specs.Prelude.{⊤, ltb, Option, Some, None, option_map}
use Rattle.calculus.specs.Tree.{Label, send, receive, new, match, bundle, unary, binary, method, Tree, node, Trees, none, also}
use Rattle.calculus.specs.Shape.{held, listed, at}
use Rattle.calculus.specs.Normal.{ascending}
use Rattle.calculus.specs.Outcome.{Prices, Answer, gives, fails, unknown, Outcome, free, pure, charged, then_do, after, within_limits, Capped, over, within, known, capped}
use Rattle.calculus.specs.Substitution.{put}
use Rattle.calculus.specs.Seeds.{digest_of, Split, Body}
use Rattle.calculus.specs.Matching.{Bindings, first_match}
use Rattle.calculus.specs.Values.{value}
use Rattle.calculus.specs.Unfolding.{Product, Unfolder, names_made, fresh_names, unfold_within, unfold_under, fitting, cases_tried, part_unfolded, unfold_part, parts_unfolded, unfold_in}

-- an answer is known
abbrev pub IsKnown : {A : Type 0} → Answer A → Type 0
IsKnown (gives x) = ⊤
IsKnown (fails f) = ⊤
IsKnown unknown = ⊥

-- the second work is the first where that is known, and costs no less
abbrev pub Refines : {A : Type 0} → Outcome A → Outcome A → Type 0
Refines o u = (o.price ≤ u.price) × (IsKnown o.answer → u ≡ o)

same : {A : Type 0} (o : Outcome A) → Refines o o
same o = (omega arith, λ k. refl)

pub charged_more : {A : Type 0} (n : ℕ) (o u : Outcome A) → Refines o u → Refines (charged n o) (charged n u)
charged_more n o u h = (omega (arith, h.0), λ k. ap (charged n) (h.1 k))

pub grows : {A B : Type 0} (n : ℕ) (a : Answer A) (f : A → Outcome B) → n ≤ (then_do n a f).price
grows n (gives x) f = omega arith
grows n (fails e) f = omega arith
grows n unknown f = omega arith

pub then_more : {A B : Type 0} (n : ℕ) (a : Answer A) (u : Outcome A) (f g : A → Outcome B) → Refines (record { price = n; answer = a }) u → ((x : A) → Refines (f x) (g x)) → Refines (then_do n a f) (after u g)
then_more n (gives x) u f g h k = subst (λ v. Refines (charged n (f x)) (after v g)) (sym (h.1 tt)) (charged_more n (f x) (g x) (k x))
then_more n (fails e) u f g h k = subst (λ v. Refines (then_do n (fails e) f) (after v g)) (sym (h.1 tt)) (same (then_do n (fails e) g))
then_more n unknown u f g h k = (omega (arith, h.0, grows u.price u.answer g), λ b. absurd b)

pub after_more : {A B : Type 0} (o u : Outcome A) (f g : A → Outcome B) → Refines o u → ((x : A) → Refines (f x) (g x)) → Refines (after o f) (after u g)
after_more o u f g h k = then_more o.price o.answer u f g h k

-- one way to unfold gives what the other gives where that is known
abbrev pub RefinesAll : Unfolder → Unfolder → Type 0
RefinesAll f g = (t : Tree) (s : List ℕ) → Refines (f t s) (g t s)

within_more : (f g : Unfolder) → RefinesAll f g → (s : List ℕ) (a : Answer Tree) → Refines (unfold_within f s a) (unfold_within g s a)
within_more f g h s (gives t) = h t s
within_more f g h s (fails e) = same (free (fails e))
within_more f g h s unknown = same (free unknown)

pub under_more : (f g : Unfolder) → RefinesAll f g → (s : List ℕ) (vs : List Tree) (body : Tree) → Refines (unfold_under f s vs body) (unfold_under g s vs body)
under_more f g h s vs body = within_more f g h s (within_limits (put vs body))

fitting_more : (f g : Unfolder) → RefinesAll f g → (s : List ℕ) (m : Option Bindings) (body : Tree) (o u : Outcome (List Product)) → Refines o u → Refines (fitting f s m body o) (fitting g s m body u)
fitting_more f g h s (Some vs) body o u k = under_more f g h s vs body
fitting_more f g h s None body o u k = k

cases_more : (p : Prices) (f g : Unfolder) → RefinesAll f g → (s : List ℕ) (v : Tree) (cs : List Tree) → Refines (cases_tried p f s v cs) (cases_tried p g s v cs)
cases_more p f g h s v [] = same (pure [])
cases_more p f g h s v (c ∷ cs) =
    charged_more p.case _ _ (fitting_more f g h s (first_match (at 0 (held c)) v) (at 1 (held c)) (cases_tried p f s v cs) (cases_tried p g s v cs) (cases_more p f g h s v cs))

value_more : (o : Outcome Tree) (f g : Tree → Outcome (List Product)) → ((v : Tree) → Refines (f v) (g v)) → Refines (after o f) (after o g)
value_more o f g h = after_more o o f g (same o) h

part_more : (p : Prices) (f g : Unfolder) → RefinesAll f g → (t : List ℕ) (l : Label) (ts : Trees) → Refines (part_unfolded p f t l ts) (part_unfolded p g t l ts)
part_more p f g h t (new os) (also body none) =
    charged_more (p.name * length os) _ _ (after_more (f (put (names_made t 0 os) body) (digest_of (Body t))) (g (put (names_made t 0 os) body) (digest_of (Body t))) _ _ (h (put (names_made t 0 os) body) (digest_of (Body t))) (λ ts. same (pure (fresh_names t 0 os ++ ts))))
part_more p f g h t match (also target (also (node l cs) none)) = value_more (value p target) _ _ (λ v. cases_more p f g h (digest_of (Body t)) v (listed cs))
part_more p f g h t (bundle r) (also body none) = h body (digest_of (Body t))
part_more p f g h t (unary o) ts = value_more (value p (node (unary o) ts)) _ _ (λ v. h v (digest_of (Body t)))
part_more p f g h t (binary o) ts = value_more (value p (node (binary o) ts)) _ _ (λ v. h v (digest_of (Body t)))
part_more p f g h t (method n) ts = value_more (value p (node (method n) ts)) _ _ (λ v. h v (digest_of (Body t)))
part_more p f g h t (send q) (also c (also (node l xs) none)) = same _
part_more p f g h t (receive k) (also (node l bs) (also body none)) = same _
part_more p f g h t l ts = same _

pub unfold_part_more : (p : Prices) (f g : Unfolder) → RefinesAll f g → (t : List ℕ) (u : Tree) → Refines (unfold_part p f t u) (unfold_part p g t u)
unfold_part_more p f g h t (node l ts) = part_more p f g h t l ts

pub parts_more : (p : Prices) (f g : Unfolder) → RefinesAll f g → (s : List ℕ) (i : ℕ) (ts : List Tree) → Refines (parts_unfolded p f s i ts) (parts_unfolded p g s i ts)
parts_more p f g h s i [] = same (pure [])
parts_more p f g h s i (t ∷ ts) =
    after_more (unfold_part p f (digest_of (Split s i)) t) (unfold_part p g (digest_of (Split s i)) t) _ _
    (unfold_part_more p f g h (digest_of (Split s i)) t)
    (λ rs. after_more (parts_unfolded p f s (suc i) ts) (parts_unfolded p g s (suc i) ts) _ _ (parts_more p f g h s (suc i) ts) (λ qs. same (pure (rs ++ qs))))

-- more room leaves a known unfolding as it is
pub unfold_more : (p : Prices) (n m : ℕ) → n ≤ m → RefinesAll (unfold_in p n) (unfold_in p m)
unfolding unfold_in
unfold_more p zero m e t s = (omega arith, λ k. absurd k)
unfold_more p (suc n) zero e t s = absurd (not-below e)
  where
    not-below : suc n ≤ zero → ⊥
    not-below e = omega (arith, e)
unfold_more p (suc n) (suc m) e t s = parts_more p (unfold_in p n) (unfold_in p m) (unfold_more p n m (omega (arith, e))) s 0 (ascending (held t))

over_stays : {A : Type 0} (c d : Bool) (x y : Option (Capped A)) (w : Capped A) → c ≡ true → d ≡ true → cond c (Some over) x ≡ Some w → cond d (Some over) y ≡ Some w
over_stays c d x y w e k h = cc

-- a price above the cap stays above it
above : (cap n m : ℕ) → n ≤ m → ltb cap n ≡ true → ltb cap m ≡ true
above cap n m h e = grind arith

capped_known : {A : Type 0} (n : ℕ) (a : Answer A) (u : Outcome A) (w : Capped A) → Refines (record { price = n; answer = a }) u → option_map within (known a (record { price = n; answer = a })) ≡ Some w → u ≡ record { price = n; answer = a }
capped_known n (gives x) u w h e = h.1 tt
capped_known n (fails f) u w h e = h.1 tt
capped_known n unknown u w h e = cc

-- more room leaves known work under a cap as it is
pub capped_more : {A : Type 0} (cap : ℕ) (o u : Outcome A) (w : Capped A) → Refines o u → capped cap o ≡ Some w → capped cap u ≡ Some w
capped_more cap o u w h e = go (ltb cap o.price) refl e
  where
    go : (c : Bool) → ltb cap o.price ≡ c → cond c (Some over) (option_map within (known o.answer o)) ≡ Some w → capped cap u ≡ Some w
    go true k e = over_stays true (ltb cap u.price) (option_map within (known o.answer o)) (option_map within (known u.answer u)) w refl (above cap o.price u.price h.0 k) e
    go false k e = subst (λ v. capped cap v ≡ Some w) (sym (capped_known o.price o.answer u w h e)) (cap_self k e)
      where
        cap_self : ltb cap o.price ≡ false → option_map within (known o.answer o) ≡ Some w → capped cap o ≡ Some w
        cap_self k e = rw k e
