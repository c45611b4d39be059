-- Congruent closed processes with room for names, and what their values, channels and rows have in common.
use Rattle.std.proofs.Common.{◌≡◌, ℕ, zero, suc, ◌+◌, ◌≤◌, Bool, true, false, ◌&&◌, List, [], ◌∷◌, ◌++◌, length, refl, ap, subst, arith}
use Rattle.std.specs.List.{AllZip}
use Rattle.calculus.specs.declared.plain.Rights.{Rights}
use Rattle.calculus.specs.Tree.{Label, par, bundle, Tree, node, Trees, none, also, weight, weights}
use Rattle.calculus.specs.Congruence.{is_bag}
use Rattle.calculus.specs.Code.{arranged}
use Rattle.calculus.specs.Form.{part, Fits, IsClosed}
use Rattle.calculus.specs.Outcome.{Prices, Answer, gives, fails, unknown}
use Rattle.calculus.specs.Values.{value}
use Rattle.calculus.specs.Unfolding.{Product, Channel, writes, reads, bundled, opened}
use Rattle.calculus.proofs.Keys.{key, key_all, equal_nodes}
use Rattle.calculus.proofs.Equivalence.{agree}
use Rattle.calculus.proofs.Results.{Gives}
use Rattle.process_laws.proofs.Values.{IsSmall, IsValue, IsOperand, fewer, term-value, small-gives}
use Rattle.process_laws.specs.ValuedLaws.{IsSameAnswer as SameValue}
use Rattle.process_laws.proofs.Outcomes.{Answers, Ends}
use Rattle.process_laws.proofs.Valued.{values_are_alike}
use Rattle.process_laws.specs.CongruentLaws.{IsSameThing}
use Rattle.process_laws.proofs.Tallies.{sorted-even}
use Rattle.process_laws.proofs.Exchanging.{one-even}
use Rattle.process_laws.proofs.Sizing.{IsRoomy, roomy-short, cost-code}

-- congruent closed processes with room for names
pub record AreRoomyTwins (t u : Tree) : Type 0 where
  pub first : IsClosed t
  pub second : IsClosed u
  pub roomy : IsRoomy t
  pub room : IsRoomy u
  pub same : key t ≡ key u

-- things alike one by one
abbrev pub AreSameThings : List Product → List Product → Type 0
AreSameThings ts us = AllZip IsSameThing ts us

pub things-append : (ts us vs ws : List Product) → AreSameThings ts us → AreSameThings vs ws → AreSameThings (ts ++ vs) (us ++ ws)
things-append [] [] vs ws h k = k
things-append [] (u ∷ us) vs ws h k = absurd h
things-append (t ∷ ts) [] vs ws h k = absurd h
things-append (t ∷ ts) (u ∷ us) vs ws h k = (h.0, things-append ts us vs ws h.1 k)

-- a closed result that is within the limits
pub both-give : (a : Answer Tree) → Gives IsClosed a → Gives IsSmall a → Gives IsValue a
both-give (gives v) h k = (h, k)
both-give (fails f) h k = tt
both-give unknown h k = tt

value-gives : (p : Prices) (t : Tree) → IsClosed t → Gives IsValue (value p t).answer
value-gives p (node par ts) h = both-give (value p (node par ts)).answer (fewer IsOperand IsClosed (value p (node par ts)).answer (λ v k. k.0) (term-value p (node par ts) h)) (small-gives p ts)
value-gives p (node _ ts) h = absurd h.1

pub to-pair : (v w : Tree) → IsValue v → IsValue w → key v ≡ key w → AreRoomyTwins v w
to-pair v w h k e = record { first = h.0; second = k.0; roomy = omega (arith, h.1.1, cost-code v); room = omega (arith, k.1.1, cost-code w); same = e }

pub pairs-of : (a b : Answer Tree) → Gives IsValue a → Gives IsValue b → SameValue a b → Answers AreRoomyTwins a b
pairs-of (gives v) (gives w) h k e = to-pair v w h k ((agree v w).0 e)
pairs-of (fails f) (fails g) h k e = e
pairs-of unknown unknown h k e = tt
pairs-of (gives v) (fails g) h k e = absurd e
pairs-of (gives v) unknown h k e = absurd e
pairs-of (fails f) (gives w) h k e = absurd e
pairs-of (fails f) unknown h k e = absurd e
pairs-of unknown (gives w) h k e = absurd e
pairs-of unknown (fails g) h k e = absurd e

pub value-alike : (p : Prices) (t u : Tree) → AreRoomyTwins t u → Ends AreRoomyTwins (value p t) (value p u)
value-alike p t u h =
    let r = values_are_alike p t u ((h.first, roomy-short t h.roomy), (h.second, roomy-short u h.room), (agree t u).1 h.same) in
    (r.0, pairs-of (value p t).answer (value p u).answer (value-gives p t h.first) (value-gives p u h.second) r.1)

-- channels alike
pub record AreSameChannels (c d : Channel) : Type 0 where
  pub name : key c.name ≡ key d.name
  pub writable : c.writable ≡ d.writable
  pub readable : c.readable ≡ d.readable

in-bundle : (r : Rights) (c d : Channel) → AreSameChannels c d → AreSameChannels (bundled r c) (bundled r d)
in-bundle r c d h = record { name = h.name; writable = ap (λ b. writes r && b) h.writable; readable = ap (λ b. reads r && b) h.readable }

plain-channel : (t u : Tree) → key t ≡ key u → AreSameChannels (record { name = t; writable = true; readable = true }) (record { name = u; writable = true; readable = true })
plain-channel t u e = record { name = e; writable = refl; readable = refl }

-- the constituents of congruent forms, where they stand in order
pub kids-keys : (l : Label) (ts us : Trees) → key (node l ts) ≡ key (node l us) → is_bag l ≡ false → key_all ts ≡ key_all us
kids-keys l ts us e b = subst (λ (x : Bool). arranged x (key_all ts) ≡ arranged x (key_all us)) b (equal_nodes l l ts us e).1

pub first-keys : (t u : Tree) (ts us : Trees) → key_all (also t ts) ≡ key_all (also u us) → (key t ≡ key u) × (key_all ts ≡ key_all us)
first-keys t u ts us e =
    let x : key t ≡ key u = cc in
    let y : key_all ts ≡ key_all us = cc in
    (x, y)

pub no-keys : (u : Tree) (us : Trees) → key_all none ≡ key_all (also u us) → ⊥
no-keys u us e = cc

pub keys-no : (u : Tree) (us : Trees) → key_all (also u us) ≡ key_all none → ⊥
keys-no u us e = cc

open-bundle : (r : Rights) (xs bs : Trees) → Fits part [] (node (bundle r) xs) → Fits part [] (node (bundle r) bs) → key_all xs ≡ key_all bs
    → ((t u : Tree) → xs ≡ also t none → IsClosed t → IsClosed u → key t ≡ key u → AreSameChannels (opened t) (opened u)) → AreSameChannels (opened (node par (also (node (bundle r) xs) none))) (opened (node par (also (node (bundle r) bs) none)))
open-bundle r none bs f g e h = absurd f.1
open-bundle r (also t none) none f g e h = absurd g.1
open-bundle r (also t none) (also u none) f g e h = in-bundle r (opened t) (opened u) (h t u refl f.1.0 g.1.0 (first-keys t u none none e).0)
open-bundle r (also t none) (also u (also w ws)) f g e h = absurd g.1.1
open-bundle r (also t (also v vs)) bs f g e h = absurd f.1.1

one-part : (l : Label) (xs bs : Trees) → Fits part [] (node l xs) → Fits part [] (node l bs) → key (node l xs) ≡ key (node l bs) → key (node par (also (node l xs) none)) ≡ key (node par (also (node l bs) none))
    → ((t u : Tree) → xs ≡ also t none → IsClosed t → IsClosed u → key t ≡ key u → AreSameChannels (opened t) (opened u)) → AreSameChannels (opened (node par (also (node l xs) none))) (opened (node par (also (node l bs) none)))
one-part (bundle r) xs bs f g e k h = open-bundle r xs bs f g (kids-keys (bundle r) xs bs e refl) h
one-part l xs bs f g e k h = plain-channel (node par (also (node l xs) none)) (node par (also (node l bs) none)) k

many-parts : (t v : Tree) (vs : Trees) → opened (node par (also t (also v vs))) ≡ record { name = node par (also t (also v vs)); writable = true; readable = true }
many-parts (node (bundle r) none) v vs = refl
many-parts (node (bundle r) (also x none)) v vs = refl
many-parts (node (bundle r) (also x (also y ys))) v vs = refl
many-parts (node _ ts) v vs = refl

open-process : (ts us : Trees) → IsClosed (node par ts) → IsClosed (node par us) → key (node par ts) ≡ key (node par us)
    → ((l : Label) (t u : Tree) → ts ≡ also (node l (also t none)) none → IsClosed t → IsClosed u → key t ≡ key u → AreSameChannels (opened t) (opened u)) → AreSameChannels (opened (node par ts)) (opened (node par us))
open-process none none f g e h = plain-channel (node par none) (node par none) e
open-process none (also u us) f g e h = absurd (longer (length (key_all us)) (sorted-even (key_all none) (key_all (also u us)) (equal_nodes par par none (also u us) e).1).0)
  where
    longer : (n : ℕ) → 0 ≡ suc n → ⊥
    longer n e = omega (arith, e)
open-process (also t ts) none f g e h = absurd (shorter (length (key_all ts)) (sorted-even (key_all (also t ts)) (key_all none) (equal_nodes par par (also t ts) none e).1).0)
  where
    shorter : (n : ℕ) → suc n ≡ 0 → ⊥
    shorter n e = omega (arith, e)
open-process (also (node l xs) none) (also (node m bs) none) f g e h =
    let k : key (node l xs) ≡ key (node m bs) = one-even (key (node l xs)) (key (node m bs)) (sorted-even (key (node l xs) ∷ []) (key (node m bs) ∷ []) (equal_nodes par par (also (node l xs) none) (also (node m bs) none) e).1) in
    let q : l ≡ m = (equal_nodes l m xs bs k).0 in
    subst (λ (x : Label). Fits part [] (node x bs) → key (node l xs) ≡ key (node x bs) → key (node par (also (node l xs) none)) ≡ key (node par (also (node x bs) none)) → AreSameChannels (opened (node par (also (node l xs) none))) (opened (node par (also (node x bs) none)))) q
    (λ d i j. one-part l xs bs f.1.0 d i j (λ t u r. h l t u (ap (λ ks. also (node l ks) none) r))) g.1.0 k e
open-process (also t none) (also u (also w ws)) f g e h = absurd (longer (length (key_all ws)) (sorted-even (key_all (also t none)) (key_all (also u (also w ws))) (equal_nodes par par (also t none) (also u (also w ws)) e).1).0)
  where
    longer : (n : ℕ) → 1 ≡ suc (suc n) → ⊥
    longer n e = omega (arith, e)
open-process (also t (also v vs)) (also u none) f g e h = absurd (shorter (length (key_all vs)) (sorted-even (key_all (also t (also v vs))) (key_all (also u none)) (equal_nodes par par (also t (also v vs)) (also u none) e).1).0)
  where
    shorter : (n : ℕ) → suc (suc n) ≡ 1 → ⊥
    shorter n e = omega (arith, e)
open-process (also t (also v vs)) (also u (also w ws)) f g e h = rw (many-parts t v vs, many-parts u w ws) (plain-channel (node par (also t (also v vs))) (node par (also u (also w ws))) e)

-- congruent values stand for channels alike
opened-in : (n : ℕ) (t u : Tree) → weight t ≤ n → IsClosed t → IsClosed u → key t ≡ key u → AreSameChannels (opened t) (opened u)
opened-in zero (node l ts) u w f g e = absurd (none-less (weights ts) w)
  where
    none-less : (k : ℕ) → k + 1 ≤ 0 → ⊥
    none-less k w = omega (arith, w)
opened-in (suc n) (node par ts) (node par us) w f g e = open-process ts us f g e (λ l t u r a b k. opened-in n t u (below l t r) a b k)
  where
    below : (l : Label) (t : Tree) → ts ≡ also (node l (also t none)) none → weight t ≤ n
    below l t r = let z : weights ts ≡ weights (also (node l (also t none)) none) = ap weights r in omega (arith, w, z)
opened-in (suc n) (node par ts) (node _ us) w f g e = absurd g.1
opened-in (suc n) (node _ ts) u w f g e = absurd f.1

pub opened-alike : (v w : Tree) → AreRoomyTwins v w → AreSameChannels (opened v) (opened w)
opened-alike v w h = opened-in (weight v) v w (omega arith) h.first h.second h.same
