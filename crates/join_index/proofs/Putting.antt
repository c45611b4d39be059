-- One more and one less of a group in an index.
use Rattle.std.proofs.Common.{◌≡◌, ℕ, suc, pred, ◌+◌, ◌≤◌, Bool, true, false, ◌||◌, cond, List, [], ◌∷◌, ◌++◌, length, map as each, get_or, set, remove, eqb, ◌-◌, ◌^◌, min, refl, sym, ap, subst, ◌∙◌, arith, length-append}
use Rattle.std.specs.List.{list_any}
use Rattle.calculus.proofs.Members.{Every}
use Rattle.join_index.specs.Groups.{Channels, same_group, stands, firsts, but_last}
use Rattle.join_index.specs.Index.{Tally, one_more, one_less, tallies, tally_of}
use Rattle.join_index.specs.declared.index.Counted.{Counted}
use Rattle.join_index.proofs.Tallies.{one-at-end, one-left, stands-counted, tallies-within, but-last-shorter, firsts-counted}
use Rattle.join_index.proofs.Places.{found, changed, removed, is_it, more-new, more-there, less-there, less-none, each-both, in-middle, any-counted}

module _ (gs : List Channels) (es : List Counted) (h : each tally_of es ≡ tallies gs) (g : Channels) where
  pub stands-there : list_any (is_it g) es ≡ stands g gs
  stands-there = sym (any-counted g es) ∙ ap (λ l. list_any (same_group g) (each (λ e. e.0) l)) h ∙ stands-counted gs g

  pub put-new : list_any (is_it g) es ≡ false → (y : Counted) → y.group ≡ g → y.count ≡ 1 → each tally_of (es ++ y ∷ []) ≡ tallies (gs ++ g ∷ [])
  put-new n y e f =
      each-both tally_of es (y ∷ []) ∙ ap (λ t. each tally_of es ++ t ∷ []) (cc (e, f)) ∙ sym (more-new g es n) ∙ ap (λ l. one_more l g) h ∙ sym (one-at-end [] gs g)

  pub take-none : list_any (is_it g) es ≡ false → each tally_of es ≡ tallies (but_last g gs)
  take-none n = sym (less-none g es n) ∙ ap (λ l. one_less l g) h ∙ one-left gs g

  module _ (before : List Counted) (e : Counted) (after : List Counted) (is : es ≡ before ++ e ∷ after) (n : list_any (is_it g) before ≡ false) (f : is_it g e ≡ true) where
    pub its-count : (1 ≤ e.count) × (e.count ≤ length gs)
    its-count = in-middle before e after (λ t. (1 ≤ t.1) × (t.1 ≤ length gs)) (subst (Every (λ t. (1 ≤ t.1) × (t.1 ≤ length gs))) (sym h ∙ ap (each tally_of) is) (tallies-within gs))

    pub at-place : (i : ℕ) (d : Counted) → length before ≡ i → get_or es i d ≡ e
    at-place i d l = ap (λ j. get_or es j d) (sym l) ∙ ap (λ (xs : List Counted). get_or xs (length before) d) is ∙ found before e after d

    pub put-there : (i : ℕ) (y : Counted) → length before ≡ i → y.group ≡ e.group → y.count ≡ suc e.count → each tally_of (set es i y) ≡ tallies (gs ++ g ∷ [])
    put-there i y l a b =
        ap (λ j. each tally_of (set es j y)) (sym l) ∙ ap (λ (xs : List Counted). each tally_of (set xs (length before) y)) is ∙ ap (each tally_of) (changed before e after y)
        ∙ each-both tally_of before (y ∷ after) ∙ ap (λ t. each tally_of before ++ t ∷ each tally_of after) (cc (a, b)) ∙ sym (more-there g before e after n f)
        ∙ ap (λ (xs : List Counted). one_more (each tally_of xs) g) (sym is) ∙ ap (λ l. one_more l g) h ∙ sym (one-at-end [] gs g)

    less : one_less (each tally_of (before ++ e ∷ after)) g ≡ tallies (but_last g gs)
    less = ap (λ (xs : List Counted). one_less (each tally_of xs) g) (sym is) ∙ ap (λ l. one_less l g) h ∙ one-left gs g

    pub take-last : (i : ℕ) → length before ≡ i → e.count ≡ 1 → each tally_of (remove es i) ≡ tallies (but_last g gs)
    take-last i l c =
        ap (λ j. each tally_of (remove es j)) (sym l) ∙ ap (λ (xs : List Counted). each tally_of (remove xs (length before))) is ∙ ap (each tally_of) (removed before e after)
        ∙ each-both tally_of before after
        ∙ sym (less-there g before e after n f ∙ ap (λ m. each tally_of before ++ cond (eqb m 1) (each tally_of after) ((e.group, pred m) ∷ each tally_of after)) c) ∙ less

    pub take-one : (i : ℕ) (y : Counted) → length before ≡ i → eqb e.count 1 ≡ false → y.group ≡ e.group → y.count ≡ pred e.count → each tally_of (set es i y) ≡ tallies (but_last g gs)
    take-one i y l c a b =
        ap (λ j. each tally_of (set es j y)) (sym l) ∙ ap (λ (xs : List Counted). each tally_of (set xs (length before) y)) is ∙ ap (each tally_of) (changed before e after y)
        ∙ each-both tally_of before (y ∷ after) ∙ ap (λ t. each tally_of before ++ t ∷ each tally_of after) (cc (a, b))
        ∙ sym (less-there g before e after n f ∙ ap (λ q. each tally_of before ++ cond q (each tally_of after) ((e.group, pred e.count) ∷ each tally_of after)) c) ∙ less

    pub stands-here : stands g gs ≡ true
    stands-here = sym stands-there ∙ ap (λ (xs : List Counted). list_any (is_it g) xs) is ∙ go before
      where
        go : (xs : List Counted) → list_any (is_it g) (xs ++ e ∷ after) ≡ true
        go [] = ap (λ b. b || list_any (is_it g) after) f
        go (x ∷ xs) = ap (λ b. is_it g x || b) (go xs) ∙ or-true (is_it g x)
          where
            or-true : (b : Bool) → b || true ≡ true
            or-true true = refl
            or-true false = refl

-- a number does not pass its type's end where there is room
pub not-full : (n k t a : ℕ) → n ≡ min (k + 1) (2 ^ 64 - 1) → k ≤ t → 1 ≤ min a ((2 ^ 64 - 1) - t) → n ≡ suc k
not-full n k t a e l r = omega (arith, e, l, r)

pub one-longer : (t : ℕ) (gs : List Channels) (g : Channels) → t ≡ length gs → t + 1 ≡ length (gs ++ g ∷ [])
one-longer t gs g e = omega (arith, e, length-append gs (g ∷ []))

-- the groups of an index are those that first stand
pub groups-first : (gs : List Channels) (es : List Counted) → each tally_of es ≡ tallies gs → each (λ e. e.group) es ≡ firsts gs
groups-first gs es h = same es ∙ ap (each (λ (t : Tally). t.0)) h ∙ firsts-counted gs
  where
    same : (ds : List Counted) → each (λ e. e.group) ds ≡ each (λ (t : Tally). t.0) (each tally_of ds)
    same [] = refl
    same (d ∷ ds) = ap (λ l. d.group ∷ l) (same ds)

pub one-shorter : (t n : ℕ) (g : Channels) (gs : List Channels) → t ≡ length gs → n ≡ t - 1 → stands g gs ≡ true → n ≡ length (but_last g gs)
one-shorter t n g gs e f s = omega (arith, e, f, but-last-shorter g gs s)

pub before-it : (n : ℕ) → n - 1 ≡ pred n
before-it n = omega arith
