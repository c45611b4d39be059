-- Congruent trees stay congruent where congruent parts come in place of their variables.
use Rattle.std.proofs.Common.{◌≡◌, ℕ, ◌+◌, ◌-◌, Bool, true, false, cond, List, [], ◌∷◌, ◌++◌, length, refl, sym, ap, ◌∙◌, subst, arith}
use Rattle.std.specs.Prelude.{⊤, leb}
use Rattle.std.specs.Str.{bytes_eq}
use Rattle.calculus.specs.Tree.{Label, par, set, dict, receive, case, var, name_var, Tree, node, Trees, none, also, trees}
use Rattle.calculus.specs.Shape.{listed, joined_trees}
use Rattle.calculus.specs.Order.{sorted}
use Rattle.calculus.specs.Congruence.{is_bag}
use Rattle.calculus.specs.Code.{arranged}
use Rattle.calculus.specs.Variables.{binders}
use Rattle.calculus.specs.Normal.{ascending, made_node}
use Rattle.calculus.specs.Substitution.{Change, change, change_all}
use Rattle.calculus.proofs.PlainKept.{NoVariable}
use Rattle.calculus.proofs.Changed.{change-node}
use Rattle.calculus.proofs.Placing.{trees-listed}
use Rattle.calculus.proofs.Counting.{hit, times, bytes_self, bytes_equal}
use Rattle.calculus.proofs.Keys.{key, key_all, equal_nodes, equal_keys}
use Rattle.process_laws.proofs.Tallies.{AreEven, even-sorted, sorted-even, total, times-total, length-total, AreMixed, matching, bound-total, all-binds, total-ascending, total-joined}

-- no constituent of a form that is no bag is a use of a variable
abbrev pub AreNoUses : Trees → Type 0
AreNoUses none = ⊤
AreNoUses (also (node l t) ts) = NoVariable l × AreNoUses ts

-- that is asked where the form is no bag
abbrev pub AreNoUsesOutsideBags : Bool → Trees → Type 0
AreNoUsesOutsideBags true ts = ⊤
AreNoUsesOutsideBags false ts = AreNoUses ts

abbrev mutual
  -- a tree in which it is so at any depth
  pub IsNeat : Tree → Type 0
  IsNeat (node l ts) = AreNoUsesOutsideBags (is_bag l) ts × AreNeat ts

  -- each of these is such a tree
  pub AreNeat : Trees → Type 0
  AreNeat none = ⊤
  AreNeat (also t ts) = IsNeat t × AreNeat ts

pub even-self : (cs : List (List ℕ)) → AreEven cs cs
even-self cs = (refl, λ x. refl)

-- lists of one that hold the same
pub one-even : (c d : List ℕ) → AreEven (c ∷ []) (d ∷ []) → c ≡ d
one-even c d h = go (bytes_eq c d) refl
  where
    go : (b : Bool) → bytes_eq c d ≡ b → c ≡ d
    go true e = bytes_equal c d e
    go false e =
        let z : hit c d ≡ 0 = ap (λ b. cond b 1 0) e in
        let o : hit c c ≡ 1 = ap (λ b. cond b 1 0) (bytes_self c) in
        absurd (omega (arith, h.1 c, z, o))

even-of : (c d : List ℕ) → c ≡ d → AreEven (c ∷ []) (d ∷ [])
even-of c d e = (refl, λ x. ap (λ k. times x (k ∷ [])) e)

module _ (F G : Change) (related : (k e : ℕ) → AreEven (key_all (F k e var)) (key_all (G k e var)) × AreEven (key_all (F k e name_var)) (key_all (G k e name_var))) where
  -- trees that come to as many of each key
  abbrev ChangeAlike : Tree → Tree → Type 0
  ChangeAlike t u = (d : ℕ) → AreEven (key_all (change F d t)) (key_all (change G d u))

  -- one by one
  abbrev AllChangeAlike : Trees → Trees → Type 0
  AllChangeAlike none none = ⊤
  AllChangeAlike none (also u us) = ⊥
  AllChangeAlike (also t ts) none = ⊥
  AllChangeAlike (also t ts) (also u us) = ChangeAlike t u × AllChangeAlike ts us

  -- what changed members come to, summed up
  abbrev sum_after : Change → ℕ → (List (List ℕ) → ℕ) → Tree → ℕ
  sum_after H d f t = f (key_all (change H d t))

  flat-times : (H : Change) (x : List ℕ) (d : ℕ) (ts : Trees) → times x (key_all (change_all H d 0 ts)) ≡ total (sum_after H d (times x)) ts
  flat-times H x d none = refl
  flat-times H x d (also t none) =
      let z : d + 0 ≡ d = omega arith in
      ap (λ k. times x (key_all (change H k t))) z ∙ more (times x (key_all (change H d t)))
    where
      more : (n : ℕ) → n ≡ n + 0
      more n = omega arith
  flat-times H x d (also t (also u us)) =
      omega (
        arith,
        times-total x (joined_trees (change H d t) (change_all H d 0 (also u us))),
        total-joined (λ v. hit x (key v)) (change H d t) (change_all H d 0 (also u us)),
        times-total x (change H d t),
        times-total x (change_all H d 0 (also u us)),
        flat-times H x d (also u us),
      )

  flat-length : (H : Change) (d : ℕ) (ts : Trees) → length (key_all (change_all H d 0 ts)) ≡ total (sum_after H d length) ts
  flat-length H d none = refl
  flat-length H d (also t none) =
      let z : d + 0 ≡ d = omega arith in
      ap (λ k. length (key_all (change H k t))) z ∙ more (length (key_all (change H d t)))
    where
      more : (n : ℕ) → n ≡ n + 0
      more n = omega arith
  flat-length H d (also t (also u us)) =
      omega (
        arith,
        length-total (joined_trees (change H d t) (change_all H d 0 (also u us))),
        total-joined (λ v. 1) (change H d t) (change_all H d 0 (also u us)),
        length-total (change H d t),
        length-total (change_all H d 0 (also u us)),
        flat-length H d (also u us),
      )

  pairs-times : (x : List ℕ) (d : ℕ) (ts us : Trees) → AllChangeAlike ts us → total (sum_after F d (times x)) ts ≡ total (sum_after G d (times x)) us
  pairs-times x d none none h = refl
  pairs-times x d none (also u us) h = absurd h
  pairs-times x d (also t ts) none h = absurd h
  pairs-times x d (also t ts) (also u us) h = omega (arith, (h.0 d).1 x, pairs-times x d ts us h.1)

  pairs-length : (d : ℕ) (ts us : Trees) → AllChangeAlike ts us → total (sum_after F d length) ts ≡ total (sum_after G d length) us
  pairs-length d none none h = refl
  pairs-length d none (also u us) h = absurd h
  pairs-length d (also t ts) none h = absurd h
  pairs-length d (also t ts) (also u us) h = omega (arith, (h.0 d).0, pairs-length d ts us h.1)

  -- the members of congruent bags
  bag-even : (d : ℕ) (ts vs us : Trees) → AllChangeAlike ts vs → AreMixed vs us → AreEven (key_all (change_all F d 0 ts)) (key_all (change_all G d 0 us))
  bag-even d ts vs us h m = (
    flat-length F d ts ∙ pairs-length d ts vs h ∙ m (sum_after G d length) ∙ sym (flat-length G d us),
    λ x. flat-times F x d ts ∙ pairs-times x d ts vs h ∙ m (sum_after G d (times x)) ∙ sym (flat-times G x d us),
  )

  ascending-even : (ts us : Trees) → AreEven (key_all ts) (key_all us) → AreEven (key_all (trees (ascending (listed ts)))) (key_all (trees (ascending (listed us))))
  ascending-even ts us h = (
    length-total (trees (ascending (listed ts))) ∙ total-ascending (λ t. 1) (listed ts) ∙ back (λ t. 1) ts ∙ sym (length-total ts) ∙ h.0 ∙ length-total us ∙ sym (back (λ t. 1) us) ∙ sym (total-ascending (λ t. 1) (listed us)) ∙ sym (length-total (trees (ascending (listed us)))),
    λ x. times-total x (trees (ascending (listed ts))) ∙ total-ascending (λ t. hit x (key t)) (listed ts) ∙ back (λ t. hit x (key t)) ts ∙ sym (times-total x ts) ∙ h.1 x ∙ times-total x us ∙ sym (back (λ t. hit x (key t)) us) ∙ sym (total-ascending (λ t. hit x (key t)) (listed us)) ∙ sym (times-total x (trees (ascending (listed us)))),
  )
    where
      back : (f : Tree → ℕ) (ts : Trees) → total f (trees (listed ts)) ≡ total f ts
      back f ts = ap (total f) (trees-listed ts)

  keys-joined : (ts us : Trees) → key_all (joined_trees ts us) ≡ key_all ts ++ key_all us
  keys-joined none us = refl
  keys-joined (also t ts) us = ap (λ ks. key t ∷ ks) (keys-joined ts us)

  -- a form that is no use of a variable stays one form
  pub one-key : (l : Label) (ts : Trees) (u : Tree) → NoVariable l → key (node l ts) ≡ key u → (d : ℕ) → AreEven (key_all (change F d (node l ts))) (key_all (change G d u)) → key_all (change F d (node l ts)) ≡ key_all (change G d u)
  one-key l ts (node m us) v e d h =
      let q : l ≡ m = (equal_nodes l m ts us e).0 in
      subst (λ (x : Label). AreEven (key_all (change F d (node l ts))) (key_all (change G d (node x us))) → key_all (change F d (node l ts)) ≡ key_all (change G d (node x us))) q same-form h
    where
      same-form : AreEven (key_all (change F d (node l ts))) (key_all (change G d (node l us))) → key_all (change F d (node l ts)) ≡ key_all (change G d (node l us))
      same-form k =
          let a = change-node F d l ts v in
          let b = change-node G d l us v in
          let z = one-even (key (made_node l (listed (change_all F d (length (binders l ts)) ts)))) (key (made_node l (listed (change_all G d (length (binders l us)) us))))
          (subst (λ (x : Trees). AreEven (key_all x) (key_all (also (made_node l (listed (change_all G d (length (binders l us)) us))) none))) a (subst (λ (x : Trees). AreEven (key_all (change F d (node l ts))) (key_all x)) b k)) in
          ap key_all a ∙ ap (λ c. c ∷ []) z ∙ sym (ap key_all b)

  turn-keys : (d n : ℕ) (ts us : Trees) → key_all ts ≡ key_all us → AreNoUses ts → AllChangeAlike ts us → key_all (change_all F d n ts) ≡ key_all (change_all G d n us)
  turn-keys d n none none e v h = refl
  turn-keys d n none (also u us) e v h = absurd h
  turn-keys d n (also t ts) none e v h = absurd h
  turn-keys d n (also (node l ts) none) (also u none) e v h = let x : key (node l ts) ≡ key u = cc in one-key l ts u v.0 x (d + n) (h.0 (d + n))
  turn-keys d n (also t none) (also u (also w ws)) e v h = absurd h.1
  turn-keys d n (also t (also r rs)) (also u none) e v h = absurd h.1
  turn-keys d n (also (node l ts) (also r rs)) (also u (also w ws)) e v h =
      let x : key (node l ts) ≡ key u = cc in
      let y : key_all (also r rs) ≡ key_all (also w ws) = cc in
      keys-joined (change F d (node l ts)) (change_all F d n (also r rs)) ∙ ap (λ ks. ks ++ key_all (change_all F d n (also r rs))) (one-key l ts u v.0 x d (h.0 d))
      ∙ ap (λ ks. key_all (change G d u) ++ ks) (turn-keys d n (also r rs) (also w ws) y v.1 h.1) ∙ sym (keys-joined (change G d u) (change_all G d n (also w ws)))

  binders-same : (l : Label) (ts us : Trees) → key_all ts ≡ key_all us → length (binders l ts) ≡ length (binders l us)
  binders-same (receive k) ts us e = bound-total ts ∙ all-binds ts us e ∙ sym (bound-total us)
  binders-same case ts us e = bound-total ts ∙ all-binds ts us e ∙ sym (bound-total us)
  binders-same l ts us e = refl

  listed-keys : (l : Label) (ts us : Trees) → key_all ts ≡ key_all us → is_bag l ≡ false → key (node l (trees (listed ts))) ≡ key (node l (trees (listed us)))
  listed-keys l ts us e b = equal_keys l l (trees (listed ts)) (trees (listed us)) refl (ap (λ x. arranged (is_bag l) x) (ap key_all (trees-listed ts) ∙ e ∙ sym (ap key_all (trees-listed us))))

  sorted-keys : (d : ℕ) (ts us : Trees) → sorted (key_all ts) ≡ sorted (key_all us) → ((vs : Trees) → key_all ts ≡ key_all vs → AllChangeAlike ts vs)
      → sorted (key_all (trees (ascending (listed (change_all F d 0 ts))))) ≡ sorted (key_all (trees (ascending (listed (change_all G d 0 us)))))
  sorted-keys d ts us e f =
      let m = matching ts us (sorted-even (key_all ts) (key_all us) e) in
      even-sorted (key_all (trees (ascending (listed (change_all F d 0 ts))))) (key_all (trees (ascending (listed (change_all G d 0 us)))))
      (ascending-even (change_all F d 0 ts) (change_all G d 0 us) (bag-even d ts m.0 us (f m.0 m.1) m.2))

  steady-keys : (d : ℕ) (l : Label) (ts us : Trees) → is_bag l ≡ false → key_all ts ≡ key_all us → AreNoUses ts → AllChangeAlike ts us
      → key (node l (trees (listed (change_all F d (length (binders l ts)) ts)))) ≡ key (node l (trees (listed (change_all G d (length (binders l us)) us))))
  steady-keys d l ts us b e v h =
      let n : length (binders l ts) ≡ length (binders l us) = binders-same l ts us e in
      listed-keys l (change_all F d (length (binders l ts)) ts) (change_all G d (length (binders l us)) us)
      (turn-keys d (length (binders l ts)) ts us e v h ∙ ap (λ k. key_all (change_all G d k us)) n) b

  node-even : (l : Label) (ts us : Trees) → key (node l ts) ≡ key (node l us) → ((vs : Trees) → key_all ts ≡ key_all vs → AllChangeAlike ts vs) → AreNoUsesOutsideBags (is_bag l) ts → (d : ℕ)
      → AreEven (key_all (change F d (node l ts))) (key_all (change G d (node l us)))
  node-even (var i) ts us e f v d =
      elim (leb d i) as (λ (b : Bool). AreEven (key_all (cond b (F (i - d) d var) (also (node (var i) none) none))) (key_all (cond b (G (i - d) d var) (also (node (var i) none) none)))) [ true ↦ (related (i - d) d).0 | false ↦ even-self (key_all (also (node (var i) none) none)) ]
  node-even (name_var i) ts us e f v d =
      elim (leb d i) as (λ (b : Bool). AreEven (key_all (cond b (F (i - d) d name_var) (also (node (name_var i) none) none))) (key_all (cond b (G (i - d) d name_var) (also (node (name_var i) none) none)))) [ true ↦ (related (i - d) d).1 | false ↦ even-self (key_all (also (node (name_var i) none) none)) ]
  node-even par ts us e f v d =
      even-of _ _ (equal_keys par par (trees (ascending (listed (change_all F d 0 ts)))) (trees (ascending (listed (change_all G d 0 us)))) refl (sorted-keys d ts us (equal_nodes par par ts us e).1 f))
  node-even set ts us e f v d =
      even-of _ _ (equal_keys set set (trees (ascending (listed (change_all F d 0 ts)))) (trees (ascending (listed (change_all G d 0 us)))) refl (sorted-keys d ts us (equal_nodes set set ts us e).1 f))
  node-even dict ts us e f v d =
      even-of _ _ (equal_keys dict dict (trees (ascending (listed (change_all F d 0 ts)))) (trees (ascending (listed (change_all G d 0 us)))) refl (sorted-keys d ts us (equal_nodes dict dict ts us e).1 f))
  node-even l ts us e f v d =
      let q : key_all ts ≡ key_all us = (equal_nodes l l ts us e).1 in
      even-of _ _ (steady-keys d l ts us refl q v (f us q))

  mutual
    pub alike : (t u : Tree) → key t ≡ key u → IsNeat t → ChangeAlike t u
    alike (node l ts) (node m us) e h =
        let q : l ≡ m = (equal_nodes l m ts us e).0 in
        let k : key (node l ts) ≡ key (node l us) = subst (λ (x : Label). key (node l ts) ≡ key (node x us)) (sym q) e in
        λ d. subst (λ (x : Label). AreEven (key_all (change F d (node l ts))) (key_all (change G d (node x us)))) q (node-even l ts us k (λ vs p. alike-all ts vs p h.1) h.0 d)

    alike-all : (ts vs : Trees) → key_all ts ≡ key_all vs → AreNeat ts → AllChangeAlike ts vs
    alike-all none none e h = tt
    alike-all none (also v vs) e h = cc
    alike-all (also t ts) none e h = cc
    alike-all (also t ts) (also v vs) e h =
        let x : key t ≡ key v = cc in
        let y : key_all ts ≡ key_all vs = cc in
        (alike t v x h.0, alike-all ts vs y h.1)
