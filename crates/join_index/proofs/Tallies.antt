-- Groups that are counted.
use Rattle.std.proofs.Common.{◌≡◌, ℕ, suc, pred, ◌+◌, ◌≤◌, Bool, true, false, ◌&&◌, ◌||◌, not, cond, List, [], ◌∷◌, ◌++◌, filter, fold, length, map as each, eqb, refl, sym, ap, subst, ◌∙◌, arith, append-nil, append_assoc}
use Rattle.std.specs.List.{list_any}
use Rattle.calculus.proofs.Members.{Every}
use Rattle.join_index.specs.Groups.{Channels, same_group, stands, firsts, but_last}
use Rattle.join_index.specs.Index.{Tally, one_more, one_less, tallies}
use Rattle.join_index.proofs.Sames.{same-back, same-through, same-as, either-way, unequal, filter-alike, filter-twice, filter-all}

-- the groups of a count
abbrev pub groups_in : List Tally → List Channels
groups_in es = each (λ e. e.0) es

pub one-at-end : (es : List Tally) (gs : List Channels) (g : Channels) → fold one_more es (gs ++ g ∷ []) ≡ one_more (fold one_more es gs) g
one-at-end es [] g = refl
one-at-end es (h ∷ gs) g = one-at-end (one_more es h) gs g

-- each number is within these bounds
abbrev Within : ℕ → List Tally → Type 0
Within m es = Every (λ e. (1 ≤ e.1) × (e.1 ≤ m)) es

more-within : (m : ℕ) (es : List Tally) (g : Channels) → Within m es → Within (suc m) (one_more es g)
more-within m [] g w = ((omega arith, omega arith), tt)
more-within m (e ∷ es) g w = go (same_group g e.0) (more-within m es g w.1)
  where
    wider : (ds : List Tally) → Within m ds → Within (suc m) ds
    wider [] h = tt
    wider (d ∷ ds) h = ((h.0.0, omega (arith, h.0.1)), wider ds h.1)

    go : (b : Bool) → Within (suc m) (one_more es g) → Within (suc m) (cond b ((e.0, suc e.1) ∷ es) (e ∷ one_more es g))
    go true next = ((omega arith, omega (arith, w.0.1)), wider es w.1)
    go false next = ((w.0.0, omega (arith, w.0.1)), next)

all-within : (m : ℕ) (es : List Tally) (gs : List Channels) → Within m es → Within (m + length gs) (fold one_more es gs)
all-within m es [] w = subst (λ n. Within n es) (omega arith) w
all-within m es (g ∷ gs) w = subst (λ n. Within n (fold one_more (one_more es g) gs)) (omega arith) (all-within (suc m) (one_more es g) gs (more-within m es g w))

-- a group stands at least once, and no more often than there are groups
pub tallies-within : (gs : List Channels) → Within (length gs) (tallies gs)
tallies-within gs = subst (λ n. Within n (tallies gs)) (omega arith) (all-within 0 [] gs tt)

-- one less undoes one more
undo : (es : List Tally) (g h : Channels) (m : ℕ) → Within m es → same_group g h ≡ true → one_less (one_more es h) g ≡ es
undo [] g h m w e = ap (λ b. cond b (cond (eqb 1 1) [] ((h, 0) ∷ [])) ((h, 1) ∷ [])) e
undo (d ∷ es) g h m w e = go (same_group h d.0) refl (undo es g h m w.1 e)
  where
    hit : (b : Bool) → same_group h d.0 ≡ b → same_group g d.0 ≡ b
    hit b f = same-as g h d.0 e ∙ f

    kept : (n : ℕ) → 1 ≤ n → cond (eqb (suc n) 1) es ((d.0, pred (suc n)) ∷ es) ≡ (d.0, n) ∷ es
    kept n l = ap (λ b. cond b es ((d.0, n) ∷ es)) (unequal (suc n) 1 (λ k. omega (arith, k, l)))

    go : (b : Bool) → same_group h d.0 ≡ b → one_less (one_more es h) g ≡ es → one_less (cond b ((d.0, suc d.1) ∷ es) (d ∷ one_more es h)) g ≡ d ∷ es
    go true f next = ap (λ b. cond b (cond (eqb (suc d.1) 1) es ((d.0, pred (suc d.1)) ∷ es)) ((d.0, suc d.1) ∷ one_less es g)) (hit true f) ∙ kept d.1 w.0.0
    go false f next = ap (λ b. cond b (cond (eqb d.1 1) (one_more es h) ((d.0, pred d.1) ∷ one_more es h)) (d ∷ one_less (one_more es h) g)) (hit false f) ∙ ap (λ l. d ∷ l) next

-- and goes by another group
pass : (es : List Tally) (g h : Channels) → same_group g h ≡ false → one_less (one_more es h) g ≡ one_more (one_less es g) h
pass [] g h e = ap (λ b. cond b (cond (eqb 1 1) [] ((h, 0) ∷ [])) ((h, 1) ∷ [])) e
pass (d ∷ es) g h e = go (same_group h d.0) refl (same_group g d.0) refl (pass es g h e)
  where
    last : (b : Bool) → same_group h d.0 ≡ false → cond b (one_more es h) ((d.0, pred d.1) ∷ one_more es h) ≡ one_more (cond b es ((d.0, pred d.1) ∷ es)) h
    last true f = refl
    last false f = sym (ap (λ b. cond b ((d.0, suc (pred d.1)) ∷ es) ((d.0, pred d.1) ∷ one_more es h)) f)

    go : (b : Bool) → same_group h d.0 ≡ b → (c : Bool) → same_group g d.0 ≡ c → one_less (one_more es h) g ≡ one_more (one_less es g) h
        → one_less (cond b ((d.0, suc d.1) ∷ es) (d ∷ one_more es h)) g ≡ one_more (cond c (cond (eqb d.1 1) es ((d.0, pred d.1) ∷ es)) (d ∷ one_less es g)) h
    go true f true k next = cc (e, same-through g d.0 h k (same-back h d.0 f))
    go true f false k next =
        ap (λ b. cond b (cond (eqb (suc d.1) 1) es ((d.0, pred (suc d.1)) ∷ es)) ((d.0, suc d.1) ∷ one_less es g)) k ∙ sym (ap (λ b. cond b ((d.0, suc d.1) ∷ one_less es g) (d ∷ one_more (one_less es g) h)) f)
    go false f true k next = ap (λ b. cond b (cond (eqb d.1 1) (one_more es h) ((d.0, pred d.1) ∷ one_more es h)) (d ∷ one_less (one_more es h) g)) k ∙ last (eqb d.1 1) f
    go false f false k next =
        ap (λ b. cond b (cond (eqb d.1 1) (one_more es h) ((d.0, pred d.1) ∷ one_more es h)) (d ∷ one_less (one_more es h) g)) k ∙ ap (λ l. d ∷ l) next
        ∙ sym (ap (λ b. cond b ((d.0, suc d.1) ∷ one_less es g) (d ∷ one_more (one_less es g) h)) f)

-- what is left of a count that began with es, where a group is one of those that came since, and where it is not
abbrev Left : List Tally → List Channels → Channels → Bool → Type 0
Left es gs g true = one_less (fold one_more es gs) g ≡ fold one_more es (but_last g gs)
Left es gs g false = one_less (fold one_more es gs) g ≡ fold one_more (one_less es g) gs

left : (m : ℕ) (es : List Tally) (gs : List Channels) (g : Channels) → Within m es → Left es gs g (stands g gs)
left m es [] g w = refl
left m es (h ∷ gs) g w = go (stands g gs) refl (same_group g h) refl (left (suc m) (one_more es h) gs g (more-within m es h w))
  where
    go : (b : Bool) → stands g gs ≡ b → (c : Bool) → same_group g h ≡ c → Left (one_more es h) gs g b → Left es (h ∷ gs) g (c || stands g gs)
    go true f true k next = next ∙ sym (ap (λ b. fold one_more es (cond (same_group g h && not b) gs (h ∷ but_last g gs))) f ∙ ap (λ c. fold one_more es (cond (c && false) gs (h ∷ but_last g gs))) k)
    go true f false k next = subst (Left es (h ∷ gs) g) (sym f) (next ∙ sym (ap (λ c. fold one_more es (cond (c && not (stands g gs)) gs (h ∷ but_last g gs))) k))
    go false f true k next =
        next ∙ ap (λ l. fold one_more l gs) (undo es g h m w k)
        ∙ sym (ap (λ b. fold one_more es (cond (same_group g h && not b) gs (h ∷ but_last g gs))) f ∙ ap (λ c. fold one_more es (cond (c && true) gs (h ∷ but_last g gs))) k)
    go false f false k next = subst (Left es (h ∷ gs) g) (sym f) (next ∙ ap (λ l. fold one_more l gs) (pass es g h k))

pub but-last-none : (g : Channels) (hs : List Channels) → stands g hs ≡ false → but_last g hs ≡ hs
but-last-none g [] e = refl
but-last-none g (h ∷ hs) e = next (same_group g h) refl e (but-last-none g hs)
  where
    next : (b : Bool) → same_group g h ≡ b → b || stands g hs ≡ false → (stands g hs ≡ false → but_last g hs ≡ hs) → but_last g (h ∷ hs) ≡ h ∷ hs
    next true k f n = cc
    next false k f n = ap (λ b. cond (b && not (stands g hs)) hs (h ∷ but_last g hs)) k ∙ ap (λ l. h ∷ l) (n f)

pub but-last-shorter : (g : Channels) (hs : List Channels) → stands g hs ≡ true → length (but_last g hs) + 1 ≡ length hs
but-last-shorter g [] e = cc
but-last-shorter g (h ∷ hs) e = next (same_group g h) refl (stands g hs) refl e (but-last-shorter g hs)
  where
    next : (b : Bool) → same_group g h ≡ b → (c : Bool) → stands g hs ≡ c → b || c ≡ true → (c ≡ true → length (but_last g hs) + 1 ≡ length hs)
        → length (cond (b && not c) hs (h ∷ but_last g hs)) + 1 ≡ length (h ∷ hs)
    next true k true f e n = omega (arith, n refl)
    next true k false f e n = omega arith
    next false k true f e n = omega (arith, n refl)
    next false k false f e n = cc

-- the last of a group is taken out of a count
pub one-left : (gs : List Channels) (g : Channels) → one_less (tallies gs) g ≡ tallies (but_last g gs)
one-left gs g = go (stands g gs) refl (left 0 [] gs g tt)
  where
    go : (b : Bool) → stands g gs ≡ b → Left [] gs g b → one_less (tallies gs) g ≡ tallies (but_last g gs)
    go true e h = h
    go false e h = h ∙ sym (ap tallies (but-last-none g gs e))

-- one more of a group adds it
any-more : (es : List Tally) (g h : Channels) → list_any (same_group g) (groups_in (one_more es h)) ≡ list_any (same_group g) (groups_in es) || same_group g h
any-more [] g h = go (same_group g h)
  where
    go : (b : Bool) → b || false ≡ b
    go true = refl
    go false = refl
any-more (e ∷ es) g h = go (same_group h e.0) refl (any-more es g h)
  where
    three : (a b c : Bool) → a || (b || c) ≡ (a || b) || c
    three true b c = refl
    three false b c = refl

    again : (a b : Bool) → a || b ≡ (a || b) || a
    again true b = refl
    again false true = refl
    again false false = refl

    go : (b : Bool) → same_group h e.0 ≡ b → list_any (same_group g) (groups_in (one_more es h)) ≡ list_any (same_group g) (groups_in es) || same_group g h
        → list_any (same_group g) (groups_in (cond b ((e.0, suc e.1) ∷ es) (e ∷ one_more es h))) ≡ (same_group g e.0 || list_any (same_group g) (groups_in es)) || same_group g h
    go true f next = again (same_group g e.0) (list_any (same_group g) (groups_in es)) ∙ ap (λ b. (same_group g e.0 || list_any (same_group g) (groups_in es)) || b) (either-way g e.0 ∙ sym (same-as h e.0 g f) ∙ either-way h g)
    go false f next = ap (λ b. same_group g e.0 || b) next ∙ three (same_group g e.0) (list_any (same_group g) (groups_in es)) (same_group g h)

any-all : (es : List Tally) (gs : List Channels) (g : Channels) → list_any (same_group g) (groups_in (fold one_more es gs)) ≡ list_any (same_group g) (groups_in es) || stands g gs
any-all es [] g = go (list_any (same_group g) (groups_in es))
  where
    go : (b : Bool) → b ≡ b || false
    go true = refl
    go false = refl
any-all es (h ∷ gs) g = any-all (one_more es h) gs g ∙ ap (λ b. b || stands g gs) (any-more es g h) ∙ three (list_any (same_group g) (groups_in es)) (same_group g h) (stands g gs)
  where
    three : (a b c : Bool) → (a || b) || c ≡ a || (b || c)
    three true b c = refl
    three false b c = refl

-- a group stands in a list where it is counted
pub stands-counted : (gs : List Channels) (g : Channels) → list_any (same_group g) (groups_in (tallies gs)) ≡ stands g gs
stands-counted gs g = any-all [] gs g

-- whether a group is none of these
abbrev new_to : List Tally → Channels → Bool
new_to es g = not (list_any (same_group g) (groups_in es))

firsts-from : (es : List Tally) (gs : List Channels) → groups_in (fold one_more es gs) ≡ groups_in es ++ filter (new_to es) (firsts gs)
firsts-from es [] = sym (append-nil (groups_in es))
firsts-from es (h ∷ gs) = firsts-from (one_more es h) gs ∙ ap (λ l. groups_in (one_more es h) ++ l) (filter-alike (new_to (one_more es h)) (λ x. not (same_group h x) && new_to es x) (firsts gs) later) ∙ go (list_any (same_group h) (groups_in es)) refl
  where
    later : (x : Channels) → new_to (one_more es h) x ≡ not (same_group h x) && new_to es x
    later x = ap not (any-more es x h ∙ ap (λ b. list_any (same_group x) (groups_in es) || b) (either-way x h)) ∙ swap (list_any (same_group x) (groups_in es)) (same_group h x)
      where
        swap : (a b : Bool) → not (a || b) ≡ not b && not a
        swap true true = refl
        swap true false = refl
        swap false true = refl
        swap false false = refl

    -- a new group goes last, and one that is there adds none
    old-keys : (ds : List Tally) → list_any (same_group h) (groups_in ds) ≡ true → groups_in (one_more ds h) ≡ groups_in ds
    old-keys [] e = cc
    old-keys (d ∷ ds) e = step (same_group h d.0) refl e (old-keys ds)
      where
        step : (b : Bool) → same_group h d.0 ≡ b → b || list_any (same_group h) (groups_in ds) ≡ true → (list_any (same_group h) (groups_in ds) ≡ true → groups_in (one_more ds h) ≡ groups_in ds)
            → groups_in (one_more (d ∷ ds) h) ≡ d.0 ∷ groups_in ds
        step true k f n = ap (λ b. groups_in (cond b ((d.0, suc d.1) ∷ ds) (d ∷ one_more ds h))) k
        step false k f n = ap (λ b. groups_in (cond b ((d.0, suc d.1) ∷ ds) (d ∷ one_more ds h))) k ∙ ap (λ l. d.0 ∷ l) (n f)

    new-keys : (ds : List Tally) → list_any (same_group h) (groups_in ds) ≡ false → groups_in (one_more ds h) ≡ groups_in ds ++ h ∷ []
    new-keys [] e = refl
    new-keys (d ∷ ds) e = step (same_group h d.0) refl e (new-keys ds)
      where
        step : (b : Bool) → same_group h d.0 ≡ b → b || list_any (same_group h) (groups_in ds) ≡ false → (list_any (same_group h) (groups_in ds) ≡ false → groups_in (one_more ds h) ≡ groups_in ds ++ h ∷ [])
            → groups_in (one_more (d ∷ ds) h) ≡ d.0 ∷ (groups_in ds ++ h ∷ [])
        step true k f n = cc
        step false k f n = ap (λ b. groups_in (cond b ((d.0, suc d.1) ∷ ds) (d ∷ one_more ds h))) k ∙ ap (λ l. d.0 ∷ l) (n f)

    go : (b : Bool) → list_any (same_group h) (groups_in es) ≡ b
        → groups_in (one_more es h) ++ filter (λ x. not (same_group h x) && new_to es x) (firsts gs) ≡ groups_in es ++ cond (not b) (h ∷ filter (new_to es) (filter (λ x. not (same_group h x)) (firsts gs))) (filter (new_to es) (filter (λ x. not (same_group h x)) (firsts gs)))
    go true e = ap (λ l. l ++ filter (λ x. not (same_group h x) && new_to es x) (firsts gs)) (old-keys es e) ∙ ap (λ l. groups_in es ++ l) (sym (filter-twice (new_to es) (λ x. not (same_group h x)) (firsts gs)))
    go false e =
        ap (λ l. l ++ filter (λ x. not (same_group h x) && new_to es x) (firsts gs)) (new-keys es e) ∙ append_assoc (groups_in es) (h ∷ []) (filter (λ x. not (same_group h x) && new_to es x) (firsts gs))
        ∙ ap (λ l. groups_in es ++ h ∷ l) (sym (filter-twice (new_to es) (λ x. not (same_group h x)) (firsts gs)))

-- the groups that are counted are those that first stand
pub firsts-counted : (gs : List Channels) → groups_in (tallies gs) ≡ firsts gs
firsts-counted gs = firsts-from [] gs ∙ filter-all (new_to []) (firsts gs) (λ x. refl)
