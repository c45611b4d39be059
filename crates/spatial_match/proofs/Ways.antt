-- A search among ways, one target after another.
use Rattle.std.proofs.Common.{◌≡◌, ℕ, zero, suc, ◌+◌, ◌-◌, ◌<◌, ◌≤◌, Bool, true, false, cond, List, [], ◌∷◌, ◌++◌, length, map as each, drop, get_or, refl, sym, ap, ◌∙◌, subst, arith, eq-eqb, add-one}
use Rattle.std.specs.Prelude.{◌||◌, eqb, Option, Some, None, flat_map, option_map}
use Rattle.std.proofs.Math.Seq.{drop-cons}
use Rattle.std.proofs.lemmas.List.{drop_all}
use Rattle.std.proofs.lemmas.Bool.Decides.{nat_tests}
use Rattle.calculus.specs.Tree.{Tree, par}
use Rattle.calculus.specs.Shape.{leaf}
use Rattle.calculus.specs.Matching.{Bindings, Member, Choice, choices, ways, first_of_all}
use Rattle.free_places.specs.Places.{AreUsed, NextFree, has, left_from}
use Rattle.match_targets.specs.Found.{first_way}
use Rattle.spatial_match.specs.Search.{trial, at_place, FailedBefore}
use Rattle.match_targets.specs.Targets.{Repeats}

-- the one answer, or else the other
abbrev pub or_else : Option Choice → Option Choice → Option Choice
or_else (Some x) y = Some x
or_else None y = y

module _ (f : List Tree → Bool) where
  pick : (b : Bool) (x : Choice) (p q r : Option Choice) → p ≡ or_else q r → cond b (Some x) p ≡ or_else (cond b (Some x) q) r
  pick true x p q r e = refl
  pick false x p q r e = e

  pub first_way-append : (xs ys : List Choice) → first_way f (xs ++ ys) ≡ or_else (first_way f xs) (first_way f ys)
  first_way-append [] ys = refl
  first_way-append (x ∷ xs) ys = pick (f x.1) x (first_way f (xs ++ ys)) (first_way f xs) (first_way f ys) (first_way-append xs ys)

  -- ways with bindings before theirs
  abbrev before : Bindings → Choice → Choice
  before b w = (b ∷ w.0, w.1)

  carried : (b : Bool) (h : Bindings) (x : Choice) (p q : Option Choice) → p ≡ option_map (before h) q → cond b (Some (before h x)) p ≡ option_map (before h) (cond b (Some x) q)
  carried true h x p q e = refl
  carried false h x p q e = e

  pub first_way-each : (h : Bindings) (ws : List Choice) → first_way f (each (λ w. (h ∷ w.0, w.1)) ws) ≡ option_map (before h) (first_way f ws)
  first_way-each h [] = refl
  first_way-each h (w ∷ ws) = carried (f w.1) h w (first_way f (each (λ v. (h ∷ v.0, v.1)) ws)) (first_way f ws) (first_way-each h ws)

  -- where the ways after a match come to nothing, all matches do
  dead_ways : (ws : List Choice) (bs : List Bindings) → first_way f ws ≡ None → first_way f (flat_map (λ b. each (λ w. (b ∷ w.0, w.1)) ws) bs) ≡ None
  dead_ways ws [] h = refl
  dead_ways ws (b ∷ bs) h =
      let rest = flat_map (λ (c : Bindings). each (λ (w : Choice). (c ∷ w.0, w.1)) ws) bs in
      first_way-append (each (λ w. (b ∷ w.0, w.1)) ws) rest
      ∙ ap (λ p. or_else p (first_way f rest)) (first_way-each b ws ∙ ap (option_map (before b)) h) ∙ dead_ways ws bs h

  no_match : (ws : List Choice) (bs : List Bindings) → first_of_all bs ≡ None → first_way f (flat_map (λ b. each (λ w. (b ∷ w.0, w.1)) ws) bs) ≡ None
  no_match ws [] h = refl
  no_match ws (b ∷ bs) h = cc

  a_match : (ws : List Choice) (bs : List Bindings) (b : Bindings) (w : Choice) → first_of_all bs ≡ Some b → first_way f ws ≡ Some w
      → first_way f (flat_map (λ c. each (λ v. (c ∷ v.0, v.1)) ws) bs) ≡ Some (b ∷ w.0, w.1)
  a_match ws [] b w h k = cc
  a_match ws (c ∷ bs) b w h k =
      let e : c ≡ b = cc in
      let rest = flat_map (λ (d : Bindings). each (λ (v : Choice). (d ∷ v.0, v.1)) ws) bs in
      first_way-append (each (λ v. (c ∷ v.0, v.1)) ws) rest
      ∙ ap (λ p. or_else p (first_way f rest)) (first_way-each c ws ∙ ap (option_map (before c)) k) ∙ ap (λ d. Some (d ∷ w.0, w.1)) e

-- which numbers are among some with one more
or_more : (a b c : Bool) → (b ≡ true → c ≡ true) → (a || b) ≡ true → (a || c) ≡ true
or_more true b c f h = refl
or_more false b c f h = f h

or_true : (a b : Bool) → b ≡ true → (a || b) ≡ true
or_true true b h = refl
or_true false b h = h

has-more : (us : List ℕ) (k i : ℕ) → has us i ≡ true → has (us ++ k ∷ []) i ≡ true
has-more [] k i h = cc
has-more (u ∷ us) k i h = or_more (eqb u i) (has us i) (has (us ++ k ∷ []) i) (has-more us k i) h

has-self : (us : List ℕ) (k : ℕ) → has (us ++ k ∷ []) k ≡ true
has-self [] k = ap (λ b. b || false) (eq-eqb k k refl)
has-self (u ∷ us) k = or_true (eqb u k) (has (us ++ k ∷ []) k) (has-self us k)

unequal : (k i : ℕ) → (k ≡ i → ⊥) → eqb k i ≡ false
unequal k i h = grind (arith, nat_tests)

has-other : (us : List ℕ) (k i : ℕ) → (k ≡ i → ⊥) → has (us ++ k ∷ []) i ≡ has us i
has-other [] k i h = ap (λ b. b || false) (unequal k i h)
has-other (u ∷ us) k i h = ap (λ b. eqb u i || b) (has-other us k i h)

-- one number before these targets changes nothing
left-after : (us : List ℕ) (k i : ℕ) (ts : List Tree) → k < i → left_from i (us ++ k ∷ []) ts ≡ left_from i us ts
left-after us k i [] h = refl
left-after us k i (t ∷ ts) h =
    ap (λ b. cond b (left_from (suc i) (us ++ k ∷ []) ts) (t ∷ left_from (suc i) (us ++ k ∷ []) ts)) (has-other us k i (λ e. omega arith))
    ∙ ap (λ vs. cond (has us i) vs (t ∷ vs)) (left-after us k (suc i) ts (omega arith))

-- each target from number i on that is not used, with what is given for its number
abbrev pub chosen_by : List ℕ → (ℕ → List Tree) → ℕ → List Tree → List (Tree × List Tree)
chosen_by us F i [] = []
chosen_by us F i (t ∷ ts) = cond (has us i) (chosen_by us F (suc i) ts) ((t, F i) ∷ chosen_by us F (suc i) ts)

chosen-same : (us : List ℕ) (F G : ℕ → List Tree) (i : ℕ) (ts : List Tree) → ((k : ℕ) → i ≤ k → F k ≡ G k) → chosen_by us F i ts ≡ chosen_by us G i ts
chosen-same us F G i [] h = refl
chosen-same us F G i (t ∷ ts) h =
    ap (λ cs. cond (has us i) cs ((t, F i) ∷ cs)) (chosen-same us F G (suc i) ts (λ k l. h k (omega arith)))
    ∙ ap (λ vs. cond (has us i) (chosen_by us G (suc i) ts) ((t, vs) ∷ chosen_by us G (suc i) ts)) (h i (omega arith))

each-cond : (b : Bool) (g : Tree × List Tree → Tree × List Tree) (xs ys : List (Tree × List Tree)) → each g (cond b xs ys) ≡ cond b (each g xs) (each g ys)
each-cond true g xs ys = refl
each-cond false g xs ys = refl

each-chosen : (us : List ℕ) (F : ℕ → List Tree) (t : Tree) (i : ℕ) (ts : List Tree) → each (λ c. (c.0, t ∷ c.1)) (chosen_by us F i ts) ≡ chosen_by us (λ k. t ∷ F k) i ts
each-chosen us F t i [] = refl
each-chosen us F t i (u ∷ ts) =
    each-cond (has us i) (λ c. (c.0, t ∷ c.1)) (chosen_by us F (suc i) ts) ((u, F i) ∷ chosen_by us F (suc i) ts)
    ∙ ap (λ cs. cond (has us i) cs ((u, t ∷ F i) ∷ cs)) (each-chosen us F t (suc i) ts)

-- what is left where number k is used besides
abbrev one_used : List ℕ → ℕ → List Tree → ℕ → List Tree
one_used us i ts k = left_from i (us ++ k ∷ []) ts

taken-more : (us : List ℕ) (i k : ℕ) (t : Tree) (ts : List Tree) → has us i ≡ true → one_used us (suc i) ts k ≡ one_used us i (t ∷ ts) k
taken-more us i k t ts h = sym (ap (λ b. cond b (one_used us (suc i) ts k) (t ∷ one_used us (suc i) ts k)) (has-more us k i h))

free-more : (us : List ℕ) (i k : ℕ) (t : Tree) (ts : List Tree) → has us i ≡ false → i < k → t ∷ one_used us (suc i) ts k ≡ one_used us i (t ∷ ts) k
free-more us i k t ts h l =
    sym (ap (λ b. cond b (one_used us (suc i) ts k) (t ∷ one_used us (suc i) ts k)) (has-other us k i (λ e. omega arith) ∙ h))

free-self : (us : List ℕ) (i : ℕ) (t : Tree) (ts : List Tree) → left_from (suc i) us ts ≡ one_used us i (t ∷ ts) i
free-self us i t ts =
    sym (ap (λ b. cond b (one_used us (suc i) ts i) (t ∷ one_used us (suc i) ts i)) (has-self us i) ∙ left-after us i (suc i) ts (omega arith))

left-taken : (us : List ℕ) (i : ℕ) (t : Tree) (ts : List Tree) → has us i ≡ true → left_from i us (t ∷ ts) ≡ left_from (suc i) us ts
left-taken us i t ts h = ap (λ b. cond b (left_from (suc i) us ts) (t ∷ left_from (suc i) us ts)) h

left-free : (us : List ℕ) (i : ℕ) (t : Tree) (ts : List Tree) → has us i ≡ false → left_from i us (t ∷ ts) ≡ t ∷ left_from (suc i) us ts
left-free us i t ts h = ap (λ b. cond b (left_from (suc i) us ts) (t ∷ left_from (suc i) us ts)) h

chosen-taken : (us : List ℕ) (F : ℕ → List Tree) (i : ℕ) (t : Tree) (ts : List Tree) → has us i ≡ true → chosen_by us F i (t ∷ ts) ≡ chosen_by us F (suc i) ts
chosen-taken us F i t ts h = ap (λ b. cond b (chosen_by us F (suc i) ts) ((t, F i) ∷ chosen_by us F (suc i) ts)) h

chosen-free : (us : List ℕ) (F : ℕ → List Tree) (i : ℕ) (t : Tree) (ts : List Tree) → has us i ≡ false → chosen_by us F i (t ∷ ts) ≡ (t, F i) ∷ chosen_by us F (suc i) ts
chosen-free us F i t ts h = ap (λ b. cond b (chosen_by us F (suc i) ts) ((t, F i) ∷ chosen_by us F (suc i) ts)) h

module _ (us : List ℕ) (i : ℕ) (t : Tree) (ts : List Tree) (ih : choices (left_from (suc i) us ts) ≡ chosen_by us (one_used us (suc i) ts) (suc i) ts) where
  choose-taken : has us i ≡ true → choices (left_from i us (t ∷ ts)) ≡ chosen_by us (one_used us i (t ∷ ts)) i (t ∷ ts)
  choose-taken h =
      ap choices (left-taken us i t ts h) ∙ ih
      ∙ chosen-same us (one_used us (suc i) ts) (one_used us i (t ∷ ts)) (suc i) ts (λ k l. taken-more us i k t ts h)
      ∙ sym (chosen-taken us (one_used us i (t ∷ ts)) i t ts h)

  choose-free : has us i ≡ false → choices (left_from i us (t ∷ ts)) ≡ chosen_by us (one_used us i (t ∷ ts)) i (t ∷ ts)
  choose-free h =
      ap choices (left-free us i t ts h)
      ∙ ap (λ cs. (t, left_from (suc i) us ts) ∷ each (λ (c : Tree × List Tree). (c.0, t ∷ c.1)) cs) ih
      ∙ ap (λ cs. (t, left_from (suc i) us ts) ∷ cs) (each-chosen us (one_used us (suc i) ts) t (suc i) ts)
      ∙ ap (λ cs. (t, left_from (suc i) us ts) ∷ cs)
      (chosen-same us (λ k. t ∷ one_used us (suc i) ts k) (one_used us i (t ∷ ts)) (suc i) ts (λ k l. free-more us i k t ts h (omega arith)))
      ∙ ap (λ vs. (t, vs) ∷ chosen_by us (one_used us i (t ∷ ts)) (suc i) ts) (free-self us i t ts)
      ∙ sym (chosen-free us (one_used us i (t ∷ ts)) i t ts h)

by_cases : {P : Type 0} (b : Bool) → (b ≡ true → P) → (b ≡ false → P) → P
by_cases true f g = f refl
by_cases false f g = g refl

-- the choices among targets that are left are those of the numbers that are not used
choices-left : (us : List ℕ) (i : ℕ) (ts : List Tree) → choices (left_from i us ts) ≡ chosen_by us (one_used us i ts) i ts
choices-left us i [] = refl
choices-left us i (t ∷ ts) =
    let ih = choices-left us (suc i) ts in
    by_cases (has us i) (choose-taken us i t ts ih) (choose-free us i t ts ih)

-- of two equal targets side by side it is one which is used
swapped-here : (us : List ℕ) (i : ℕ) (t u : Tree) (vs : List Tree) → has us i ≡ false → has us (suc i) ≡ false → t ≡ u → one_used us i (t ∷ u ∷ vs) i ≡ one_used us i (t ∷ u ∷ vs) (suc i)
swapped-here us i t u vs h k e =
    sym (free-self us i t (u ∷ vs)) ∙ left-free us (suc i) u vs k ∙ ap (λ x. x ∷ left_from (suc (suc i)) us vs) (sym e)
    ∙ ap (λ xs. t ∷ xs) (free-self us (suc i) u vs) ∙ free-more us i (suc i) t (u ∷ vs) h (omega arith)

swapped : (us : List ℕ) (i d k : ℕ) (ts : List Tree) → k ≡ i + d → has us k ≡ false → has us (suc k) ≡ false → suc d < length ts → get_or ts d (leaf par) ≡ get_or ts (suc d) (leaf par)
    → one_used us i ts k ≡ one_used us i ts (suc k)
swapped us i d k [] q h l n e = absurd (omega arith)
swapped us i d k (t ∷ []) q h l n e = absurd (omega arith)
swapped us i zero k (t ∷ u ∷ vs) q h l n e =
    let P : ℕ → Type 0 = λ x. one_used us i (t ∷ u ∷ vs) x ≡ one_used us i (t ∷ u ∷ vs) (suc x) in
    let z : i ≡ k = omega (arith, q) in
    subst P z (swapped-here us i t u vs (subst (λ x. has us x ≡ false) (sym z) h) (subst (λ x. has us (suc x) ≡ false) (sym z) l) e)
swapped us i (suc d) k (t ∷ u ∷ vs) q h l n e =
    let ih = swapped us (suc i) d k (u ∷ vs) (omega (arith, q)) h l (omega arith) e in
    by_cases (has us i) (λ b. sym (taken-more us i k t (u ∷ vs) b) ∙ ih ∙ taken-more us i (suc k) t (u ∷ vs) b)
    (λ b. sym (free-more us i k t (u ∷ vs) b (omega (arith, q))) ∙ ap (λ xs. t ∷ xs) ih ∙ free-more us i (suc k) t (u ∷ vs) b (omega (arith, q)))

module _ (f : List Tree → Bool) (m : Member) (ms : List Member) (us : List ℕ) (ts : List Tree) where
  -- the ways of the targets from number j on
  abbrev pub later : ℕ → List Choice
  later j = flat_map (trial m ms) (chosen_by us (one_used us 0 ts) j (drop j ts))

  pub starts : m.wide ≡ false → first_way f (ways (m ∷ ms) (left_from 0 us ts)) ≡ first_way f (later 0)
  starts h =
      let ls = left_from 0 us ts in
      ap (λ b. first_way f (cond b (each (λ (w : Choice). ([] ∷ w.0, w.1)) (ways ms ls)) (flat_map (trial m ms) (choices ls)))) h
      ∙ ap (λ cs. first_way f (flat_map (trial m ms) cs)) (choices-left us 0 ts)

  splits : (b : Bool) (c : Tree × List Tree) (cs : List (Tree × List Tree))
      → first_way f (flat_map (trial m ms) (cond b cs (c ∷ cs))) ≡ or_else (first_way f (cond b [] (trial m ms c))) (first_way f (flat_map (trial m ms) cs))
  splits true c cs = refl
  splits false c cs = first_way-append f (trial m ms c) (flat_map (trial m ms) cs)

  here : (j : ℕ) → j < length ts → first_way f (later j) ≡ or_else (first_way f (at_place m ms us ts j)) (first_way f (later (suc j)))
  here j h =
      ap (λ vs. first_way f (flat_map (trial m ms) (chosen_by us (one_used us 0 ts) j vs))) (drop-cons ts j (leaf par) h)
      ∙ splits (has us j) (get_or ts j (leaf par), one_used us 0 ts j) (chosen_by us (one_used us 0 ts) (suc j) (drop (suc j) ts))

  pub passes : (j : ℕ) → j < length ts → first_way f (at_place m ms us ts j) ≡ None → first_way f (later j) ≡ first_way f (later (j + 1))
  passes j h n = here j h ∙ ap (λ p. or_else p (first_way f (later (suc j)))) n ∙ ap (λ k. first_way f (later k)) (sym (add-one j))

  pub stops : (j : ℕ) (w : Choice) → j < length ts → first_way f (at_place m ms us ts j) ≡ Some w → first_way f (later j) ≡ Some w
  stops j w h s = here j h ∙ ap (λ p. or_else p (first_way f (later (suc j)))) s

  pub ends : (j : ℕ) → length ts ≤ j → first_way f (later j) ≡ None
  ends j h = ap (λ vs. first_way f (flat_map (trial m ms) (chosen_by us (one_used us 0 ts) j vs))) (drop_all j ts h)

  nothing : (b : Bool) (ws : List Choice) → first_way f ws ≡ None → first_way f (cond b [] ws) ≡ None
  nothing true ws h = refl
  nothing false ws h = h

  pub taken : (j : ℕ) → has us j ≡ true → first_way f (at_place m ms us ts j) ≡ None
  taken j h = ap (λ b. first_way f (cond b [] (trial m ms (get_or ts j (leaf par), one_used us 0 ts j)))) h

  pub refused : (j : ℕ) → first_of_all (m.tries (get_or ts j (leaf par))) ≡ None → first_way f (at_place m ms us ts j) ≡ None
  refused j h = nothing (has us j) (trial m ms (get_or ts j (leaf par), one_used us 0 ts j)) (no_match f (ways ms (one_used us 0 ts j)) (m.tries (get_or ts j (leaf par))) h)

  pub dead : (j : ℕ) → first_way f (ways ms (left_from 0 (us ++ j ∷ []) ts)) ≡ None → first_way f (at_place m ms us ts j) ≡ None
  dead j h = nothing (has us j) (trial m ms (get_or ts j (leaf par), one_used us 0 ts j)) (dead_ways f (ways ms (one_used us 0 ts j)) (m.tries (get_or ts j (leaf par))) h)

  pub alive : (j : ℕ) (b : Bindings) (w : Choice) → has us j ≡ false → first_of_all (m.tries (get_or ts j (leaf par))) ≡ Some b
      → first_way f (ways ms (left_from 0 (us ++ j ∷ []) ts)) ≡ Some w → first_way f (at_place m ms us ts j) ≡ Some (b ∷ w.0, w.1)
  alive j b w h k l =
      ap (λ c. first_way f (cond c [] (trial m ms (get_or ts j (leaf par), one_used us 0 ts j)))) h
      ∙ a_match f (ways ms (one_used us 0 ts j)) (m.tries (get_or ts j (leaf par))) b w k l

  -- targets that are used are passed over
  over : (d i j : ℕ) → j ≡ i + d → j ≤ length ts → AreUsed us i j → first_way f (later i) ≡ first_way f (later j)
  over zero i j e l a =
      let q : i ≡ j = omega (arith, e) in
      ap (λ k. first_way f (later k)) q
  over (suc d) i j e l a = passes i (omega (arith, e, l)) (taken i (a i (omega (arith, e)) (omega arith))) ∙ over d (i + 1) j (omega (arith, e)) l (λ k m n. a k m (omega (arith, n)))

  failed-over : (d i j : ℕ) → j ≡ i + d → AreUsed us i j → FailedBefore f m ms us ts i → FailedBefore f m ms us ts j
  failed-over zero i j e a b k q = b k (omega (arith, e, q))
  failed-over (suc d) i j e a b k q = taken k (a k (omega (arith, q)) (omega (arith, e, q)))

  pub reaches : (i j n : ℕ) → n ≡ length ts → NextFree us i n j → first_way f (later i) ≡ first_way f (later j)
  reaches i j n e h = over (j - i) i j (omega (arith, h.from)) (omega (arith, e, h.within)) h.before

  pub still-failed : (i j n : ℕ) → NextFree us i n j → FailedBefore f m ms us ts i → FailedBefore f m ms us ts j
  still-failed i j n h b = failed-over (j - i) i j (omega (arith, h.from)) h.before b

  pub finishes : (i n : ℕ) → n ≡ length ts → i ≤ n → AreUsed us i n → first_way f (later i) ≡ None
  finishes i n e l a = over (n - i) i n (omega (arith, l)) (omega (arith, e)) a ∙ ends n (omega (arith, e))

  -- before the first target there is none
  pub none-failed : FailedBefore f m ms us ts 0
  none-failed k e = absurd (omega (arith, e))

  pub next-failed : (j : ℕ) → first_way f (at_place m ms us ts j) ≡ None → FailedBefore f m ms us ts (j + 1)
  next-failed j h k e =
      let q : j ≡ k = omega (arith, e) in
      subst (λ i. first_way f (at_place m ms us ts i) ≡ None) q h

  -- a target fails where the one before it, which equals it, has failed
  pub repeated : (j : ℕ) → j < length ts → Repeats us ts j → FailedBefore f m ms us ts j → first_way f (at_place m ms us ts j) ≡ None
  repeated j l r b =
      let k = r.before in
      let z : suc k ≡ j = omega (arith, r.next) in
      let x = get_or ts k (leaf par) in
      let y = get_or ts j (leaf par) in
      by_cases (has us j) (λ u. taken j u)
      (λ u.
      let s = swapped us 0 k k ts (omega arith) r.free (subst (λ n. has us n ≡ false) (sym z) u) (omega (arith, l, z)) (subst (λ n. x ≡ get_or ts n (leaf par)) (sym z) r.same) in
      let e = ap (λ c. cond c [] (trial m ms (x, one_used us 0 ts k))) r.free
      ∙ ap (λ v. trial m ms (v, one_used us 0 ts k)) r.same
      ∙ ap (λ vs. trial m ms (y, vs)) (subst (λ n. one_used us 0 ts k ≡ one_used us 0 ts n) z s)
      ∙ sym (ap (λ c. cond c [] (trial m ms (y, one_used us 0 ts j))) u) in
      ap (first_way f) (sym e) ∙ b k r.next)

-- a wide member chooses nothing
pub around : (f : List Tree → Bool) (m : Member) (ms : List Member) (ts : List Tree) → m.wide ≡ true
    → first_way f (ways (m ∷ ms) ts) ≡ option_map (λ w. ([] ∷ w.0, w.1)) (first_way f (ways ms ts))
around f m ms ts h =
    ap (λ b. first_way f (cond b (each (λ (w : Choice). ([] ∷ w.0, w.1)) (ways ms ts)) (flat_map (trial m ms) (choices ts)))) h
    ∙ first_way-each f [] (ways ms ts)
