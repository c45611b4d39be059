-- Members that match tied targets alike do so in each way in which they choose among them.
use Rattle.std.proofs.Common.{◌≡◌, true, false, cond, List, [], ◌∷◌, map as each, refl, sym, ◌∙◌}
use Rattle.std.specs.Prelude.{◌||◌, flat_map, IsTrue}
use Rattle.std.specs.List.{AllZip}
use Rattle.std.proofs.lemmas.Bool.{false≢true}
use Rattle.calculus.specs.declared.plain.TermRest.{TermRest}
use Rattle.calculus.specs.declared.plain.TermRest.TheVariants as rests
use Rattle.calculus.specs.Tree.{Tree}
use Rattle.calculus.specs.Shape.{process}
use Rattle.calculus.specs.Congruence.{congruent}
use Rattle.calculus.specs.CongruenceLaws.{AreCongruent}
use Rattle.calculus.specs.Form.{Sort, term, part}
use Rattle.calculus.specs.Normal.{ascending}
use Rattle.calculus.specs.Matching.{Bindings, Matcher, Member, both_of, choices, Choice, ways, completed, has_wide, is_empty, parts_match, items_match, rest_match, first_items_match, members_match}
use Rattle.process_laws.specs.MatchingLaws.{AreAlike}
use Rattle.process_laws.proofs.Zips.{zip-cond, zip-map, zip-flat}
use Rattle.process_laws.proofs.Bindings.{congruent-flat, both-alike, one-alike}
use Rattle.process_laws.proofs.Tied.{Tied}
use Rattle.process_laws.proofs.Targets.{Aimed, aim, tied_congruent, process_aimed}

-- two matchers are alike on targets of this sort
abbrev pub Answers : Sort → Matcher → Matcher → Type 0
Answers s f g = (t u : Tree) → Aimed s t u → AreAlike (f t) (g u)

-- two members that are both wide or both thin, and alike on a process or on a tree of this sort
abbrev pub Like : Sort → Member → Member → Type 0
Like s m n = (m.wide ≡ n.wide) × (m.wide ≡ true → Answers term m.tries n.tries) × (m.wide ≡ false → Answers s m.tries n.tries)

-- two thin members, alike on trees of this sort
abbrev pub Thin : Sort → Member → Member → Type 0
Thin s m n = (m.wide ≡ false) × (n.wide ≡ false) × Answers s m.tries n.tries

pub thin_like : (s : Sort) (m n : Member) → Thin s m n → Like s m n
thin_like s m n h = (h.0 ∙ sym h.1, λ e. absurd (false≢true (sym h.0 ∙ e)), λ e. h.2)

module _ (s : Sort) where
  -- choices of tied trees that leave tied trees
  abbrev Chosen : Tree × List Tree → Tree × List Tree → Type 0
  Chosen c d = Tied s c.0 d.0 × AllZip (Tied s) c.1 d.1

  choices-alike : (ts us : List Tree) → AllZip (Tied s) ts us → AllZip Chosen (choices ts) (choices us)
  choices-alike [] [] h = tt
  choices-alike [] (u ∷ us) h = absurd h
  choices-alike (t ∷ ts) [] h = absurd h
  choices-alike (t ∷ ts) (u ∷ us) h =
      ((h.0, h.1), zip-map Chosen Chosen (λ c. (c.0, t ∷ c.1)) (λ c. (c.0, u ∷ c.1)) (λ c d k. (k.0, (h.0, k.1))) (choices ts) (choices us) (choices-alike ts us h.1))

  -- ways with congruent bindings that leave tied trees
  abbrev Way : Choice → Choice → Type 0
  Way v w = AreAlike v.0 w.0 × AllZip (Tied s) v.1 w.1

  one_more : (b c : Bindings) → AreCongruent b c → (vs ws : List Choice) → AllZip Way vs ws → AllZip Way (each (λ w. (b ∷ w.0, w.1)) vs) (each (λ w. (c ∷ w.0, w.1)) ws)
  one_more b c h vs ws k = zip-map Way Way (λ w. (b ∷ w.0, w.1)) (λ w. (c ∷ w.0, w.1)) (λ v w e. ((h, e.0), e.1)) vs ws k

  pub ways-alike : (ms ns : List Member) (ts us : List Tree) → AllZip (Like s) ms ns → AllZip (Tied s) ts us → AllZip Way (ways ms ts) (ways ns us)
  ways-alike [] [] ts us h k = ((tt, k), tt)
  ways-alike [] (n ∷ ns) ts us h k = absurd h
  ways-alike (m ∷ ms) [] ts us h k = absurd h
  ways-alike (m ∷ ms) (n ∷ ns) ts us h k =
      zip-cond Way m.wide n.wide
      (each (λ w. ([] ∷ w.0, w.1)) (ways ms ts))
      (flat_map (λ c. flat_map (λ b. each (λ w. (b ∷ w.0, w.1)) (ways ms c.1)) (m.tries c.0)) (choices ts))
      (each (λ w. ([] ∷ w.0, w.1)) (ways ns us))
      (flat_map (λ c. flat_map (λ b. each (λ w. (b ∷ w.0, w.1)) (ways ns c.1)) (n.tries c.0)) (choices us))
      h.0.0
      (λ e. one_more [] [] tt (ways ms ts) (ways ns us) (ways-alike ms ns ts us h.1 k))
      (λ e. zip-flat Chosen Way (λ c. flat_map (λ b. each (λ w. (b ∷ w.0, w.1)) (ways ms c.1)) (m.tries c.0)) (λ c. flat_map (λ b. each (λ w. (b ∷ w.0, w.1)) (ways ns c.1)) (n.tries c.0))
      (λ c d q. zip-flat AreCongruent Way (λ b. each (λ w. (b ∷ w.0, w.1)) (ways ms c.1)) (λ b. each (λ w. (b ∷ w.0, w.1)) (ways ns d.1))
      (λ b f r. one_more b f r (ways ms c.1) (ways ns d.1) (ways-alike ms ns c.1 d.1 h.1 q.1))
      (m.tries c.0) (n.tries d.0) (h.0.2 e c.0 d.0 (aim s c.0 d.0 q.0)))
      (choices ts) (choices us) (choices-alike ts us k))

  pub completed-alike : (ms ns : List Member) (bs cs : List Bindings) (f g : Matcher → List Bindings) → AllZip (Like s) ms ns → AreAlike bs cs → ((x y : Matcher) → Answers term x y → AreAlike (f x) (g y))
      → AreAlike (completed ms bs f) (completed ns cs g)
  completed-alike [] [] bs cs f g h k r = (tt, tt)
  completed-alike [] (n ∷ ns) bs cs f g h k r = absurd h
  completed-alike (m ∷ ms) [] bs cs f g h k r = absurd h
  completed-alike (m ∷ ms) (n ∷ ns) [] [] f g h k r = tt
  completed-alike (m ∷ ms) (n ∷ ns) [] (c ∷ cs) f g h k r = absurd k
  completed-alike (m ∷ ms) (n ∷ ns) (b ∷ bs) [] f g h k r = absurd k
  completed-alike (m ∷ ms) (n ∷ ns) (b ∷ bs) (c ∷ cs) f g h k r =
      both-alike (cond m.wide (f m.tries) (b ∷ [])) (completed ms bs f) (cond n.wide (g n.tries) (c ∷ [])) (completed ns cs g)
      (zip-cond AreCongruent m.wide n.wide (f m.tries) (b ∷ []) (g n.tries) (c ∷ []) h.0.0 (λ e. r m.tries n.tries (h.0.1 e)) (λ e. (k.0, tt)))
      (completed-alike ms ns bs cs f g h.1 k.1 r)

  same_wide : (ms ns : List Member) → AllZip (Like s) ms ns → has_wide ms ≡ has_wide ns
  same_wide [] [] h = refl
  same_wide [] (n ∷ ns) h = absurd h
  same_wide (m ∷ ms) [] h = absurd h
  same_wide (m ∷ ms) (n ∷ ns) h = rw (h.0.0, same_wide ms ns h.1)

  same_empty : (ts us : List Tree) → AllZip (Tied s) ts us → is_empty ts ≡ is_empty us
  same_empty [] [] h = refl
  same_empty [] (u ∷ us) h = absurd h
  same_empty (t ∷ ts) [] h = absurd h
  same_empty (t ∷ ts) (u ∷ us) h = refl

  pub items-alike : (ms ns : List Member) (ts us : List Tree) → AllZip (Thin s) ms ns → AllZip (Tied s) ts us → AreAlike (items_match ms ts) (items_match ns us)
  items-alike [] [] [] [] h k = (tt, tt)
  items-alike [] [] [] (u ∷ us) h k = absurd k
  items-alike [] [] (t ∷ ts) [] h k = absurd k
  items-alike [] [] (t ∷ ts) (u ∷ us) h k = tt
  items-alike [] (n ∷ ns) ts us h k = absurd h
  items-alike (m ∷ ms) [] ts us h k = absurd h
  items-alike (m ∷ ms) (n ∷ ns) [] [] h k = tt
  items-alike (m ∷ ms) (n ∷ ns) [] (u ∷ us) h k = absurd k
  items-alike (m ∷ ms) (n ∷ ns) (t ∷ ts) [] h k = absurd k
  items-alike (m ∷ ms) (n ∷ ns) (t ∷ ts) (u ∷ us) h k =
      both-alike (m.tries t) (items_match ms ts) (n.tries u) (items_match ns us) (h.0.2 t u (aim s t u k.0)) (items-alike ms ns ts us h.1 k.1)

  -- what a remainder makes of congruent trees is congruent
  module _ (f : List Tree → Tree) (made : (ts us : List Tree) → AreCongruent ts us → IsTrue (congruent (f ts) (f us))) where
    rest-alike : (r : TermRest) (ts us : List Tree) → AllZip (Tied s) ts us → AreAlike (rest_match r f ts) (rest_match r f us)
    rest-alike rests.No ts us h = one-alike (is_empty ts) (is_empty us) (same_empty ts us h)
    rest-alike rests.Var ts us h = ((made ts us (tied_congruent s ts us h), tt), tt)
    rest-alike rests.Wild ts us h = (tt, tt)

    pub first-items-alike : (r : TermRest) (ms ns : List Member) (ts us : List Tree) → AllZip (Thin s) ms ns → AllZip (Tied s) ts us → AreAlike (first_items_match ms r f ts) (first_items_match ns r f us)
    first-items-alike r [] [] ts us h k = rest-alike r ts us k
    first-items-alike r [] (n ∷ ns) ts us h k = absurd h
    first-items-alike r (m ∷ ms) [] ts us h k = absurd h
    first-items-alike r (m ∷ ms) (n ∷ ns) [] [] h k = tt
    first-items-alike r (m ∷ ms) (n ∷ ns) [] (u ∷ us) h k = absurd k
    first-items-alike r (m ∷ ms) (n ∷ ns) (t ∷ ts) [] h k = absurd k
    first-items-alike r (m ∷ ms) (n ∷ ns) (t ∷ ts) (u ∷ us) h k =
        both-alike (m.tries t) (first_items_match ms r f ts) (n.tries u) (first_items_match ns r f us) (h.0.2 t u (aim s t u k.0)) (first-items-alike r ms ns ts us h.1 k.1)

    pub members-alike : (r : TermRest) (ms ns : List Member) (ts us : List Tree) → AllZip (Like s) ms ns → AllZip (Tied s) (ascending ts) (ascending us) → AreAlike (members_match ms r f ts) (members_match ns r f us)
    members-alike r ms ns ts us h k =
        zip-flat Way AreCongruent (λ w. both_of (flat_map (λ b. b) w.0 ∷ []) (rest_match r f w.1)) (λ w. both_of (flat_map (λ b. b) w.0 ∷ []) (rest_match r f w.1))
        (λ v w e. both-alike (flat_map (λ b. b) v.0 ∷ []) (rest_match r f v.1) (flat_map (λ b. b) w.0 ∷ []) (rest_match r f w.1) (congruent-flat v.0 w.0 e.0, tt) (rest-alike r v.1 w.1 e.1))
        (ways ms (ascending ts)) (ways ns (ascending us)) (ways-alike ms ns (ascending ts) (ascending us) h k)

pub parts-alike : (ms ns : List Member) (ts us : List Tree) → AllZip (Like part) ms ns → AllZip (Tied part) (ascending ts) (ascending us) → AreAlike (parts_match ms ts) (parts_match ns us)
parts-alike ms ns ts us h k =
    zip-flat (Way part) AreCongruent
    (λ w. cond (has_wide ms || is_empty w.1) (completed ms w.0 (λ f. f (process w.1))) [])
    (λ w. cond (has_wide ns || is_empty w.1) (completed ns w.0 (λ f. f (process w.1))) [])
    (λ v w e. zip-cond AreCongruent (has_wide ms || is_empty v.1) (has_wide ns || is_empty w.1)
    (completed ms v.0 (λ f. f (process v.1))) [] (completed ns w.0 (λ f. f (process w.1))) []
    (rw (same_wide part ms ns h, same_empty part v.1 w.1 e.1))
    (λ x. completed-alike part ms ns v.0 w.0 (λ f. f (process v.1)) (λ f. f (process w.1)) h e.0 (λ f g a. a (process v.1) (process w.1) (process_aimed v.1 w.1 e.1)))
    (λ x. tt))
    (ways ms (ascending ts)) (ways ns (ascending us)) (ways-alike part ms ns (ascending ts) (ascending us) h k)
