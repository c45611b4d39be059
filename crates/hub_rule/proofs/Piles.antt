-- Desks and works under the rule, where one pile changes.
use Rattle.std.proofs.Common.{◌≡◌, ◌≢◌, ℕ, ◌+◌, ◌*◌, ◌^◌, ◌<◌, ◌≤◌, Bool, true, false, List, [], ◌∷◌, ◌++◌, length, set, get_or, refl, sym, ap, subst, ◌∙◌, arith, eq-eqb, ne_eqb, eqb, ⊎_elim, get_or-set_same, get_or-set_other, length-append}
use Rattle.std.proofs.Math.ListN.{length-set}
use Rattle.std.proofs.lemmas.List.{map-set}
use mathlib.Core.Option.{some, none, some-injective, some-ne-none}
use mathlib.Core.Option as opt
use mathlib.Core.Logic.{dite}
use native.Mathlib.Decide.{ℕ_discrete, dec_le}
use lib.ListN.{get_elem?}
use Rattle.atomic_table.proofs.Lists.{at_map, at_snoc, at_set, set_here, set_else, set_again}
use Rattle.hub_rule.specs.declared.view.View.{View}
use Rattle.hub_rule.specs.declared.view.Pile.{Pile}
use Rattle.hub_rule.specs.declared.slot.Slot.{Slot}
use Rattle.hub_rule.specs.declared.slot.Slot.TheVariants.{Desk}
use Rattle.hub_rule.specs.Counts.{one_if, count, total, things_of, Each}
use Rattle.hub_rule.specs.Meaning.{Meaning, offered, taking}
use Rattle.hub_rule.specs.Works.{pile, bare, hand, Piles, DeskRule, WorkRule, PendRule}
use Rattle.hub_rule.specs.Rule.{share_of, piles_of, heaped}
use Rattle.hub_rule.proofs.Sums.{of_set, total_more, total_set, total_same, total_two, each_in, each_more, count_more}

module _ {E X W : Type 0} where
  pub at_piles : (views : List (View E X W)) (id : ℕ) (v : View E X W) → get_elem? views id ≡ some v → get_elem? (piles_of views) id ≡ some (v.parts, v.pile)
  at_piles views id v at = at_map share_of views id v at

  pub piles_set : (views : List (View E X W)) (id : ℕ) (w : View E X W) → piles_of (set views id w) ≡ set (piles_of views) id (w.parts, w.pile)
  piles_set views id w = map-set share_of views id w

  -- a view whose parts and pile stay
  pub piles_same : (views : List (View E X W)) (id : ℕ) (v w : View E X W) → get_elem? views id ≡ some v → share_of w ≡ share_of v → piles_of (set views id w) ≡ piles_of views
  piles_same views id v w at same = piles_set views id w ∙ (ap {A = ℕ × Pile E W} (λ p. set (piles_of views) id p) same ∙ set_again (piles_of views) id (v.parts, v.pile) (at_piles views id v at))

  -- desks stay where other words and slots change
  pub desks_on : (words words' : List ℕ) (homes homes' : List (opt.Option (Slot X W))) (desks : List (List (ℕ × W))) (piles : Piles E W)
      → ((d : ℕ) → d < 32 → get_or words' (d * 8 + 528) 0 ≡ get_or words (d * 8 + 528) 0) → ((d : ℕ) → d < 32 → get_elem? homes' (d + 64) ≡ get_elem? homes (d + 64))
      → DeskRule words homes desks piles → DeskRule words' homes' desks piles
  desks_on words words' homes homes' desks piles same home b = record {
    many = b.many;
    turn = λ d lt. same d lt ∙ b.turn d lt;
    one = b.one;
    home = λ d lt z. let h = b.home d lt (sym (same d lt) ∙ z) in (h.0, h.1, home d lt ∙ h.2, h.3, h.4);
    held = b.held;
    idle = b.idle;
  }

  -- desks stay where a view keeps its parts and its pile
  pub places_keep : (words words' : List ℕ) (homes homes' : List (opt.Option (Slot X W))) (desks : List (List (ℕ × W))) (views : List (View E X W)) (id : ℕ) (v w : View E X W) → get_elem? views id ≡ some v → share_of w ≡ share_of v
      → ((d : ℕ) → d < 32 → get_or words' (d * 8 + 528) 0 ≡ get_or words (d * 8 + 528) 0) → ((d : ℕ) → d < 32 → get_elem? homes' (d + 64) ≡ get_elem? homes (d + 64))
      → DeskRule words homes desks (piles_of views) → DeskRule words' homes' desks (piles_of (set views id w))
  places_keep words words' homes homes' desks views id v w at stays same home b =
      let P : Piles E W → Type 0 = λ l. DeskRule words' homes' desks l in subst P (sym (piles_same views id v w at stays)) (desks_on words words' homes homes' desks (piles_of views) same home b)

  pub works_keep : {Store : Type 0} (m : Meaning Store E X W) (works : List W) (log : List (ℕ × E)) (desks : List (List (ℕ × W))) (views : List (View E X W)) (id : ℕ) (v w : View E X W) → get_elem? views id ≡ some v → share_of w ≡ share_of v
      → WorkRule m works log desks (piles_of views) → WorkRule m works log desks (piles_of (set views id w))
  works_keep m works log desks views id v w at stays b = let P : Piles E W → Type 0 = λ l. WorkRule m works log desks l in subst P (sym (piles_same views id v w at stays)) b

  pub pending_keep : (opened word word' : ℕ) (desks : List (List (ℕ × W))) (views : List (View E X W)) (id : ℕ) (v w : View E X W) → word' ≡ word → get_elem? views id ≡ some v → share_of w ≡ share_of v
      → PendRule opened word desks (piles_of views) → PendRule opened word' desks (piles_of (set views id w))
  pending_keep opened word word' desks views id v w same at stays b =
      let P : Piles E W → Type 0 = λ l. PendRule opened word' desks l in let Q : ℕ → Type 0 = λ n. PendRule opened n desks (piles_of views) in subst P (sym (piles_same views id v w at stays)) (subst Q (sym same) b)

  -- desks stay where a pile keeps its desk
  pub desks_same : (words : List ℕ) (homes : List (opt.Option (Slot X W))) (desks : List (List (ℕ × W))) (piles : Piles E W) (id n : ℕ) (p q : Pile E W)
      → get_elem? piles id ≡ some (n, p) → q.desk ≡ p.desk → DeskRule words homes desks piles → DeskRule words homes desks (set piles id (n, q))
  desks_same words homes desks piles id n p q at same b =
      let w : ℕ × Pile E W = (n, q) in
      let sums : (d : ℕ) → total (λ (y : ℕ × Pile E W). count d y.1.desk) (set piles id w) ≡ total (λ (y : ℕ × Pile E W). count d y.1.desk) piles = λ d. total_same (λ (y : ℕ × Pile E W). count d y.1.desk) piles id (n, p) w at (ap {A = List (ℕ × List (ℕ × W))} (count d) same) in
      let P : List (ℕ × List (ℕ × W)) → Type 0 = λ l. Each (λ d ps. (d < 32) × (get_elem? desks d ≡ some ps)) l in
      record {
        many = b.many;
        turn = λ d lt. b.turn d lt ∙ sym (sums d);
        one = λ d lt. let a = sums d in let c = b.one d lt in omega arith;
        home = b.home;
        held = of_set (λ (y : ℕ × Pile E W). P y.1.desk) piles id w (subst P (sym same) (b.held id (n, p) at)) b.held;
        idle = of_set (λ (y : ℕ × Pile E W). y.0 ≡ 0 → y.1.desk ≡ []) piles id w (λ z. same ∙ b.idle id (n, p) at z) b.idle;
      }

  -- the turn of the desk k is taken
  pub desks_take : (words : List ℕ) (homes : List (opt.Option (Slot X W))) (desks : List (List (ℕ × W))) (piles : Piles E W) (id n k : ℕ) (p q : Pile E W) (ps : List (ℕ × W))
      → length words ≡ 800 → k < 32 → 0 < n → get_elem? piles id ≡ some (n, p) → q.desk ≡ (k, ps) ∷ p.desk → get_or words (k * 8 + 528) 0 ≡ 0 → get_elem? desks k ≡ some ps
      → DeskRule words homes desks piles → DeskRule (set words (k * 8 + 528) 1) (set homes (k + 64) none) desks (set piles id (n, q))
  desks_take words homes desks piles id n k p q ps wide lt part at same free lies b =
      let w : ℕ × Pile E W = (n, q) in
      let F : ℕ → ℕ × Pile E W → ℕ = λ d y. count d y.1.desk in
      let mine : (d : ℕ) → F d w ≡ one_if (eqb k d) + F d (n, p) = λ d. ap {A = List (ℕ × List (ℕ × W))} (count d) same in
      let sums : (d : ℕ) → total (F d) (set piles id w) + F d (n, p) ≡ total (F d) piles + F d w = λ d. total_set (F d) piles id (n, p) w at in
      let here : one_if (eqb k k) ≡ 1 = ap one_if (eq-eqb k k refl) in
      let else : (d : ℕ) → d ≢ k → one_if (eqb k d) ≡ 0 = λ d ne. ap one_if (ne_eqb k d (λ h. ne (sym h))) in
      let word_here : get_or (set words (k * 8 + 528) 1) (k * 8 + 528) 0 ≡ 1 = get_or-set_same words (k * 8 + 528) 1 0 (omega arith) in
      let word_else : (d : ℕ) → d ≢ k → get_or (set words (k * 8 + 528) 1) (d * 8 + 528) 0 ≡ get_or words (d * 8 + 528) 0 = λ d ne. get_or-set_other words (k * 8 + 528) (d * 8 + 528) 1 0 (λ h. ne (omega arith)) in
      let P : List (ℕ × List (ℕ × W)) → Type 0 = λ l. Each (λ d us. (d < 32) × (get_elem? desks d ≡ some us)) l in
      record {
        many = b.many;
        turn = λ d dt. dite (ℕ_discrete d k)
            (λ e. let Q : ℕ → Type 0 = λ i. get_or (set words (k * 8 + 528) 1) (i * 8 + 528) 0 ≡ total (F i) (set piles id w) in
            subst Q (sym e) (let a = sums k in let c = b.turn k lt in let g = mine k in omega arith))
            (λ ne. let a = sums d in let c = b.turn d dt in let f = else d ne in let g = mine d in let h = word_else d ne in omega arith);
        one = λ d dt. dite (ℕ_discrete d k)
            (λ e. let Q : ℕ → Type 0 = λ i. total (F i) (set piles id w) < 2 in
            subst Q (sym e) (let a = sums k in let c = b.turn k lt in let g = mine k in omega arith))
            (λ ne. let a = sums d in let c = b.one d dt in let f = else d ne in let g = mine d in omega arith);
        home = λ d dt z. dite (ℕ_discrete d k)
            (λ e. absurd (let Q : ℕ → Type 0 = λ i. get_or (set words (k * 8 + 528) 1) (i * 8 + 528) 0 ≡ 0 in let q : get_or (set words (k * 8 + 528) 1) (k * 8 + 528) 0 ≡ 0 = subst Q e z in omega arith))
            (λ ne. let h = b.home d dt (sym (word_else d ne) ∙ z) in (h.0, h.1, set_else homes (k + 64) (d + 64) none (λ e. ne (omega arith)) ∙ h.2, h.3, h.4));
        held = of_set (λ (y : ℕ × Pile E W). P y.1.desk) piles id w (subst P (sym same) ((lt, lies), b.held id (n, p) at)) b.held;
        idle = of_set (λ (y : ℕ × Pile E W). y.0 ≡ 0 → y.1.desk ≡ []) piles id w (λ z. absurd (omega arith)) b.idle;
      }

  -- what others know of the desks that they hold stays
  held_else : (words : List ℕ) (homes : List (opt.Option (Slot X W))) (desks : List (List (ℕ × W))) (piles : Piles E W) (id n k : ℕ) (p q : Pile E W) (ps qs : List (ℕ × W))
      → get_elem? piles id ≡ some (n, p) → p.desk ≡ (k, ps) ∷ [] → q.desk ≡ [] → DeskRule words homes desks piles
      → (j : ℕ) (u : ℕ × Pile E W) → get_elem? (set piles id (n, q)) j ≡ some u → Each (λ d us. (d < 32) × (get_elem? (set desks k qs) d ≡ some us)) u.1.desk
  held_else words homes desks piles id n k p q ps qs at was gone b j u bt =
      let w : ℕ × Pile E W = (n, q) in
      let F : ℕ → ℕ × Pile E W → ℕ = λ d y. count d y.1.desk in
      let Old : ℕ → List (ℕ × W) → Type 0 = λ d us. (d < 32) × (get_elem? desks d ≡ some us) in
      let New : ℕ → List (ℕ × W) → Type 0 = λ d us. (d < 32) × (get_elem? (set desks k qs) d ≡ some us) in
      let mine : F k (n, p) ≡ 1 = (let e = ap {A = List (ℕ × List (ℕ × W))} (count k) was in let here : one_if (eqb k k) ≡ 1 = ap one_if (eq-eqb k k refl) in omega arith) in
      let low : k < 32 = (let H : List (ℕ × List (ℕ × W)) → Type 0 = λ l. Each Old l in let h : H ((k, ps) ∷ []) = subst H was (b.held id (n, p) at) in h.0.0) in
      ⊎_elim
      (λ s. let P : ℕ × Pile E W → Type 0 = λ y. Each New y.1.desk in let Q : List (ℕ × List (ℕ × W)) → Type 0 = λ l. Each New l in subst P s.1 (subst Q (sym gone) tt))
      (λ s. each_in Old New u.1.desk
      (λ d us there o. (
        o.0,
        set_else desks k d qs (λ e. let R : ℕ → Type 0 = λ i. 0 < F i u in let c : 0 < F k u = subst R e there in
            let a = total_two (F k) piles id j (n, p) u at s.1 (λ h. s.0 (sym h)) in let f = b.one k low in absurd (omega arith)) ∙ o.1,
      ))
      (b.held j u s.1))
      (at_set piles id j w u bt)

  -- the turn of the desk k is given back, where now other works lie
  pub desks_give : (words : List ℕ) (homes : List (opt.Option (Slot X W))) (desks : List (List (ℕ × W))) (piles : Piles E W) (id n k : ℕ) (p q : Pile E W) (ps qs : List (ℕ × W)) (v : _) (y : Slot X W) → y ≡ Desk v
      → length words ≡ 800 → length homes ≡ 96 → get_elem? piles id ≡ some (n, p) → p.desk ≡ (k, ps) ∷ [] → q.desk ≡ [] → v.items ≡ things_of qs
      → DeskRule words homes desks piles → DeskRule (set words (k * 8 + 528) 0) (set homes (k + 64) (some (Desk v))) (set desks k qs) (set piles id (n, q))
  desks_give words homes desks piles id n k p q ps qs v y is wide long at was gone lies b =
      let w : ℕ × Pile E W = (n, q) in
      let F : ℕ → ℕ × Pile E W → ℕ = λ d y. count d y.1.desk in
      let H : List (ℕ × List (ℕ × W)) → Type 0 = λ l. Each (λ d us. (d < 32) × (get_elem? desks d ≡ some us)) l in
      let mine : H ((k, ps) ∷ []) = subst H was (b.held id (n, p) at) in
      let lt : k < 32 = mine.0.0 in
      let before : (d : ℕ) → F d (n, p) ≡ one_if (eqb k d) = λ d. (let e = ap {A = List (ℕ × List (ℕ × W))} (count d) was in omega arith) in
      let after : (d : ℕ) → F d w ≡ 0 = λ d. ap {A = List (ℕ × List (ℕ × W))} (count d) gone in
      let sums : (d : ℕ) → total (F d) (set piles id w) + F d (n, p) ≡ total (F d) piles + F d w = λ d. total_set (F d) piles id (n, p) w at in
      let here : one_if (eqb k k) ≡ 1 = ap one_if (eq-eqb k k refl) in
      let else : (d : ℕ) → d ≢ k → one_if (eqb k d) ≡ 0 = λ d ne. ap one_if (ne_eqb k d (λ h. ne (sym h))) in
      let word_here : get_or (set words (k * 8 + 528) 0) (k * 8 + 528) 0 ≡ 0 = get_or-set_same words (k * 8 + 528) 0 0 (omega arith) in
      let word_else : (d : ℕ) → d ≢ k → get_or (set words (k * 8 + 528) 0) (d * 8 + 528) 0 ≡ get_or words (d * 8 + 528) 0 = λ d ne. get_or-set_other words (k * 8 + 528) (d * 8 + 528) 0 0 (λ h. ne (omega arith)) in
      let none_here : total (F k) (set piles id w) ≡ 0 = (let a = sums k in let c = b.one k lt in let f = before k in let g = after k in omega arith) in
      record {
        many = length-set desks k qs ∙ b.many;
        turn = λ d dt. dite (ℕ_discrete d k)
            (λ e. let Q : ℕ → Type 0 = λ i. get_or (set words (k * 8 + 528) 0) (i * 8 + 528) 0 ≡ total (F i) (set piles id w) in
            subst Q (sym e) (word_here ∙ sym none_here))
            (λ ne. let a = sums d in let c = b.turn d dt in let f = else d ne in let g = before d in let i = after d in let h = word_else d ne in omega arith);
        one = λ d dt. let a = sums d in let c = b.one d dt in let g = after d in omega arith;
        home = λ d dt z. dite (ℕ_discrete d k)
            (λ e. let Q : ℕ → Type 0 = λ i. (u : _) × (us : List (ℕ × W)) × (get_elem? (set homes (k + 64) (some (Desk v))) (i + 64) ≡ some (some (Desk u))) × (get_elem? (set desks k qs) i ≡ some us) × (u.items ≡ things_of us) in
            subst Q (sym e) (v, qs, set_here homes (k + 64) (some (Desk v)) (omega arith), set_here desks k qs (let m = b.many in omega arith), lies))
            (λ ne. let h = b.home d dt (sym (word_else d ne) ∙ z) in (h.0, h.1, set_else homes (k + 64) (d + 64) (some (Desk v)) (λ e. ne (omega arith)) ∙ h.2, set_else desks k d qs ne ∙ h.3, h.4));
        held = held_else words homes desks piles id n k p q ps qs at was gone b;
        idle = of_set (λ (y : ℕ × Pile E W). y.0 ≡ 0 → y.1.desk ≡ []) piles id w (λ z. gone) b.idle;
      }

module _ {Store E X W : Type 0} (m : Meaning Store E X W) (works : List W) (log : List (ℕ × E)) where
  -- works stay where a pile keeps those in hand
  pub works_same : (desks : List (List (ℕ × W))) (piles : Piles E W) (id n counted empty left fetched : ℕ) (owes : Bool) (desk : List (ℕ × List (ℕ × W))) (p : Pile E W) → get_elem? piles id ≡ some (n, p)
      → WorkRule m works log desks piles → WorkRule m works log desks (set piles id (n, pile p.kept p.taken p.offered p.took counted owes desk empty left fetched))
  works_same desks piles id n counted empty left fetched owes desk p at b =
      let w : ℕ × Pile E W = (n, pile p.kept p.taken p.offered p.took counted owes desk empty left fetched) in
      let O : ℕ → W → Type 0 = λ i u. get_elem? (offered m works log) i ≡ some u in
      record {
        in_hand = of_set (λ (y : ℕ × Pile E W). Each O (hand y.1)) piles id w (b.in_hand id (n, p) at) b.in_hand;
        on_desk = b.on_desk;
        once = λ i. let a = total_same (λ (y : ℕ × Pile E W). count i (hand y.1)) piles id (n, p) w at refl in let c = b.once i in omega arith;
        took = of_set (λ (y : ℕ × Pile E W). Each (λ i u. taking m i log ≡ y.1.took) y.1.taken) piles id w (b.took id (n, p) at) b.took;
        offers = of_set (λ (y : ℕ × Pile E W). Each {A = W} (λ i u. taking m i log ≡ []) y.1.offered) piles id w (b.offers id (n, p) at) b.offers;
        rests = b.rests;
        fresh = b.fresh;
      }

  -- works move between the desk k and a hand
  pub works_move : (desks : List (List (ℕ × W))) (piles : Piles E W) (id n k : ℕ) (p q : Pile E W) (ps qs : List (ℕ × W)) → get_elem? piles id ≡ some (n, p) → get_elem? desks k ≡ some ps
      → ((i : ℕ) → count i qs + count i (hand q) ≡ count i ps + count i (hand p))
      → Each (λ i u. get_elem? (offered m works log) i ≡ some u) qs → Each (λ i u. get_elem? (offered m works log) i ≡ some u) (hand q)
      → Each (λ i u. taking m i log ≡ q.took) q.taken → Each (λ i u. taking m i log ≡ []) q.offered → Each (λ i u. taking m i log ≡ []) qs
      → WorkRule m works log desks piles → WorkRule m works log (set desks k qs) (set piles id (n, q))
  works_move desks piles id n k p q ps qs at lies sums on in_hand took offers rests b =
      let w : ℕ × Pile E W = (n, q) in
      let O : ℕ → W → Type 0 = λ i u. get_elem? (offered m works log) i ≡ some u in
      record {
        in_hand = of_set (λ (y : ℕ × Pile E W). Each O (hand y.1)) piles id w in_hand b.in_hand;
        on_desk = of_set (λ l. Each O l) desks k qs on b.on_desk;
        once = λ i. let a = total_set (λ (y : ℕ × Pile E W). count i (hand y.1)) piles id (n, p) w at in let c = total_set (count i) desks k ps qs lies in let d = sums i in let e = b.once i in omega arith;
        took = of_set (λ (y : ℕ × Pile E W). Each (λ i u. taking m i log ≡ y.1.took) y.1.taken) piles id w took b.took;
        offers = of_set (λ (y : ℕ × Pile E W). Each {A = W} (λ i u. taking m i log ≡ []) y.1.offered) piles id w offers b.offers;
        rests = of_set (λ l. Each {A = W} (λ i u. taking m i log ≡ []) l) desks k qs rests b.rests;
        fresh = b.fresh;
      }

-- P holds of each, where one is another and one comes
pub of_more : {A : Type 0} (P : A → Type 0) (xs : List A) (u : A) → P u → ((j : ℕ) (y : A) → get_elem? xs j ≡ some y → P y) → (j : ℕ) (y : A) → get_elem? (xs ++ u ∷ []) j ≡ some y → P y
of_more P xs u pu all j y bt = ⊎_elim (λ s. all j y s) (λ q. subst P q pu) (at_snoc xs u y j bt)

module _ {E X W : Type 0} where
  -- a pile that has nothing comes
  pub places_more : (words : List ℕ) (homes : List (opt.Option (Slot X W))) (desks : List (List (ℕ × W))) (piles : Piles E W) (n : ℕ) → DeskRule words homes desks piles → DeskRule words homes desks (piles ++ (n, bare) ∷ [])
  places_more words homes desks piles n b =
      let w : ℕ × Pile E W = (n, bare) in
      let F : ℕ → ℕ × Pile E W → ℕ = λ d y. count d y.1.desk in
      record {
        many = b.many;
        turn = λ d lt. let a = total_more (F d) piles w in let c = b.turn d lt in omega arith;
        one = λ d lt. let a = total_more (F d) piles w in let c = b.one d lt in omega arith;
        home = b.home;
        held = of_more (λ (y : ℕ × Pile E W). Each (λ d ps. (d < 32) × (get_elem? desks d ≡ some ps)) y.1.desk) piles w tt b.held;
        idle = of_more (λ (y : ℕ × Pile E W). y.0 ≡ 0 → y.1.desk ≡ []) piles w (λ z. refl) b.idle;
      }

  pub works_more : {Store : Type 0} (m : Meaning Store E X W) (works : List W) (log : List (ℕ × E)) (desks : List (List (ℕ × W))) (piles : Piles E W) (n : ℕ) → WorkRule m works log desks piles → WorkRule m works log desks (piles ++ (n, bare) ∷ [])
  works_more m works log desks piles n b =
      let w : ℕ × Pile E W = (n, bare) in
      record {
        in_hand = of_more (λ (y : ℕ × Pile E W). Each (λ i u. get_elem? (offered m works log) i ≡ some u) (hand y.1)) piles w tt b.in_hand;
        on_desk = b.on_desk;
        once = λ i. let a = total_more (λ (y : ℕ × Pile E W). count i (hand y.1)) piles w in let c = b.once i in omega arith;
        took = of_more (λ (y : ℕ × Pile E W). Each (λ i u. taking m i log ≡ y.1.took) y.1.taken) piles w tt b.took;
        offers = of_more (λ (y : ℕ × Pile E W). Each {A = W} (λ i u. taking m i log ≡ []) y.1.offered) piles w tt b.offers;
        rests = b.rests;
        fresh = b.fresh;
      }

  -- a pile that has nothing changes its parts
  pub places_bare : (words : List ℕ) (homes : List (opt.Option (Slot X W))) (desks : List (List (ℕ × W))) (piles : Piles E W) (id n k : ℕ) → get_elem? piles id ≡ some (n, bare) → DeskRule words homes desks piles → DeskRule words homes desks (set piles id (k, bare))
  places_bare words homes desks piles id n k at b =
      let w : ℕ × Pile E W = (k, bare) in
      let F : ℕ → ℕ × Pile E W → ℕ = λ d y. count d y.1.desk in
      record {
        many = b.many;
        turn = λ d lt. let a = total_same (F d) piles id (n, bare) w at refl in let c = b.turn d lt in omega arith;
        one = λ d lt. let a = total_same (F d) piles id (n, bare) w at refl in let c = b.one d lt in omega arith;
        home = b.home;
        held = of_set (λ (y : ℕ × Pile E W). Each (λ d ps. (d < 32) × (get_elem? desks d ≡ some ps)) y.1.desk) piles id w tt b.held;
        idle = of_set (λ (y : ℕ × Pile E W). y.0 ≡ 0 → y.1.desk ≡ []) piles id w (λ z. refl) b.idle;
      }

  pub works_bare : {Store : Type 0} (m : Meaning Store E X W) (works : List W) (log : List (ℕ × E)) (desks : List (List (ℕ × W))) (piles : Piles E W) (id n k : ℕ) → get_elem? piles id ≡ some (n, bare) → WorkRule m works log desks piles → WorkRule m works log desks (set piles id (k, bare))
  works_bare m works log desks piles id n k at b =
      let w : ℕ × Pile E W = (k, bare) in
      record {
        in_hand = of_set (λ (y : ℕ × Pile E W). Each (λ i u. get_elem? (offered m works log) i ≡ some u) (hand y.1)) piles id w tt b.in_hand;
        on_desk = b.on_desk;
        once = λ i. let a = total_same (λ (y : ℕ × Pile E W). count i (hand y.1)) piles id (n, bare) w at refl in let c = b.once i in omega arith;
        took = of_set (λ (y : ℕ × Pile E W). Each (λ i u. taking m i log ≡ y.1.took) y.1.taken) piles id w tt b.took;
        offers = of_set (λ (y : ℕ × Pile E W). Each {A = W} (λ i u. taking m i log ≡ []) y.1.offered) piles id w tt b.offers;
        rests = b.rests;
        fresh = b.fresh;
      }

module _ {E W : Type 0} where
  pub pending_more : (opened word : ℕ) (desks : List (List (ℕ × W))) (piles : Piles E W) (n : ℕ) → PendRule opened word desks piles → PendRule opened word desks (piles ++ (n, bare) ∷ [])
  pending_more opened word desks piles n b =
      let w : ℕ × Pile E W = (n, bare) in
      record {
        sum = let a = total_more (λ (y : ℕ × Pile E W). y.1.counted) piles w in let c = b.sum in omega arith;
        settled = of_more (λ (y : ℕ × Pile E W). y.1.owes ≡ false → y.1.counted ≡ length (hand y.1)) piles w (λ z. refl) b.settled;
        owing = of_more (λ (y : ℕ × Pile E W). y.1.owes ≡ true → 0 < y.1.counted) piles w (λ z. absurd (let q : false ≡ true = z in cc)) b.owing;
        few = of_more (λ (y : ℕ × Pile E W). (length (hand y.1) ≤ y.0 * (2 ^ 52 + 2)) × (y.1.counted ≤ y.0 * (2 ^ 52 + 2))) piles w (omega arith, omega arith) b.few;
        short = b.short;
        empty = of_more (λ (y : ℕ × Pile E W). 0 < y.1.empty → word ≡ 0) piles w (λ z. absurd (omega arith)) b.empty;
        idle = of_more (λ (y : ℕ × Pile E W). y.0 ≡ 0 → y.1.left + y.1.fetched ≡ 0) piles w (λ z. refl) b.idle;
        moved = let a = total_more (λ (y : ℕ × Pile E W). y.1.fetched) piles w in let c = total_more (λ (y : ℕ × Pile E W). y.1.left) piles w in let d = b.moved in omega arith;
      }

  pub pending_bare : (opened word : ℕ) (desks : List (List (ℕ × W))) (piles : Piles E W) (id n k : ℕ) → get_elem? piles id ≡ some (n, bare) → PendRule opened word desks piles → PendRule opened word desks (set piles id (k, bare))
  pending_bare opened word desks piles id n k at b =
      let w : ℕ × Pile E W = (k, bare) in
      record {
        sum = let a = total_same (λ (y : ℕ × Pile E W). y.1.counted) piles id (n, bare) w at refl in let c = b.sum in omega arith;
        settled = of_set (λ (y : ℕ × Pile E W). y.1.owes ≡ false → y.1.counted ≡ length (hand y.1)) piles id w (λ z. refl) b.settled;
        owing = of_set (λ (y : ℕ × Pile E W). y.1.owes ≡ true → 0 < y.1.counted) piles id w (λ z. absurd (let q : false ≡ true = z in cc)) b.owing;
        few = of_set (λ (y : ℕ × Pile E W). (length (hand y.1) ≤ y.0 * (2 ^ 52 + 2)) × (y.1.counted ≤ y.0 * (2 ^ 52 + 2))) piles id w (omega arith, omega arith) b.few;
        short = b.short;
        empty = of_set (λ (y : ℕ × Pile E W). 0 < y.1.empty → word ≡ 0) piles id w (λ z. absurd (omega arith)) b.empty;
        idle = of_set (λ (y : ℕ × Pile E W). y.0 ≡ 0 → y.1.left + y.1.fetched ≡ 0) piles id w (λ z. refl) b.idle;
        moved = let a = total_same (λ (y : ℕ × Pile E W). y.1.fetched) piles id (n, bare) w at refl in let c = total_same (λ (y : ℕ × Pile E W). y.1.left) piles id (n, bare) w at refl in let d = b.moved in omega arith;
      }

-- P holds of each, where two are made one
pub of_joined : {A : Type 0} (P : A → Type 0) (xs : List A) (id other : ℕ) (w u : A) → P w → P u → ((j : ℕ) (y : A) → get_elem? xs j ≡ some y → P y) → (j : ℕ) (y : A) → get_elem? (set (set xs id w) other u) j ≡ some y → P y
of_joined P xs id other w u pw pu all = of_set P (set xs id w) other u pu (of_set P xs id w pw all)

module _ {E W : Type 0} (piles : Piles E W) (id other n k : ℕ) (p q : Pile E W) (at : get_elem? piles id ≡ some (n, p)) (bt : get_elem? piles other ≡ some (k, q)) (apart : ¬ (other ≡ id)) where
  total_joined : (f : ℕ × Pile E W → ℕ) → f (n + k, heaped p q) ≡ f (n, p) + f (k, q) → f (0, bare) ≡ 0 → total f (set (set piles id (n + k, heaped p q)) other (0, bare)) ≡ total f piles
  total_joined f e z =
      let a = total_set f piles id (n, p) (n + k, heaped p q) at in
      let c = total_set f (set piles id (n + k, heaped p q)) other (k, q) (0, bare) (set_else piles id other (n + k, heaped p q) apart ∙ bt) in omega arith

  pub places_join : {X : Type 0} (words : List ℕ) (homes : List (opt.Option (Slot X W))) (desks : List (List (ℕ × W))) → p.desk ≡ [] → q.desk ≡ [] → DeskRule words homes desks piles → DeskRule words homes desks (set (set piles id (n + k, heaped p q)) other (0, bare))
  places_join words homes desks pd qd b =
      let F : ℕ → ℕ × Pile E W → ℕ = λ d y. count d y.1.desk in
      let D : Type 0 = List (ℕ × List (ℕ × W)) in
      let sums : (d : ℕ) → total (F d) (set (set piles id (n + k, heaped p q)) other (0, bare)) ≡ total (F d) piles = λ d. total_joined (F d) (let a = ap {A = D} (count d) pd in let c = ap {A = D} (count d) qd in omega arith) refl in
      record {
        many = b.many;
        turn = λ d lt. b.turn d lt ∙ sym (sums d);
        one = λ d lt. let a = sums d in let c = b.one d lt in omega arith;
        home = b.home;
        held = of_joined (λ (y : ℕ × Pile E W). Each (λ d ps. (d < 32) × (get_elem? desks d ≡ some ps)) y.1.desk) piles id other (n + k, heaped p q) (0, bare) tt tt b.held;
        idle = of_joined (λ (y : ℕ × Pile E W). y.0 ≡ 0 → y.1.desk ≡ []) piles id other (n + k, heaped p q) (0, bare) (λ _. refl) (λ _. refl) b.idle;
      }

  pub works_join : {Store X : Type 0} (m : Meaning Store E X W) (works : List W) (log : List (ℕ × E)) (desks : List (List (ℕ × W))) → WorkRule m works log desks piles → WorkRule m works log desks (set (set piles id (n + k, heaped p q)) other (0, bare))
  works_join m works log desks b =
      let O : ℕ → W → Type 0 = λ i u. get_elem? (offered m works log) i ≡ some u in
      let H : ℕ → ℕ × Pile E W → ℕ = λ i y. count i (hand y.1) in
      let heap : (i : ℕ) → H i (n + k, heaped p q) ≡ H i (n, p) + H i (k, q) = λ i. (let a = count_more i (hand p ++ hand q) ([] ++ []) in let c = count_more i (hand p) (hand q) in omega arith) in
      record {
        in_hand = of_joined (λ (y : ℕ × Pile E W). Each O (hand y.1)) piles id other (n + k, heaped p q) (0, bare)
            (each_more O (hand p ++ hand q) [] (each_more O (hand p) (hand q) (b.in_hand id (n, p) at) (b.in_hand other (k, q) bt)) tt) tt b.in_hand;
        on_desk = b.on_desk;
        once = λ i. let a = total_joined (H i) (heap i) refl in let c = b.once i in omega arith;
        took = of_joined (λ (y : ℕ × Pile E W). Each (λ i u. taking m i log ≡ y.1.took) y.1.taken) piles id other (n + k, heaped p q) (0, bare) tt tt b.took;
        offers = of_joined (λ (y : ℕ × Pile E W). Each {A = W} (λ i u. taking m i log ≡ []) y.1.offered) piles id other (n + k, heaped p q) (0, bare) tt tt b.offers;
        rests = b.rests;
        fresh = b.fresh;
      }

  pub pending_join : (opened word : ℕ) (desks : List (List (ℕ × W))) → p.owes ≡ false → q.owes ≡ false → PendRule opened word desks piles → PendRule opened word desks (set (set piles id (n + k, heaped p q)) other (0, bare))
  pending_join opened word desks pc qc b =
      let j : ℕ × Pile E W = (n + k, heaped p q) in
      let long : length (hand (heaped p q)) ≡ length (hand p) + length (hand q) = (let a = length-append (hand p ++ hand q) ([] ++ []) in let c = length-append (hand p) (hand q) in omega arith) in
      let ps = b.settled id (n, p) at pc in let qs = b.settled other (k, q) bt qc in
      let pf = b.few id (n, p) at in let qf = b.few other (k, q) bt in
      record {
        sum = let a = total_joined (λ (y : ℕ × Pile E W). y.1.counted) refl refl in let c = b.sum in omega arith;
        settled = of_joined (λ (y : ℕ × Pile E W). y.1.owes ≡ false → y.1.counted ≡ length (hand y.1)) piles id other j (0, bare) (λ _. omega arith) (λ _. refl) b.settled;
        owing = of_joined (λ (y : ℕ × Pile E W). y.1.owes ≡ true → 0 < y.1.counted) piles id other j (0, bare) (λ z. absurd (let q : false ≡ true = z in cc)) (λ z. absurd (let q : false ≡ true = z in cc)) b.owing;
        few = of_joined (λ (y : ℕ × Pile E W). (length (hand y.1) ≤ y.0 * (2 ^ 52 + 2)) × (y.1.counted ≤ y.0 * (2 ^ 52 + 2))) piles id other j (0, bare) (omega arith, omega arith) (omega arith, omega arith) b.few;
        short = b.short;
        empty = of_joined (λ (y : ℕ × Pile E W). 0 < y.1.empty → word ≡ 0) piles id other j (0, bare) (λ z. dite (dec_le 1 p.empty) (λ le. b.empty id (n, p) at (omega arith)) (λ nle. b.empty other (k, q) bt (omega arith))) (λ z. absurd (omega arith)) b.empty;
        idle = of_joined (λ (y : ℕ × Pile E W). y.0 ≡ 0 → y.1.left + y.1.fetched ≡ 0) piles id other j (0, bare) (λ z. let x = b.idle id (n, p) at (omega arith) in let y = b.idle other (k, q) bt (omega arith) in omega arith) (λ _. refl) b.idle;
        moved = let a = total_joined (λ (y : ℕ × Pile E W). y.1.fetched) refl refl in let c = total_joined (λ (y : ℕ × Pile E W). y.1.left) refl refl in let d = b.moved in omega arith;
      }
