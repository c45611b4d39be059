-- The texts of an unfolding that gives a result are the same with more room.
use Rattle.std.proofs.Common.{◌≡◌, ◌≤◌, ℕ, zero, suc, Bool, true, false, cond, List, [], ◌∷◌, ◌++◌, refl, ap, sym, ◌∙◌, subst, arith}
use Rattle.std.specs.Prelude.{ltb, Option, Some, None, option_map}
use Rattle.calculus.specs.Tree.{Label, new, match, bundle, unary, binary, method, Tree, node, Trees, none, also}
use Rattle.calculus.specs.Shape.{held, listed, at}
use Rattle.calculus.specs.Normal.{ascending}
use Rattle.calculus.specs.Substitution.{put}
use Rattle.calculus.specs.Outcome.{Prices, Answer, gives, fails, unknown, Outcome, pure, after, within_limits, over, within, known, capped}
use Rattle.calculus.specs.Seeds.{message, digest_of, Split, Body}
use Rattle.calculus.specs.Matching.{Bindings, first_match}
use Rattle.calculus.specs.Values.{value}
use Rattle.calculus.specs.Unfolding.{Product, names_made, fresh_names, Unfolder, unfold_within, unfold_under, fitting, cases_tried, part_unfolded, unfold_part, parts_unfolded, unfold_in}
use Rattle.calculus.specs.Runs.{Work}
use Rattle.calculus.proofs.Room.{Refines, capped_more}
use Rattle.events.specs.HashedTexts.{TextLister, given_texts, under_texts, fitting_texts, cases_texts, target_texts, name_texts, part_texts, texts_of_part, parts_texts, texts_in, result_texts, work_texts}
use Rattle.events.proofs.Answers.{after-inv}

-- where an unfolding gives a result, the two lists of its texts are one
abbrev pub AreSame : Unfolder → TextLister → TextLister → Type 0
AreSame f F G = (t : Tree) (s : List ℕ) (xs : List Product) → (f t s).answer ≡ gives xs → F t s ≡ G t s

module _ (p : Prices) (f : Unfolder) (F G : TextLister) (h : AreSame f F G) where
  given-same : (s : List ℕ) (a : Answer Tree) (xs : List Product) → (unfold_within f s a).answer ≡ gives xs → given_texts F s a ≡ given_texts G s a
  given-same s (gives t) xs e = h t s xs e
  given-same s (fails c) xs e = refl
  given-same s unknown xs e = refl

  pub under-same : (s : List ℕ) (vs : List Tree) (b : Tree) (xs : List Product) → (unfold_under f s vs b).answer ≡ gives xs → under_texts F s vs b ≡ under_texts G s vs b
  under-same s vs b xs e = given-same s (within_limits (put vs b)) xs e

  fitting-same : (s : List ℕ) (m : Option Bindings) (b : Tree) (next : Outcome (List Product)) (os us : List (List ℕ)) (xs : List Product) → (next.answer ≡ gives xs → os ≡ us) → (fitting f s m b next).answer ≡ gives xs
      → fitting_texts F s m b os ≡ fitting_texts G s m b us
  fitting-same s (Some vs) b next os us xs k e = under-same s vs b xs e
  fitting-same s None b next os us xs k e = k e

  cases-same : (s : List ℕ) (v : Tree) (cs : List Tree) (xs : List Product) → (cases_tried p f s v cs).answer ≡ gives xs → cases_texts F s v cs ≡ cases_texts G s v cs
  cases-same s v [] xs e = refl
  cases-same s v (c ∷ cs) xs e =
      fitting-same s (first_match (at 0 (held c)) v) (at 1 (held c)) (cases_tried p f s v cs) (cases_texts F s v cs) (cases_texts G s v cs) xs (cases-same s v cs xs) e

  -- of what a value's process makes
  value-same : (s : List ℕ) (o : Outcome Tree) (xs : List Product) → (after o (λ v. f v s)).answer ≡ gives xs → given_texts F s o.answer ≡ given_texts G s o.answer
  value-same s o xs e =
      let a = after-inv o (λ v. f v s) xs e in
      subst (λ c. given_texts F s c ≡ given_texts G s c) (sym a.1) (h a.0 s xs a.2)

  under-body : (s : List ℕ) (xs ys : List (List ℕ)) → xs ≡ ys → message (Body s) ∷ xs ≡ message (Body s) ∷ ys
  under-body s xs ys e = ap (λ l. message (Body s) ∷ l) e

  part-same : (s : List ℕ) (l : Label) (ts : Trees) (xs : List Product) → (part_unfolded p f s l ts).answer ≡ gives xs → part_texts p F s l ts ≡ part_texts p G s l ts
  part-same s (new os) (also b none) xs e =
      let a = after-inv (f (put (names_made s 0 os) b) (digest_of (Body s))) (λ ts. pure (fresh_names s 0 os ++ ts)) xs e in
      ap (λ l. name_texts s 0 os ++ (message (Body s) ∷ l)) (h (put (names_made s 0 os) b) (digest_of (Body s)) a.0 a.1)
  part-same s match (also target (also (node l cs) none)) xs e =
      let d : List ℕ = digest_of (Body s) in
      let a = after-inv (value p target) (λ v. cases_tried p f d v (listed cs)) xs e in
      under-body s (target_texts F d (listed cs) (value p target).answer) (target_texts G d (listed cs) (value p target).answer)
      (subst (λ c. target_texts F d (listed cs) c ≡ target_texts G d (listed cs) c) (sym a.1) (cases-same d a.0 (listed cs) xs a.2))
  part-same s (bundle r) (also b none) xs e = ap (λ l. message (Body s) ∷ l) (h b (digest_of (Body s)) xs e)
  part-same s (unary o) ts xs e = under-body s (given_texts F (digest_of (Body s)) (value p (node (unary o) ts)).answer) (given_texts G (digest_of (Body s)) (value p (node (unary o) ts)).answer) (value-same (digest_of (Body s)) (value p (node (unary o) ts)) xs e)
  part-same s (binary o) ts xs e = under-body s (given_texts F (digest_of (Body s)) (value p (node (binary o) ts)).answer) (given_texts G (digest_of (Body s)) (value p (node (binary o) ts)).answer) (value-same (digest_of (Body s)) (value p (node (binary o) ts)) xs e)
  part-same s (method m) ts xs e = under-body s (given_texts F (digest_of (Body s)) (value p (node (method m) ts)).answer) (given_texts G (digest_of (Body s)) (value p (node (method m) ts)).answer) (value-same (digest_of (Body s)) (value p (node (method m) ts)) xs e)
  part-same s l ts xs e = refl

  part-of-same : (s : List ℕ) (t : Tree) (xs : List Product) → (unfold_part p f s t).answer ≡ gives xs → texts_of_part p F s t ≡ texts_of_part p G s t
  part-of-same s (node l ts) xs e = part-same s l ts xs e

  pub parts-same : (s : List ℕ) (i : ℕ) (ts : List Tree) (xs : List Product) → (parts_unfolded p f s i ts).answer ≡ gives xs → parts_texts p F s i ts ≡ parts_texts p G s i ts
  parts-same s i [] xs e = refl
  parts-same s i (t ∷ ts) xs e =
      let d : List ℕ = digest_of (Split s i) in
      let a = after-inv (unfold_part p f d t) (λ rs. after (parts_unfolded p f s (suc i) ts) (λ qs. pure (rs ++ qs))) xs e in
      let c = after-inv (parts_unfolded p f s (suc i) ts) (λ qs. pure (a.0 ++ qs)) xs a.2 in
      ap (λ l. message (Split s i) ∷ (l ++ parts_texts p F s (suc i) ts)) (part-of-same d t a.0 a.1)
      ∙ ap (λ l. message (Split s i) ∷ (texts_of_part p G d t ++ l)) (parts-same s (suc i) ts c.0 c.1)

-- more room leaves the texts as they are
pub texts-same : (p : Prices) (n m : ℕ) → n ≤ m → AreSame (unfold_in p n) (texts_in p n) (texts_in p m)
unfolding unfold_in texts_in
texts-same p zero m h t s xs e = cc
texts-same p (suc n) zero h t s xs e = absurd (omega (arith, h))
texts-same p (suc n) (suc m) h t s xs e = parts-same p (unfold_in p n) (texts_in p n) (texts_in p m) (texts-same p n m (omega (arith, h))) s 0 (ascending (held t)) xs e

-- work that is known within the cap is the outcome itself
within-is : (cap : ℕ) (o v : Outcome (List Product)) → capped cap o ≡ Some (within v) → o ≡ v
within-is cap o v e = go (ltb cap o.price) e
  where
    ends : (a : Answer (List Product)) → option_map within (known a (record { price = o.price; answer = a })) ≡ Some (within v) → record { price = o.price; answer = a } ≡ v
    ends (gives xs) f = cc f
    ends (fails c) f = cc f
    ends unknown f = cc f

    go : (b : Bool) → cond b (Some over) (option_map within (known o.answer o)) ≡ Some (within v) → o ≡ v
    go true f = cc f
    go false f = ends o.answer f

-- so the texts of known work are the same with more room
pub work-same : (cap : ℕ) (o u : Outcome (List Product)) (xs ys : List (List ℕ)) (w : Work) → Refines o u → ((zs : List Product) → o.answer ≡ gives zs → xs ≡ ys) → capped cap o ≡ Some w → work_texts (capped cap o) xs ≡ work_texts (capped cap u) ys
work-same cap o u xs ys w r h e =
    ap (λ c. work_texts c xs) e ∙ of w e ∙ sym (ap (λ c. work_texts c ys) (capped_more cap o u w r e))
  where
    result : (a : Answer (List Product)) → o.answer ≡ a → result_texts a xs ≡ result_texts a ys
    result (gives zs) d = h zs d
    result (fails c) d = refl
    result unknown d = refl

    of : (w : Work) → capped cap o ≡ Some w → work_texts (Some w) xs ≡ work_texts (Some w) ys
    of over f = refl
    of (within v) f = result v.answer (ap (λ (z : Outcome (List Product)). z.answer) (within-is cap o v f))
