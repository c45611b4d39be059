-- Steps of the loop over binds and sends.
use Rattle.std.proofs.Common.{◌≡◌, ◌<◌, ℕ, zero, suc, ◌+◌, Bool, true, false, cond, List, [], ◌∷◌, ◌++◌, length, get_or, take, refl, sym, ap, ◌∙◌, subst, arith, append_assoc, append-nil}
use Rattle.std.specs.Prelude.{◌==◌, ◌&&◌, ◌||◌, Option, Some, None, Result, Ok, Err, IfOk}
use Rattle.std.specs.declared.alloc.AllocError.{AllocError}
use Rattle.std.specs.declared.alloc.Global.{Global}
use Rattle.std.specs.declared.vec.Vec.{Vec}
use Rattle.std.proofs.lemmas.Bool.Decides.{nat_tests}
use Rattle.std.proofs.lemmas.List.Elements.{All-nil, All-cons, All-append}
use Rattle.calculus.specs.declared.plain.Kind.{Kind}
use Rattle.calculus.specs.declared.ids.Digest.{Digest}
use Rattle.calculus.specs.Congruence.{congruent}
use Rattle.calculus.specs.Matching.{Bindings, bind_matches}
use Rattle.calculus.specs.Rows.{Row}
use Rattle.calculus.specs.Steps.{peeks, stays}
use Rattle.calculus.specs.Storing.{IsStorable}
use Rattle.calculus.specs.Tree.{Tree}
use Rattle.rho_term.specs.declared.op.Op.TheVariants as op
use Rattle.rho_term.specs.declared.term.TermBind.{TermBind}
use Rattle.rho_term.specs.Parts.{bind_tree}
use Rattle.rho_term.specs.Rows.{row_of_op}
use Rattle.row_search.specs.Choices.{Choice, bound_by, gone_ids, takes}
use Rattle.row_search.specs.Rows.{is_persistent}
use Rattle.found_rows.specs.declared.found.Found.{Found}
use Rattle.row_search.proofs.Taking.{send-none, send-some}
use Rattle.row_search.proofs.Looping.{bytes_of, map-append, take-is, take-whole}
use Rattle.match_targets.specs.Found.{IsFirst}
use Rattle.row_meeting.specs.Taking.{Binds, Adds, AreNotTaken, AreTaken, Begins, Comes}

-- as many are taken as there are binds
pub taken-lengths : (bs : List TermBind) (ds : List Row) (cs : List Choice) → AreTaken bs ds cs → length bs ≡ length ds
taken-lengths [] [] [] t = refl
taken-lengths [] [] (c ∷ cs) t = absurd t
taken-lengths [] (d ∷ ds) [] t = absurd t
taken-lengths [] (d ∷ ds) (c ∷ cs) t = absurd t
taken-lengths (b ∷ bs) [] [] t = absurd t
taken-lengths (b ∷ bs) [] (c ∷ cs) t = absurd t
taken-lengths (b ∷ bs) (d ∷ ds) [] t = absurd t
taken-lengths (b ∷ bs) (d ∷ ds) (c ∷ cs) t = omega (arith, taken-lengths bs ds cs t.2)

pub other-number : (bs : List TermBind) (ds : List Row) → (length bs ≡ length ds → ⊥) → AreNotTaken bs ds
other-number bs ds n cs t = n (taken-lengths bs ds cs t)

-- a bind that takes nothing of its send
pub not-at : (bs : List TermBind) (ds : List Row) (i : ℕ) (b : TermBind) (d : Row) → i < length bs → i < length ds → b ≡ get_or bs i b → d ≡ get_or ds i d → takes b d ≡ None → AreNotTaken bs ds
not-at [] ds i b d h l e f n cs t = absurd (omega (arith, h))
not-at (a ∷ bs) [] i b d h l e f n cs t = absurd (omega (arith, l))
not-at (a ∷ bs) (r ∷ ds) i b d h l e f n [] t = absurd t
not-at (a ∷ bs) (r ∷ ds) zero b d h l e f n (c ∷ cs) t =
    let same : takes b d ≡ takes a r = ap (λ x. takes x d) e ∙ ap (takes a) f in
    let there : takes a r ≡ Some c.1 = t.1 in
    cc (same, there, n)
not-at (a ∷ bs) (r ∷ ds) (suc i) b d h l e f n (c ∷ cs) t = not-at bs ds i b d (omega (arith, h)) (omega (arith, l)) e f n cs t.2

taken-more : (bs : List TermBind) (ds : List Row) (cs : List Choice) (b : TermBind) (d : Row) (xs : Bindings) → AreTaken bs ds cs → takes b d ≡ Some xs → AreTaken (bs ++ b ∷ []) (ds ++ d ∷ []) (cs ++ (d, xs) ∷ [])
taken-more [] [] [] b d xs t e = (refl, e, tt)
taken-more [] [] (c ∷ cs) b d xs t e = absurd t
taken-more [] (q ∷ ds) [] b d xs t e = absurd t
taken-more [] (q ∷ ds) (c ∷ cs) b d xs t e = absurd t
taken-more (a ∷ bs) [] [] b d xs t e = absurd t
taken-more (a ∷ bs) [] (c ∷ cs) b d xs t e = absurd t
taken-more (a ∷ bs) (q ∷ ds) [] b d xs t e = absurd t
taken-more (a ∷ bs) (q ∷ ds) (c ∷ cs) b d xs t e = (t.0, t.1, taken-more bs ds cs b d xs t.2 e)

bound-more : (cs : List Choice) (c : Choice) → bound_by (cs ++ c ∷ []) ≡ bound_by cs ++ c.1
bound-more [] c = append-nil c.1
bound-more (d ∷ cs) c = ap (λ l. d.1 ++ l) (bound-more cs c) ∙ sym (append_assoc d.1 (bound_by cs) c.1)

gone-more : (k : Kind) (cs : List Choice) (c : Choice) → gone_ids k (cs ++ c ∷ []) ≡ gone_ids k cs ++ cond (peeks k || is_persistent c.0) [] (c.0.id ∷ [])
gone-more k [] c = refl
gone-more k (d ∷ cs) c = go (peeks k || is_persistent d.0) (gone-more k cs c)
  where
    go : (v : Bool) → gone_ids k (cs ++ c ∷ []) ≡ gone_ids k cs ++ cond (peeks k || is_persistent c.0) [] (c.0.id ∷ [])
        → cond v (gone_ids k (cs ++ c ∷ [])) (d.0.id ∷ gone_ids k (cs ++ c ∷ [])) ≡ cond v (gone_ids k cs) (d.0.id ∷ gone_ids k cs) ++ cond (peeks k || is_persistent c.0) [] (c.0.id ∷ [])
    go true e = e
    go false e = ap (λ l. d.0.id ∷ l) e

-- nothing leaves of a list and one more exactly where nothing leaves of either
none-more : (xs : List (List ℕ)) (v : Bool) (x : List ℕ) → (length (xs ++ cond v [] (x ∷ [])) == 0) ≡ ((length xs == 0) && v)
none-more [] true x = refl
none-more [] false x = refl
none-more (y ∷ xs) v x = grind (arith, nat_tests)

and-assoc : (a b c : Bool) → (a && b) && c ≡ a && (b && c)
and-assoc true b c = refl
and-assoc false b c = refl

pub comes-more : (id : Digest) (k : Kind) (body : Tree) (cs : List Choice) (d : Row) (xs : Bindings) (f g : Found) (v : Bool) → v ≡ peeks k → Comes id k body cs f → IsStorable d → Adds f d xs v g → Comes id k body (cs ++ (d, xs) ∷ []) g
comes-more id k body cs d xs f g v e a s x = record {
  cont = x.cont ∙ a.cont;
  taken = x.taken ∙ ap (λ l. l ++ d.id ∷ []) a.taken ∙ sym (map-append (λ (y : Choice). y.0.id) cs ((d, xs) ∷ []));
  bound = x.bound ∙ ap (λ l. l ++ xs) a.bound ∙ sym (bound-more cs (d, xs));
  body_is = x.body_is ∙ a.body_is;
  gone = x.gone ∙ ap (λ l. l ++ cond (v || is_persistent d) [] (d.id ∷ [])) a.gone ∙ append_assoc (cond (stays k) [] (id.0 ∷ [])) (gone_ids k cs) (cond (v || is_persistent d) [] (d.id ∷ []))
      ∙ ap (λ w. cond (stays k) [] (id.0 ∷ []) ++ (gone_ids k cs ++ cond (w || is_persistent d) [] (d.id ∷ []))) e ∙ ap (λ l. cond (stays k) [] (id.0 ∷ []) ++ l) (sym (gone-more k cs (d, xs)));
  lasting = x.lasting ∙ ap (λ w. w && (v || is_persistent d)) a.lasting ∙ and-assoc (stays k) (length (gone_ids k cs) == 0) (v || is_persistent d) ∙ ap (λ w. stays k && ((length (gone_ids k cs) == 0) && (w || is_persistent d))) e
      ∙ ap (λ w. stays k && w) (sym (none-more (gone_ids k cs) (peeks k || is_persistent d) d.id) ∙ ap (λ l. length l == 0) (sym (gone-more k cs (d, xs))));
  storable = All-append (λ (y : Choice). IsStorable y.0) cs ((d, xs) ∷ []) a.storable (All-cons (λ (y : Choice). IsStorable y.0) (d, xs) [] s (All-nil (λ (y : Choice). IsStorable y.0)));
}

pub comes-first : (id : Digest) (k : Kind) (body : Tree) (f : Found) → Begins id k body f → Comes id k body [] f
comes-first id k body f b = record {
  cont = b.cont;
  taken = ap bytes_of b.taken;
  bound = b.bound;
  body_is = b.body_is;
  gone = ap bytes_of b.gone ∙ go (stays k);
  lasting = b.lasting ∙ sym (and-true (stays k));
  storable = All-nil (λ (y : Choice). IsStorable y.0);
}
  where
    go : (v : Bool) → bytes_of (cond v [] (id ∷ [])) ≡ cond v [] (id.0 ∷ []) ++ []
    go true = refl
    go false = refl

    and-true : (v : Bool) → v && true ≡ v
    and-true true = refl
    and-true false = refl

-- what is taken of the first binds, and what comes of it
abbrev pub TakenSo : Digest → Kind → Tree → List TermBind → List Row → ℕ → Found → Type 0
TakenSo id k body bs ds i f = (cs : List Choice) × AreTaken (take i bs) (take i ds) cs × Comes id k body cs f

module _ (id : Digest) (k : Kind) (body : Tree) (bs : List TermBind) (ds : List Row) where
  pub taken-step : (i : ℕ) (b : TermBind) (d : Row) (xs : Bindings) (f g : Found) (v : Bool) → i < length bs → i < length ds → b ≡ get_or bs i b → d ≡ get_or ds i d → v ≡ peeks k → TakenSo id k body bs ds i f
      → takes b d ≡ Some xs → IsStorable d → Adds f d xs v g → TakenSo id k body bs ds (i + 1) g
  taken-step i b d xs f g v h l e q p t w s x = (
    t.0 ++ (d, xs) ∷ [],
    subst (λ (us : List TermBind). AreTaken us (take (i + 1) ds) (t.0 ++ (d, xs) ∷ [])) (sym (take-is bs i b h e))
        (subst (λ (us : List Row). AreTaken (take i bs ++ b ∷ []) us (t.0 ++ (d, xs) ∷ [])) (sym (take-is ds i d l q)) (taken-more (take i bs) (take i ds) t.0 b d xs t.1 w)),
    comes-more id k body t.0 d xs f g v p t.2 s x,
  )

  pub taken-all : (i : ℕ) (f : Found) → length bs ≡ length ds → length bs ≡ i → TakenSo id k body bs ds i f → (cs : List Choice) × AreTaken bs ds cs × Comes id k body cs f
  taken-all i f e l t = (
    t.0,
    subst (λ (us : List TermBind). AreTaken us ds t.0) (take-whole bs i (omega (arith, l))) (subst (λ (us : List Row). AreTaken (take i bs) us t.0) (take-whole ds i (omega (arith, l, e))) t.1),
    t.2,
  )

-- a send on a bind's channel binds the first match of its arguments
module _ (b : TermBind) (r : Row) (id : Digest) (c : Tree) (xs : Vec Tree Global) (q : Bool) (e : r ≡ row_of_op (op.Produce id c xs q)) (f : congruent b.channel c ≡ true) (us : List Tree) (g : us ≡ xs.items) (s : IsStorable r) where
  pub send-bound : (x : Result (Option (Vec Tree Global)) AllocError) → IfOk x (λ o. IsFirst (bind_matches (bind_tree b) us) o) → IfOk x (λ o. Binds b r o)
  send-bound (Err y) h = tt
  send-bound (Ok None) h = send-none b r id c xs q e f us g None refl h
  send-bound (Ok (Some v)) h = let t = send-some b r id c xs q e f us g (Some v) v refl h s in (t.2, s)
