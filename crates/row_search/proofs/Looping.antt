-- Steps of the loops over rows and binds.
use Rattle.std.proofs.Common.{◌≡◌, ℕ, ◌+◌, ◌<◌, ◌≤◌, zero, suc, Bool, true, false, cond, List, [], ◌∷◌, ◌++◌, map as each, length, get_or, take, drop, refl, sym, ap, ◌∙◌, subst, arith, append_assoc, append-nil, inl, inr, add-one, drop-cons}
use Rattle.std.proofs.Math.Seq.{take-suc}
use Rattle.std.specs.Prelude.{◌||◌, Option, Some, None, Result, Ok, Err, IfOk}
use Rattle.std.specs.declared.alloc.AllocError.{AllocError}
use Rattle.calculus.specs.declared.plain.Kind.{Kind}
use Rattle.calculus.specs.declared.ids.Digest.{Digest}
use Rattle.calculus.specs.Matching.{Bindings}
use Rattle.calculus.specs.Rows.{Row}
use Rattle.calculus.specs.Steps.{peeks}
use Rattle.events.specs.Found.{Among}
use Rattle.rho_term.specs.declared.term.TermBind.{TermBind}
use Rattle.row_search.specs.declared.choices.Chosen.{Chosen}
use Rattle.row_search.specs.declared.choices.Joined.{Joined}
use Rattle.row_search.specs.Rows.{is_persistent, is_sent_on, IsIn, HasSends, looked_up}
use Rattle.row_search.proofs.Looking.{looked-up-there}
use Rattle.row_search.specs.Choices.{Choice, AreChosen, Binds, Chooses, Extends, IsChoice, IsJoined, Picks, PicksOne, bound_by, chosen_ids, first_taken, gone_ids, takes}
use Rattle.row_search.proofs.Taking.{first-is, first-none, takes-on}
use Rattle.std.proofs.lemmas.List.Elements.{All-nil, All-cons, All-append}
use Rattle.calculus.specs.Storing.{IsStorable}

module _ {A : Type 0} (xs : List A) (i : ℕ) (x : A) (h : i < length xs) (e : x ≡ get_or xs i x) where
  pub drop-is : drop i xs ≡ x ∷ drop (i + 1) xs
  drop-is = drop-cons xs i x h ∙ ap (λ y. y ∷ drop (suc i) xs) (sym e) ∙ ap (λ n. x ∷ drop n xs) (sym (add-one i))

  pub take-is : take (i + 1) xs ≡ take i xs ++ x ∷ []
  take-is = ap (λ n. take n xs) (add-one i) ∙ take-suc xs i x h ∙ ap (λ y. take i xs ++ y ∷ []) (sym e)

  pub is-in : IsIn x xs
  is-in = go xs i h e
    where
      go : (ys : List A) (j : ℕ) → j < length ys → x ≡ get_or ys j x → IsIn x ys
      go [] j l g = absurd (omega arith)
      go (y ∷ ys) zero l g = inl g
      go (y ∷ ys) (suc j) l g = inr (go ys j (omega arith) g)

pub among : (r : Row) (rs : List Row) → IsIn r rs → Among r rs
among r [] h = absurd h
among r (q ∷ rs) (inl e) = inl e
among r (q ∷ rs) (inr h) = inr (among r rs h)

pub in-rows : (r : Row) (rs : List Row) → Among r rs → IsIn r rs
in-rows r [] h = absurd h
in-rows r (q ∷ rs) (inl e) = inl e
in-rows r (q ∷ rs) (inr h) = inr (in-rows r rs h)

pub take-whole : {A : Type 0} (xs : List A) (i : ℕ) → length xs ≤ i → take i xs ≡ xs
take-whole [] zero h = refl
take-whole [] (suc i) h = refl
take-whole (x ∷ xs) zero h = absurd (omega arith)
take-whole (x ∷ xs) (suc i) h = ap (λ l. x ∷ l) (take-whole xs i (omega arith))

-- the operation is picked on its channel, or nothing
pub on-pick : (b : TermBind) (rs : List Row) (o : Row) (x : Result (Option Chosen) AllocError) → is_sent_on b.channel o ≡ true → IfOk x (λ y. Binds o (takes b o) y) → IfOk x (λ y. PicksOne rs o b y)
on-pick b rs o (Err x) e h = tt
on-pick b rs o (Ok None) e h = subst (λ (v : Bool). (p : Row) → Among p (cond v (o ∷ []) rs) → takes b p ≡ None) (sym e) only_it
  where
    only_it : (p : Row) → Among p (o ∷ []) → takes b p ≡ None
    only_it p (inl f) = ap (takes b) f ∙ h
    only_it p (inr f) = absurd f
on-pick b rs o (Ok (Some c)) e h =
    ((o, c.bound.items), (subst (λ (v : Bool). Among o (cond v (o ∷ []) rs)) (sym e) (inl refl), h.2), (h.0, h.1, refl, h.3))

-- elsewhere the first of the rows at hand that a bind takes
pub off-pick : (b : TermBind) (rs : List Row) (xs : List (List ℕ)) (o : Row) (x : Result (Option Chosen) AllocError) → is_sent_on b.channel o ≡ false → HasSends rs b.channel xs → IfOk x (λ y. Chooses (first_taken b (looked_up rs xs)) y)
    → IfOk x (λ y. PicksOne rs o b y)
off-pick b rs xs o (Err x) e d h = tt
off-pick b rs xs o (Ok None) e d h = subst (λ (v : Bool). (p : Row) → Among p (cond v (o ∷ []) rs) → takes b p ≡ None) (sym e) (λ p i. go p i (takes b p) refl)
  where
    go : (p : Row) → Among p rs → (us : Option Bindings) → takes b p ≡ us → us ≡ None
    go p i None f = refl
    go p i (Some us) f = sym f ∙ first-none b (looked_up rs xs) p h (d p i (takes-on b p us f))
off-pick b rs xs o (Ok (Some c)) e d h =
    let t = first-is b (looked_up rs xs) h.0 h.1 in
    (h.0, (subst (λ (v : Bool). Among h.0.0 (cond v (o ∷ []) rs)) (sym e) (looked-up-there h.0.0 rs xs t.0), t.1), h.2)

chosen-step : (rs : List Row) (o : Row) (bs : List TermBind) (cs : List Choice) (b : TermBind) (c : Choice) → AreChosen rs o bs cs → Picks rs o b c → AreChosen rs o (bs ++ b ∷ []) (cs ++ c ∷ [])
chosen-step rs o [] [] b c h e = (e, tt)
chosen-step rs o [] (d ∷ cs) b c h e = absurd h
chosen-step rs o (a ∷ bs) [] b c h e = absurd h
chosen-step rs o (a ∷ bs) (d ∷ cs) b c h e = (h.0, chosen-step rs o bs cs b c h.1 e)

pub map-append : {A B : Type 0} (f : A → B) (xs ys : List A) → each f (xs ++ ys) ≡ each f xs ++ each f ys
map-append f [] ys = refl
map-append f (x ∷ xs) ys = ap (λ l. f x ∷ l) (map-append f xs ys)

bound-snoc : (cs : List Choice) (c : Choice) → bound_by (cs ++ c ∷ []) ≡ bound_by cs ++ c.1
bound-snoc [] c = append-nil c.1
bound-snoc (d ∷ cs) c = ap (λ l. d.1 ++ l) (bound-snoc cs c) ∙ sym (append_assoc d.1 (bound_by cs) c.1)

gone-snoc : (k : Kind) (cs : List Choice) (c : Choice) → gone_ids k (cs ++ c ∷ []) ≡ gone_ids k cs ++ cond (peeks k || is_persistent c.0) [] (c.0.id ∷ [])
gone-snoc k [] c = refl
gone-snoc k (d ∷ cs) c = go (peeks k || is_persistent d.0) (gone-snoc k cs c)
  where
    go : (v : Bool) → gone_ids k (cs ++ c ∷ []) ≡ gone_ids k cs ++ cond (peeks k || is_persistent c.0) [] (c.0.id ∷ [])
        → cond v (gone_ids k (cs ++ c ∷ [])) (d.0.id ∷ gone_ids k (cs ++ c ∷ [])) ≡ cond v (gone_ids k cs) (d.0.id ∷ gone_ids k cs) ++ cond (peeks k || is_persistent c.0) [] (c.0.id ∷ [])
    go true e = e
    go false e = ap (λ l. d.0.id ∷ l) e

-- the bytes of digests
abbrev pub bytes_of : List Digest → List (List ℕ)
bytes_of ds = each (λ d. d.0) ds

one-gone : (v : Bool) (d : Digest) → bytes_of (cond v [] (d ∷ [])) ≡ cond v [] (d.0 ∷ [])
one-gone true d = refl
one-gone false d = refl

pub joined-step : (k : Kind) (cs : List Choice) (c : Choice) (j i : Joined) (h : Chosen) (v : Bool) → v ≡ peeks k → IsJoined k cs j → IsChoice h c → Extends j h v i → IsJoined k (cs ++ c ∷ []) i
joined-step k cs c j i h v e a b x = record {
  taken = ap bytes_of x.taken ∙ map-append (λ (d : Digest). d.0) j.taken.items (h.id ∷ []) ∙ ap (λ l. l ++ h.id.0 ∷ []) a.taken ∙ ap (λ d. chosen_ids cs ++ d ∷ []) b.0 ∙ sym (map-append (λ (y : Choice). y.0.id) cs (c ∷ []));
  bound = x.bound ∙ ap (λ l. l ++ h.bound.items) a.bound ∙ ap (λ l. bound_by cs ++ l) b.2 ∙ sym (bound-snoc cs c);
  gone = ap bytes_of x.gone ∙ map-append (λ (d : Digest). d.0) j.gone.items (cond (v || h.persistent) [] (h.id ∷ [])) ∙ ap (λ l. l ++ bytes_of (cond (v || h.persistent) [] (h.id ∷ []))) a.gone
      ∙ ap (λ l. gone_ids k cs ++ l) (one-gone (v || h.persistent) h.id) ∙ ap (λ d. gone_ids k cs ++ cond (v || h.persistent) [] (d ∷ [])) b.0
      ∙ ap (λ w. gone_ids k cs ++ cond (w || h.persistent) [] (c.0.id ∷ [])) e ∙ ap (λ w. gone_ids k cs ++ cond (peeks k || w) [] (c.0.id ∷ [])) b.1 ∙ sym (gone-snoc k cs c);
  storable = All-append (λ (y : Choice). IsStorable y.0) cs (c ∷ []) a.storable (All-cons (λ (y : Choice). IsStorable y.0) c [] b.3 (All-nil (λ (y : Choice). IsStorable y.0)));
}

-- one bind more
pub join-step : (k : Kind) (rs : List Row) (o : Row) (bs : List TermBind) (i : ℕ) (b : TermBind) (j n : Joined) (x : Option Chosen) (h : Chosen) (v : Bool) → i < length bs → b ≡ get_or bs i b → v ≡ peeks k
    → (cs : List Choice) × AreChosen rs o (take i bs) cs × IsJoined k cs j → x ≡ Some h → PicksOne rs o b x → Extends j h v n
    → (cs : List Choice) × AreChosen rs o (take (i + 1) bs) cs × IsJoined k cs n
join-step k rs o bs i b j n x h v l e p a f g y =
    let c = subst (PicksOne rs o b) f g in
    let cs = a.0 in (
      cs ++ c.0 ∷ [],
      subst (λ (ds : List TermBind). AreChosen rs o ds (cs ++ c.0 ∷ [])) (sym (take-is bs i b l e)) (chosen-step rs o (take i bs) cs b c.0 a.1 c.1),
      joined-step k cs c.0 j n h v p a.2 c.2 y,
    )
