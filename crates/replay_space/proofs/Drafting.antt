-- One more naming in what is kept of the ids of a log, and one more step in what is named.
use Rattle.std.proofs.Common.{◌≡◌, ◌<◌, ℕ, zero, suc, Bool, true, false, cond, ◌||◌, List, [], ◌∷◌, ◌++◌, length, map as each, refl, sym, ◌∙◌, ap, subst, arith, append-nil, Some, None, Vec, Global, set, get_or, length-append}
use Rattle.std.specs.BTreeMap.{insert_entry}
use Rattle.std.specs.Str.{bytes_eq}
use Rattle.std.proofs.lemmas.Slice.Eq.{bytes_eq-Decides}
use Rattle.std.proofs.lemmas.List.{map-append, length-map, length-set}
use Rattle.std.proofs.lemmas.Option.{unwrap_or-slice_get}
use Rattle.calculus.specs.Log.{Step}
use Rattle.calculus.specs.Steps.{is_one_of}
use Rattle.racing_replays.specs.Replaying.{names}
use Rattle.racing_replays.specs.Counted.{uses}
use Rattle.replay_space.specs.declared.naming.Naming.{Naming}
use Rattle.replay_space.specs.declared.naming.Namings.{Namings}
use Rattle.replay_space.specs.declared.draft.Draft.{Draft}
use Rattle.replay_space.specs.declared.index.Index.{Index}
use Rattle.replay_space.specs.Rigs.{Numbered, items_of, number_of, list_of, steps_in, used, AreLists, AreLow, AreNamed, AreNumbered, IsDraft, IsIndexOf}
use Rattle.replay_space.proofs.Filed.{order, one-more-of, uses-whole, uses-with}
use Rattle.replay_space.proofs.Numbering.{apart, numbered-more, lists-low, used-more, used-set}

-- a view of a list that is written, and of its members
set-each : {A B : Type 0} (f : A → B) (xs : List A) (n : ℕ) (x : A) → each f (set xs n x) ≡ set (each f xs) n (f x)
set-each f [] n x = refl
set-each f (y ∷ xs) zero x = refl
set-each f (y ∷ xs) (suc n) x = ap (λ ys. f y ∷ ys) (set-each f xs n x)

get-each : {A B : Type 0} (f : A → B) (xs : List A) (n : ℕ) (d : A) (e : B) → n < length xs → get_or (each f xs) n e ≡ f (get_or xs n d)
get-each f [] n d e h = absurd (omega (arith, h))
get-each f (y ∷ xs) zero d e h = refl
get-each f (y ∷ xs) (suc n) d e h = get-each f xs n d e (omega (arith, h))

abbrev pub its_items : Vec ℕ Global → List ℕ
its_items v = v.items

-- the steps of an id after one more naming
pub steps-more : (x : List ℕ) (ns : List Naming) (n : Naming) → steps_in x (ns ++ n ∷ []) ≡ steps_in x ns ++ cond (bytes_eq x n.id) (n.step ∷ []) []
steps-more x [] n = refl
steps-more x (m ∷ ns) n = go (bytes_eq x m.id) (steps-more x ns n)
  where
    go : (b : Bool) → steps_in x (ns ++ n ∷ []) ≡ steps_in x ns ++ cond (bytes_eq x n.id) (n.step ∷ []) []
        → cond b (m.step ∷ steps_in x (ns ++ n ∷ [])) (steps_in x (ns ++ n ∷ [])) ≡ cond b (m.step ∷ steps_in x ns) (steps_in x ns) ++ cond (bytes_eq x n.id) (n.step ∷ []) []
    go true e = ap (λ l. m.step ∷ l) e
    go false e = e

module _ (ns : List Naming) (n : Naming) (old new : Draft) (d : IsDraft ns old) where
  abbrev es : List Numbered
  es = old.numbers.entries

  abbrev ls : List (List ℕ)
  ls = items_of old.uses.items

  -- one more step of the id alone
  more-of : (x l : List ℕ) → l ≡ used es ls n.id ++ n.step ∷ [] → cond (bytes_eq x n.id) l (used es ls x) ≡ steps_in x (ns ++ n ∷ [])
  more-of x l e = go (bytes_eq x n.id) refl ∙ sym (steps-more x ns n)
    where
      go : (b : Bool) → bytes_eq x n.id ≡ b → cond b l (used es ls x) ≡ steps_in x ns ++ cond b (n.step ∷ []) []
      go true s = e ∙ ap (λ u. u ++ n.step ∷ []) (ap (used es ls) (sym ((bytes_eq-Decides x n.id).0 s)) ∙ d.uses x)
      go false s = d.uses x ∙ sym (append-nil (steps_in x ns))

  -- the id has a number
  pub again : (k : ℕ) (v w : Vec ℕ Global) → number_of es n.id ≡ Some k → v ≡ get_or old.uses.items k v → new.numbers.entries ≡ es → new.ids.items ≡ old.ids.items → new.uses.items ≡ set old.uses.items k w → w.items ≡ v.items ++ n.step ∷ [] → IsDraft (ns ++ n ∷ []) new
  again k v w e is same kept written longer = record {
    uses = λ x. ap (λ (ds : List Numbered). used ds (items_of new.uses.items) x) same ∙ ap (λ (vs : List (Vec ℕ Global)). used es (items_of vs) x) written ∙ ap (λ ks. used es ks x) (set-each its_items old.uses.items k w)
        ∙ used-set n.id k es ls w.items e (apart es old.ids.items d.numbered) short x ∙ more-of x w.items (longer ∙ ap (λ l. l ++ n.step ∷ []) here);
    numbered = subst (λ ds. AreNumbered ds new.ids.items) (sym same) (subst (AreNumbered es) (sym kept) d.numbered);
    many = omega (arith, ap (λ (l : List (List ℕ)). length l) kept, ap (λ (l : List (Vec ℕ Global)). length l) written, length-set old.uses.items k w, d.many);
    low = subst (λ ds. AreLow ds (items_of new.uses.items)) (sym same) (subst (λ (vs : List (Vec ℕ Global)). AreLow es (items_of vs)) (sym written)
        (λ x m f. omega (arith, d.low x m f, length-map old.uses.items its_items, length-map (set old.uses.items k w) its_items, length-set old.uses.items k w)));
  }
    where
      short : k < length ls
      short = d.low n.id k e

      within : k < length old.uses.items
      within = omega (arith, short, length-map old.uses.items its_items)

      here : v.items ≡ used es ls n.id
      here = ap its_items is ∙ sym (get-each its_items old.uses.items k v [] within) ∙ sym (unwrap_or-slice_get ls k []) ∙ ap (list_of ls) (sym e)

  -- the id gets one
  module _ (k : ℕ) (w : Vec ℕ Global) (e : number_of es n.id ≡ None) (count : k ≡ length old.uses.items) (put : new.numbers.entries ≡ insert_entry order es n.id k) (pushed : new.uses.items ≡ old.uses.items ++ w ∷ []) where
    abbrev after : List Numbered
    after = insert_entry order es n.id k

    count-is : k ≡ length ls
    count-is = omega (arith, count, length-map old.uses.items its_items)

    lists-are : items_of new.uses.items ≡ ls ++ w.items ∷ []
    lists-are = ap items_of pushed ∙ map-append its_items old.uses.items (w ∷ [])

    pub first : w.items ≡ n.step ∷ [] → new.ids.items ≡ old.ids.items ++ n.id ∷ [] → IsDraft (ns ++ n ∷ []) new
    first one named = record {
      uses = λ x. ap (λ (ds : List Numbered). used ds (items_of new.uses.items) x) put ∙ ap (λ ks. used after ks x) lists-are ∙ used-more n.id k es e ls w.items d.low count-is x
          ∙ more-of x w.items (one ∙ ap (λ o. list_of ls o ++ n.step ∷ []) (sym e));
      numbered = subst (λ ds. AreNumbered ds new.ids.items) (sym put) (subst (AreNumbered after) (sym named) (numbered-more n.id k es e old.ids.items (omega (arith, count, d.many)) d.numbered));
      many = omega (arith, ap (λ (l : List (List ℕ)). length l) named, length-append old.ids.items (n.id ∷ []), ap (λ (l : List (Vec ℕ Global)). length l) pushed, length-append old.uses.items (w ∷ []), d.many);
      low = λ x m f. subst (λ ks. m < length ks) (sym lists-are) (lists-low n.id k es e ls w.items d.low count-is x m (ap (λ (us : List Numbered). number_of us x) (sym put) ∙ f));
    }

-- all namings are there
pub index-of : (ss : List Step) (ns : List Naming) (d : Draft) (r : Index) → IsDraft ns d → ((x : List ℕ) → steps_in x ns ≡ uses x 0 ss) → r.numbers.entries ≡ d.numbers.entries → r.ids.items ≡ d.ids.items → AreLists (items_of d.uses.items) [] r.uses → IsIndexOf ss r
index-of ss ns d r i all same named filed = record {
  numbered = subst (λ ds. AreNumbered ds r.ids.items) (sym same) (subst (AreNumbered d.numbers.entries) (sym named) i.numbered);
  lists = items_of d.uses.items;
  filed = filed;
  uses = λ x. ap (λ (ds : List Numbered). used ds (items_of d.uses.items) x) same ∙ i.uses x ∙ all x;
}

-- where a step names an id that it has not named, this is one more use of it
pub named-more : (before : List Step) (ids : List (List ℕ)) (n : Naming) (old new : Namings) → length before ≡ n.step → is_one_of n.id ids ≡ false → AreNamed before ids old → new.all.items ≡ old.all.items ++ n ∷ [] → AreNamed before (ids ++ n.id ∷ []) new
named-more before ids n old new place none h pushed =
    uses-with before ids n.id (λ x. steps_in x old.all.items) (λ x. steps_in x new.all.items) (uses n.id 0 before ++ length before ∷ []) h refl (λ x. ap (steps_in x) pushed ∙ steps-more x old.all.items n ∙ go x (bytes_eq x n.id) refl)
  where
    mine : steps_in n.id old.all.items ≡ uses n.id 0 before
    mine = h n.id ∙ ap (λ b. uses n.id 0 before ++ cond b (length before ∷ []) []) none ∙ append-nil (uses n.id 0 before)

    go : (x : List ℕ) (b : Bool) → bytes_eq x n.id ≡ b → steps_in x old.all.items ++ cond b (n.step ∷ []) [] ≡ cond b (uses n.id 0 before ++ length before ∷ []) (steps_in x old.all.items)
    go x true s = ap (λ y. steps_in y old.all.items ++ n.step ∷ []) ((bytes_eq-Decides x n.id).0 s) ∙ ap (λ l. l ++ n.step ∷ []) mine ∙ ap (λ i. uses n.id 0 before ++ i ∷ []) (sym place)
    go x false s = append-nil (steps_in x old.all.items)

-- where it has named it, there is nothing more
pub named-again : (before : List Step) (ids : List (List ℕ)) (id : List ℕ) (v : Namings) → is_one_of id ids ≡ true → AreNamed before ids v → AreNamed before (ids ++ id ∷ []) v
named-again before ids id v there h x = h x ∙ ap (λ b. uses x 0 before ++ cond b (length before ∷ []) []) (go (bytes_eq x id) refl (is_one_of x ids) refl ∙ sym (one-more-of x ids id))
  where
    clash : false ≡ true → ⊥
    clash e = cc

    go : (b : Bool) → bytes_eq x id ≡ b → (c : Bool) → is_one_of x ids ≡ c → c ≡ c || b
    go b s true e = refl
    go false s false e = refl
    go true s false e = absurd (clash (sym e ∙ ap (λ y. is_one_of y ids) ((bytes_eq-Decides x id).0 s) ∙ there))

-- a step ends
pub step-named : (before : List Step) (s : Step) (old new : Namings) → AreNamed before (names s) old → new.all.items ≡ old.all.items → AreNamed (before ++ s ∷ []) [] new
step-named before s old new h same x = ap (steps_in x) same ∙ uses-whole before s (λ y. steps_in y old.all.items) h x
