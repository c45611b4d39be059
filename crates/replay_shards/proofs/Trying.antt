-- Tries that follow, and rows that are taken.
use Rattle.std.proofs.Common.{◌≡◌, ◌<◌, ◌≤◌, ◌+◌, ℕ, zero, suc, Bool, true, false, cond, List, [], ◌∷◌, ◌++◌, length, take, refl, sym, ap, subst, ◌∙◌, inl, inr, arith, get_or, append-nil}
use Rattle.std.specs.Prelude.{◌⊎◌, Option, Some, None, flat_map, slice_get, MatchOption}
use Rattle.std.specs.Str.{bytes_eq}
use Rattle.std.proofs.lemmas.Grind.{flat_map-append}
use Rattle.std.proofs.lemmas.List.{map-append}
use Rattle.calculus.proofs.Members.{Member, member-split, member-left, member-right}
use Rattle.calculus.specs.declared.ids.Digest.{Digest}
use Rattle.calculus.specs.Log.{Step}
use Rattle.calculus.specs.Rows.{Row, channels}
use Rattle.calculus.specs.Steps.{is_one_of}
use Rattle.racing_replays.specs.Counted.{names_id, uses}
use Rattle.hub_scenes.specs.Spaces.{SeenRow, IndexTry, bare, IsIn}
use Rattle.hub_scenes.specs.Entries.{indices}
use Rattle.hub_scenes.specs.Showing.{later_use, use_at, one_or_none, IsUse}
use Rattle.hub_scenes.proofs.Basics.{has, hold}
use Rattle.replay_space.proofs.Filed.{mapped-more}
use Rattle.replay_shards.specs.declared.ready.Try.{Try}
use Rattle.replay_rows.specs.Rows.{find_seen}
use Rattle.replay_shards.specs.declared.taking.TakenRows.{TakenRows}
use Rattle.replay_shards.specs.Taken.{bytes_of, taken_rows, AreFound, AreTaken, IsNotTaken, IsTaken, IsTakenAlone, OneIsNotTaken}
use Rattle.replay_shards.specs.Ready.{index_try, index_tries, AreNext, Follow, IsUseTry}
use Rattle.replay_rows.proofs.Filing.{same-id}

uses-from : (x : List ℕ) (j : ℕ) (ss : List Step) (n i : ℕ) → slice_get (uses x j ss) n ≡ Some i → j ≤ i
uses-from x j [] n i e = cc
uses-from x j (s ∷ ss) n i e = go (names_id x s) n e (λ m f. uses-from x (suc j) ss m i f)
  where
    go : (b : Bool) (n : ℕ) → slice_get (cond b (j ∷ uses x (suc j) ss) (uses x (suc j) ss)) n ≡ Some i → ((m : ℕ) → slice_get (uses x (suc j) ss) m ≡ Some i → suc j ≤ i) → j ≤ i
    go true zero e next = let f : j ≡ i = cc e in omega (arith, f)
    go true (suc n) e next = omega (arith, next n e)
    go false n e next = omega (arith, next n e)

-- a use of an id is a step that names it
use-names : (x : List ℕ) (j : ℕ) (before : List Step) (s : Step) (after : List Step) (n i : ℕ) → slice_get (uses x j (before ++ s ∷ after)) n ≡ Some i → j + length before ≡ i → names_id x s ≡ true
use-names x j [] s after n i e p = go (names_id x s) refl e
  where
    go : (b : Bool) → names_id x s ≡ b → slice_get (cond b (j ∷ uses x (suc j) after) (uses x (suc j) after)) n ≡ Some i → names_id x s ≡ true
    go true f e = f
    go false f e = absurd (omega (arith, uses-from x (suc j) after n i e, p))
use-names x j (u ∷ before) s after n i e p = go (names_id x u) n e (λ m f. use-names x (suc j) before s after m i f (omega (arith, p)))
  where
    go : (b : Bool) (n : ℕ) → slice_get (cond b (j ∷ uses x (suc j) (before ++ s ∷ after)) (uses x (suc j) (before ++ s ∷ after))) n ≡ Some i → ((m : ℕ) → slice_get (uses x (suc j) (before ++ s ∷ after)) m ≡ Some i → names_id x s ≡ true) → names_id x s ≡ true
    go true zero e next = let f : j ≡ i = cc e in absurd (omega (arith, f, p))
    go true (suc n) e next = next n e
    go false n e next = next n e

pub found-id : (x : List ℕ) (qs : List SeenRow) (q : SeenRow) → find_seen x qs ≡ Some q → x ≡ q.row.id
found-id x [] q e = absurd (cc)
found-id x (z ∷ qs) q e = go (bytes_eq x z.row.id) refl e (found-id x qs q)
  where
    go : (b : Bool) → bytes_eq x z.row.id ≡ b → cond b (Some z) (find_seen x qs) ≡ Some q → (find_seen x qs ≡ Some q → x ≡ q.row.id) → x ≡ q.row.id
    go true f e next = let same : z ≡ q = cc e in same-id x z.row.id f ∙ ap (λ (w : SeenRow). w.row.id) same
    go false f e next = next e

pub found-in : (x : List ℕ) (qs : List SeenRow) (q : SeenRow) → find_seen x qs ≡ Some q → Member q qs
found-in x [] q e = absurd (cc)
found-in x (z ∷ qs) q e = go (bytes_eq x z.row.id) e (found-in x qs q)
  where
    go : (b : Bool) → cond b (Some z) (find_seen x qs) ≡ Some q → (find_seen x qs ≡ Some q → Member q qs) → Member q (z ∷ qs)
    go true e next = let same : z ≡ q = cc e in inl (sym same)
    go false e next = inr (next e)

-- the try of a use
pub some-use : (ss : List Step) (r : Row) (n : ℕ) (t : Try) → slice_get (uses r.id 0 ss) n ≡ Some t.step → IsIn t.channel (channels r.part) → IsUseTry ss r n (t ∷ [])
some-use ss r n t e h = record { are = ap one_or_none (sym e); uses_of = one }
  where
    plain : (m : ℕ) → 0 + m ≡ m
    plain m = omega arith

    one : (z : IndexTry) → IsIn z (index_try t ∷ []) → IsUse ss (r ∷ []) z
    one z (inl f) = subst (IsUse ss (r ∷ [])) (sym f) (record {
      row = r;
      there = inl refl;
      channel = h;
      named = λ before s after log place. use-names r.id 0 before s after n t.step (subst (λ (l : List Step). slice_get (uses r.id 0 l) n ≡ Some t.step) log e) (plain (length before) ∙ place);
    })
    one z (inr m) = absurd m

pub stays-out : (ss : List Step) (gone : List (List ℕ)) (q : SeenRow) → is_one_of q.row.id gone ≡ true → AreNext ss gone (q ∷ []) []
stays-out ss gone q e = record { are = ap (λ b. cond b [] (use_at ss q.row.id (suc q.done)) ++ []) (sym e); uses_of = λ t m. absurd m }

pub one-next : (ss : List Step) (gone : List (List ℕ)) (q : SeenRow) (ts : List Try) (n : ℕ) → n ≡ suc q.done → is_one_of q.row.id gone ≡ false → IsUseTry ss q.row n ts → AreNext ss gone (q ∷ []) ts
one-next ss gone q ts n e f u = record {
  are = u.are ∙ ap (use_at ss q.row.id) e ∙ sym (append-nil (use_at ss q.row.id (suc q.done))) ∙ ap (λ b. cond b [] (use_at ss q.row.id (suc q.done)) ++ []) (sym f);
  uses_of = u.uses_of;
}

wider : (ss : List Step) (rs us : List Row) → ((r : Row) → IsIn r rs → IsIn r us) → (t : IndexTry) → IsUse ss rs t → IsUse ss us t
wider ss rs us f t u = record { row = u.row; there = f u.row u.there; channel = u.channel; named = u.named }

bare-both : (qs zs : List SeenRow) → bare (qs ++ zs) ≡ bare qs ++ bare zs
bare-both qs zs = map-append (λ (q : SeenRow). q.row) qs zs

pub next-both : (ss : List Step) (gone : List (List ℕ)) (qs zs : List SeenRow) (ts us : List Try) → AreNext ss gone qs ts → AreNext ss gone zs us → AreNext ss gone (qs ++ zs) (ts ++ us)
next-both ss gone qs zs ts us a b = record {
  are = ap indices tries ∙ map-append (λ (t : IndexTry). t.index) (index_tries ts) (index_tries us) ∙ ap (λ l. l ++ indices (index_tries us)) a.are ∙ ap (λ l. flat_map (later_use ss gone) qs ++ l) b.are ∙ sym (flat_map-append (later_use ss gone) qs zs);
  uses_of = λ t m. go t (member-split t (index_tries ts) (index_tries us) (subst (λ (l : List IndexTry). Member t l) tries (has t (index_tries (ts ++ us)) m)));
}
  where
    tries : index_tries (ts ++ us) ≡ index_tries ts ++ index_tries us
    tries = map-append index_try ts us

    left : (r : Row) → IsIn r (bare qs) → IsIn r (bare (qs ++ zs))
    left r m = subst (λ (l : List Row). IsIn r l) (sym (bare-both qs zs)) (hold r (bare qs ++ bare zs) (member-left r (bare qs) (bare zs) (has r (bare qs) m)))

    right : (r : Row) → IsIn r (bare zs) → IsIn r (bare (qs ++ zs))
    right r m = subst (λ (l : List Row). IsIn r l) (sym (bare-both qs zs)) (hold r (bare qs ++ bare zs) (member-right r (bare qs) (bare zs) (has r (bare zs) m)))

    go : (t : IndexTry) → Member t (index_tries ts) ⊎ Member t (index_tries us) → IsUse ss (bare (qs ++ zs)) t
    go t (inl m) = wider ss (bare qs) (bare (qs ++ zs)) left t (a.uses_of t (hold t (index_tries ts) m))
    go t (inr m) = wider ss (bare zs) (bare (qs ++ zs)) right t (b.uses_of t (hold t (index_tries us) m))

-- what is found at a place
pub record At (shown : List SeenRow) (x : List ℕ) (i : ℕ) (qs : List SeenRow) : Type 0 where
  pub row : SeenRow
  pub found : find_seen x shown ≡ Some row
  pub more : take (suc i) qs ≡ take i qs ++ row ∷ []

pub found-at : (shown : List SeenRow) (ids : List Digest) (i : ℕ) (d : Digest) (qs : List SeenRow) → AreFound shown (bytes_of ids) qs → i < length ids → At shown (get_or ids i d).0 i qs
found-at shown [] i d qs h lt = absurd (omega (arith, lt))
found-at shown (x ∷ ids) i d [] h lt = absurd h
found-at shown (x ∷ ids) zero d (q ∷ qs) h lt = record { row = q; found = h.0; more = refl }
found-at shown (x ∷ ids) (suc i) d (q ∷ qs) h lt = let a = found-at shown ids i d qs h.1 (omega (arith, lt)) in record { row = a.row; found = a.found; more = ap (λ l. q ∷ l) a.more }

pub as-many-found : (shown : List SeenRow) (xs : List (List ℕ)) (qs : List SeenRow) → AreFound shown xs qs → length qs ≡ length xs
as-many-found shown [] [] h = refl
as-many-found shown [] (q ∷ qs) h = absurd h
as-many-found shown (x ∷ xs) [] h = absurd h
as-many-found shown (x ∷ xs) (q ∷ qs) h = ap suc (as-many-found shown xs qs h.1)

pub follow-first : (ss : List Step) (gone : List (List ℕ)) (q : SeenRow) (old new : List Try) → old ≡ [] → Follow ss gone q old new → AreNext ss gone (q ∷ []) new
follow-first ss gone q old new e f = subst (AreNext ss gone (q ∷ [])) (sym (f.are ∙ ap (λ l. l ++ f.more) e)) f.next

pub follow-more : (ss : List Step) (gone : List (List ℕ)) (shown : List SeenRow) (ids : List Digest) (i : ℕ) (d : Digest) (r : SeenRow) (qs : List SeenRow) (old new : List Try) → AreFound shown (bytes_of ids) qs → i < length ids
    → AreNext ss gone (r ∷ take i qs) old → ((q : SeenRow) → find_seen (get_or ids i d).0 shown ≡ Some q → Follow ss gone q old new) → AreNext ss gone (r ∷ take (i + 1) qs) new
follow-more ss gone shown ids i d r qs old new h lt a f =
    let at = found-at shown ids i d qs h lt in
    let w = f at.row at.found in
    let next : i + 1 ≡ suc i = omega arith in
    subst (λ (l : List SeenRow). AreNext ss gone (r ∷ l) new) (sym (ap (λ n. take n qs) next ∙ at.more)) (subst (AreNext ss gone (r ∷ (take i qs ++ at.row ∷ []))) (sym w.are) (next-both ss gone (r ∷ take i qs) (at.row ∷ []) old w.more a w.next))

-- one more row that is taken
taken-last : (ss : List Step) (shown : List SeenRow) (n : ℕ) (xs : List (List ℕ)) (rs : List Row) (x : List ℕ) (r : Row) → AreTaken ss shown n xs rs → IsTaken ss shown n x r → AreTaken ss shown n (xs ++ x ∷ []) (rs ++ r ∷ [])
taken-last ss shown n [] [] x r h t = (t, tt)
taken-last ss shown n [] (z ∷ rs) x r h t = absurd h
taken-last ss shown n (y ∷ xs) [] x r h t = absurd h
taken-last ss shown n (y ∷ xs) (z ∷ rs) x r h t = (h.0, taken-last ss shown n xs rs x r h.1 t)

pub taken-next : (ss : List Step) (shown : List SeenRow) (n : ℕ) (ids : List Digest) (i : ℕ) (d : Digest) (rows new : List Row) (r : Row) (o : Option Row) → i < length ids → AreTaken ss shown n (bytes_of (take i ids)) rows → o ≡ Some r
    → MatchOption o (IsNotTaken ss shown n (get_or ids i d).0) (IsTaken ss shown n (get_or ids i d).0) → new ≡ rows ++ r ∷ [] → AreTaken ss shown n (bytes_of (take (i + 1) ids)) new
taken-next ss shown n ids i d rows new r o lt h e m w =
    subst (AreTaken ss shown n (bytes_of (take (i + 1) ids))) (sym w)
    (subst (λ (xs : List (List ℕ)). AreTaken ss shown n xs (rows ++ r ∷ [])) (sym (mapped-more (λ (z : Digest). z.0) ids i d lt))
    (taken-last ss shown n (bytes_of (take i ids)) rows (get_or ids i d).0 r h (subst (λ (z : Option Row). MatchOption z (IsNotTaken ss shown n (get_or ids i d).0) (IsTaken ss shown n (get_or ids i d).0)) e m)))

-- one alone
pub lone-of : (ids : List Digest) (d : Digest) → length ids ≡ 1 → slice_get ids 0 ≡ Some d → ids ≡ d ∷ []
lone-of [] d h e = cc
lone-of (x ∷ []) d h e = let same : x ≡ d = cc e in ap (λ z. z ∷ []) same
lone-of (x ∷ y ∷ ids) d h e = absurd (omega (arith, h))

-- the one row that is taken
pub taken-alone : (ss : List Step) (shown : List SeenRow) (n : ℕ) (ids : List Digest) (d : Digest) (o : Option TakenRows) → ids ≡ d ∷ []
    → MatchOption o (IsNotTaken ss shown n d.0) (λ t. IsTakenAlone ss shown n d.0 (taken_rows t)) → MatchOption o (OneIsNotTaken ss shown n (bytes_of ids)) (λ t. AreTaken ss shown n (bytes_of ids) (taken_rows t))
taken-alone ss shown n ids d None e h = record { id = d.0; there = subst (λ (l : List Digest). IsIn d.0 (bytes_of l)) (sym e) (inl refl); none = h }
taken-alone ss shown n ids d (Some t) e h = subst (λ (l : List Digest). AreTaken ss shown n (bytes_of l) (taken_rows t)) (sym e) h

pub at-place : (ids : List Digest) (i : ℕ) (d : Digest) → i < length ids → IsIn (get_or ids i d).0 (bytes_of ids)
at-place [] i d h = absurd (omega (arith, h))
at-place (x ∷ ids) zero d h = inl refl
at-place (x ∷ ids) (suc i) d h = inr (at-place ids i d (omega (arith, h)))

pub not-taken : (ss : List Step) (shown : List SeenRow) (n : ℕ) (ids : List Digest) (i : ℕ) (d : Digest) (o : Option Row) → i < length ids → o ≡ None
    → MatchOption o (IsNotTaken ss shown n (get_or ids i d).0) (IsTaken ss shown n (get_or ids i d).0) → OneIsNotTaken ss shown n (bytes_of ids)
not-taken ss shown n ids i d o lt e m = record {
  id = (get_or ids i d).0;
  there = at-place ids i d lt;
  none = subst (λ (z : Option Row). MatchOption z (IsNotTaken ss shown n (get_or ids i d).0) (IsTaken ss shown n (get_or ids i d).0)) e m;
}

pub as-many-bytes : (ids : List Digest) → length (bytes_of ids) ≡ length ids
as-many-bytes [] = refl
as-many-bytes (x ∷ ids) = ap suc (as-many-bytes ids)
