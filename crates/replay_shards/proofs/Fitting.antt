-- When rows in hand fit a step.
use Rattle.std.proofs.Common.{◌≡◌, ◌<◌, ◌≤◌, ◌^◌, ◌-◌, ℕ, zero, suc, Bool, true, false, cond, List, [], ◌∷◌, length, refl, sym, ap, subst, ◌∙◌, inl, inr, arith}
use Rattle.std.specs.Prelude.{◌&&◌, ◌||◌, eqb, not, Option, Some, None, slice_get, count_by, MatchOption, Result, Ok, Err, IfOk}
use Rattle.std.specs.declared.alloc.AllocError.{AllocError}
use Rattle.std.specs.Str.{bytes_eq}
use Rattle.calculus.proofs.Members.{Member}
use Rattle.calculus.specs.Log.{Step}
use Rattle.calculus.specs.Rows.{Row}
use Rattle.calculus.specs.Steps.{Meeting, differ, is_one_of, same_meeting}
use Rattle.events.specs.Found.{met, is_lasting}
use Rattle.racing_replays.specs.Replaying.{names, ids_of}
use Rattle.racing_replays.specs.Counted.{names_id, uses}
use Rattle.hub_scenes.specs.Spaces.{SeenRow, bare, IsIn}
use Rattle.hub_scenes.specs.Showing.{Fit, IdsTellSeen, IsLower}
use Rattle.hub_scenes.proofs.Basics.{has, hold}
use Rattle.replay_shards.specs.declared.ready.Ready.{Ready}
use Rattle.replay_rows.specs.Rows.{find_seen, has_full}
use Rattle.replay_shards.specs.Taken.{AreFound, AreTaken, IsNotTaken, IsTaken, OneIsNotTaken, FitsNothing}
use Rattle.replay_shards.specs.Ready.{IsReady, Meet, MeetNot}
use Rattle.replay_rows.proofs.Filing.{same-id, is-same}
use Rattle.replay_slots.proofs.Fullness.{low-where, full-where}
use Rattle.replay_shards.proofs.Trying.{found-id, found-in}

nothing : {A : Type 0} (x : A) → None ≡ Some x → ⊥
nothing x e = cc e

one : {A : Type 0} (x y : A) → Some x ≡ Some y → x ≡ y
one x y e = cc e

-- a row that is there is found, if ids tell rows
pub some-found : (x : List ℕ) (qs : List SeenRow) (q : SeenRow) → Member q qs → x ≡ q.row.id → (z : SeenRow) × (find_seen x qs ≡ Some z)
some-found x [] q m e = absurd m
some-found x (y ∷ qs) q m e = go (bytes_eq x y.row.id) refl m (λ k. some-found x qs q k e)
  where
    differs : true ≡ false → ⊥
    differs f = cc f

    go : (b : Bool) → bytes_eq x y.row.id ≡ b → Member q (y ∷ qs) → (Member q qs → (z : SeenRow) × (find_seen x qs ≡ Some z)) → (z : SeenRow) × (cond b (Some y) (find_seen x qs) ≡ Some z)
    go true f k next = (y, refl)
    go false f (inl g) next = absurd (differs (sym (is-same x y.row.id (e ∙ ap (λ (w : SeenRow). w.row.id) g)) ∙ f))
    go false f (inr k) next = next k

finds : (x : List ℕ) (shown : List SeenRow) (q : SeenRow) → IdsTellSeen shown → IsIn q shown → x ≡ q.row.id → find_seen x shown ≡ Some q
finds x shown q tell m e =
    let z = some-found x shown q (has q shown m) e in
    let same : z.0 ≡ q = tell z.0 q (hold z.0 shown (found-in x shown z.0 z.1)) m (sym (found-id x shown z.0 z.1) ∙ e) in
    z.1 ∙ ap (λ w. Some w) same

-- the row with an id that a list of rows has
record Has (x : List ℕ) (qs : List SeenRow) : Type 0 where
  pub row : SeenRow
  pub there : IsIn row qs
  pub id : x ≡ row.row.id

has-one : (x : List ℕ) (qs : List SeenRow) → is_one_of x (ids_of (bare qs)) ≡ true → Has x qs
has-one x [] e = absurd (cc)
has-one x (q ∷ qs) e = go (bytes_eq x q.row.id) refl e (has-one x qs)
  where
    go : (b : Bool) → bytes_eq x q.row.id ≡ b → b || is_one_of x (ids_of (bare qs)) ≡ true → (is_one_of x (ids_of (bare qs)) ≡ true → Has x qs) → Has x (q ∷ qs)
    go true f g next = record { row = q; there = inl refl; id = same-id x q.row.id f }
    go false f g next = let h = next g in record { row = h.row; there = inr h.there; id = h.id }

is-one : (x : List ℕ) (xs : List (List ℕ)) → IsIn x xs → is_one_of x xs ≡ true
is-one x [] m = absurd m
is-one x (y ∷ xs) (inl e) = ap (λ b. b || is_one_of x xs) (is-same x y e)
is-one x (y ∷ xs) (inr m) = ap (λ b. bytes_eq x y || b) (is-one x xs m) ∙ yes (bytes_eq x y)
  where
    yes : (b : Bool) → b || true ≡ true
    yes true = refl
    yes false = refl

few-uses : (x : List ℕ) (j : ℕ) (ss : List Step) → length (uses x j ss) ≤ length ss
few-uses x j [] = omega arith
few-uses x j (s ∷ ss) = go (names_id x s) (few-uses x (suc j) ss)
  where
    go : (b : Bool) → length (uses x (suc j) ss) ≤ length ss → length (cond b (j ∷ uses x (suc j) ss) (uses x (suc j) ss)) ≤ suc (length ss)
    go true h = omega (arith, h)
    go false h = omega (arith, h)

within : (l : List ℕ) (n i : ℕ) → slice_get l n ≡ Some i → n < length l
within [] n i e = cc
within (x ∷ l) zero i e = omega arith
within (x ∷ l) (suc n) i e = omega (arith, within l n i e)

and-left : (a b : Bool) → a && b ≡ true → a ≡ true
and-left true b e = refl
and-left false b e = absurd (cc)

and-right : (a b : Bool) → a && b ≡ true → b ≡ true
and-right true b e = e
and-right false b e = absurd (cc)

module _ (ss : List Step) (shown : List SeenRow) (before : List Step) (s : Step) (i : ℕ) where
  abbrev pub may : Bool
  may = not (has_full s shown) && (differ s.data_ids && eqb s.repeat (count_by (same_meeting s) before))

  fit-may : length ss < 2 ^ 32 - 1 → IdsTellSeen shown → (qs : List SeenRow) (m : Meeting) → ((q : SeenRow) → IsIn q qs → IsIn q shown) → Fit ss before s i qs m → may ≡ true
  fit-may small tell qs m there f = go (has_full s shown) refl
    where
      counts : eqb s.repeat (count_by (same_meeting s) before) ≡ true
      counts = and-left (eqb s.repeat (count_by (same_meeting s) before)) (eqb s.repeat 0 || is_lasting m) f.repeats

      go : (b : Bool) → has_full s shown ≡ b → not b && (differ s.data_ids && eqb s.repeat (count_by (same_meeting s) before)) ≡ true
      go false e = ap (λ b. b && eqb s.repeat (count_by (same_meeting s) before)) f.differs ∙ counts
      go true e =
          let w = full-where s shown e in
          let h = has-one w.row.row.id qs (ap (is_one_of w.row.row.id) (sym f.named) ∙ w.named) in
          let same : w.row ≡ h.row = tell w.row h.row (hold w.row shown w.there) (there h.row h.there) h.id in
          let n : h.row.done < length ss = omega (arith, within (uses h.row.row.id 0 ss) h.row.done i (f.turn h.row h.there), few-uses h.row.row.id 0 ss) in
          let many : 2 ^ 32 - 1 ≤ h.row.done = subst (λ (q : SeenRow). 2 ^ 32 - 1 ≤ q.done) same w.many in
          absurd (omega (arith, n, many, small))

  pub none-may : length ss < 2 ^ 32 - 1 → may ≡ false → FitsNothing ss shown before s i
  none-may small e tell qs m there f = differs (sym (fit-may small tell qs m there f) ∙ e)
    where
      differs : true ≡ false → ⊥
      differs g = cc g

  none-named : (x : List ℕ) → is_one_of x (names s) ≡ true → IsNotTaken ss shown i x → FitsNothing ss shown before s i
  none-named x named n tell qs m there f =
      let h = has-one x qs (ap (is_one_of x) (sym f.named) ∙ named) in
      n h.row (finds x shown h.row tell (there h.row h.there) h.id) (f.turn h.row h.there) (f.lower h.row h.there)

  pub none-received : IsNotTaken ss shown i s.receiver → FitsNothing ss shown before s i
  none-received n = none-named s.receiver (ap (λ b. b || is_one_of s.receiver s.data_ids) (is-same s.receiver s.receiver refl)) n

  pub none-taken : OneIsNotTaken ss shown i s.data_ids → FitsNothing ss shown before s i
  none-taken o = none-named o.id (is-one o.id (names s) (inr o.there)) o.none

  same-rows : IdsTellSeen shown → (xs : List (List ℕ)) (qs zs : List SeenRow) → xs ≡ ids_of (bare qs) → ((q : SeenRow) → IsIn q qs → IsIn q shown) → AreFound shown xs zs → qs ≡ zs
  same-rows tell [] [] [] e t h = refl
  same-rows tell [] [] (z ∷ zs) e t h = absurd h
  same-rows tell [] (q ∷ qs) zs e t h = absurd (cc)
  same-rows tell (x ∷ xs) [] zs e t h = absurd (cc)
  same-rows tell (x ∷ xs) (q ∷ qs) [] e t h = absurd h
  same-rows tell (x ∷ xs) (q ∷ qs) (z ∷ zs) e t h =
      let id : x ≡ q.row.id = cc e in
      let rest : xs ≡ ids_of (bare qs) = cc e in
      ap (λ w. w ∷ qs) (one q z (sym (finds x shown q tell (t q (inl refl)) id) ∙ h.0)) ∙ ap (λ l. z ∷ l) (same-rows tell xs qs zs rest (λ w m. t w (inr m)) h.1)

  pub none-meet : (r : SeenRow) (ds : List SeenRow) → AreFound shown (names s) (r ∷ ds) → MeetNot (r ∷ ds) s.repeat → FitsNothing ss shown before s i
  none-meet r ds h n tell qs m there f =
      let same = same-rows tell (names s) qs (r ∷ ds) f.named there h in
      n m (ap (λ (l : List SeenRow). met (bare l)) (sym same) ∙ f.meets) (and-right (eqb s.repeat (count_by (same_meeting s) before)) (eqb s.repeat 0 || is_lasting m) f.repeats)

  -- rows that are taken
  pub record Rows (xs : List (List ℕ)) (rs : List Row) : Type 0 where
    pub rows : List SeenRow
    pub found : AreFound shown xs rows
    pub are : bare rows ≡ rs
    pub ids : xs ≡ ids_of (bare rows)
    pub there : (q : SeenRow) → IsIn q rows → IsIn q shown
    pub turn : (q : SeenRow) → IsIn q rows → slice_get (uses q.row.id 0 ss) q.done ≡ Some i
    pub lower : (q : SeenRow) → IsIn q rows → IsLower q.from i

  pub rows-of : (xs : List (List ℕ)) (rs : List Row) → AreTaken ss shown i xs rs → Rows xs rs
  rows-of [] [] h = record { rows = []; found = tt; are = refl; ids = refl; there = λ q m. absurd m; turn = λ q m. absurd m; lower = λ q m. absurd m }
  rows-of [] (r ∷ rs) h = absurd h
  rows-of (x ∷ xs) [] h = absurd h
  rows-of (x ∷ xs) (r ∷ rs) h =
      let k = rows-of xs rs h.1 in
      let t = h.0 in
      record {
        rows = t.seen ∷ k.rows;
        found = (t.found, k.found);
        are = ap (λ z. z ∷ bare k.rows) t.row ∙ ap (λ l. r ∷ l) k.are;
        ids = ap (λ y. y ∷ xs) (found-id x shown t.seen t.found) ∙ ap (λ l. t.seen.row.id ∷ l) k.ids;
        there = λ q m. elim m [ inl e ↦ subst (λ w. IsIn w shown) (sym e) (hold t.seen shown (found-in x shown t.seen t.found)) | inr n ↦ k.there q n ];
        turn = λ q m. elim m [ inl e ↦ subst (λ (w : SeenRow). slice_get (uses w.row.id 0 ss) w.done ≡ Some i) (sym e) t.turn | inr n ↦ k.turn q n ];
        lower = λ q m. elim m [ inl e ↦ subst (λ (w : SeenRow). IsLower w.from i) (sym e) t.lower | inr n ↦ k.lower q n ];
      }

  no-full : (a b : Bool) → not a && b ≡ true → a ≡ false
  no-full true b e = absurd (cc)
  no-full false b e = refl

  pub some-ready : may ≡ true → (receiver : Row) (rs : List Row) (k : Rows (names s) (receiver ∷ rs)) (r : SeenRow) (ds : List SeenRow) → k.rows ≡ r ∷ ds → (f : Ready) → Meet ss shown s.repeat r ds f → IsReady ss shown before s i f
  some-ready e receiver rs k r ds w f m = record {
    receiver = r;
    data_rows = ds;
    first = (subst (AreFound shown (names s)) w k.found).0;
    at_hand = λ q n. k.there q (subst (λ (l : List SeenRow). IsIn q l) (sym w) n);
    found = m.found;
    fits = record {
      named = k.ids ∙ ap (λ (l : List SeenRow). ids_of (bare l)) w;
      differs = and-left (differ s.data_ids) (eqb s.repeat (count_by (same_meeting s) before)) (and-right (not (has_full s shown)) (differ s.data_ids && eqb s.repeat (count_by (same_meeting s) before)) e);
      meets = m.found.meets;
      turn = λ q n. k.turn q (subst (λ (l : List SeenRow). IsIn q l) (sym w) n);
      lower = λ q n. k.lower q (subst (λ (l : List SeenRow). IsIn q l) (sym w) n);
      repeats = ap (λ b. b && (eqb s.repeat 0 || is_lasting m.found.meeting)) (and-right (differ s.data_ids) (eqb s.repeat (count_by (same_meeting s) before)) (and-right (not (has_full s shown)) (differ s.data_ids && eqb s.repeat (count_by (same_meeting s) before)) e)) ∙ m.may;
    };
    early = m.but.early;
    are = m.but.are ∙ m.next.are;
    uses_of = λ z n. m.next.uses_of z (m.but.fewer z n);
    lacks = m.but.lacks;
    low = low-where s shown (no-full (has_full s shown) (differ s.data_ids && eqb s.repeat (count_by (same_meeting s) before)) e);
  }

  -- what rows that are taken come to
  pub answered : may ≡ true → (receiver : Row) (rs : List Row) → IsTaken ss shown i s.receiver receiver → AreTaken ss shown i s.data_ids rs → (res : Result (Option Ready) AllocError)
      → ((r : SeenRow) (ds : List SeenRow) → AreFound shown (names s) (r ∷ ds) → r.row ≡ receiver → bare ds ≡ rs → IfOk res (λ o. MatchOption o (MeetNot (r ∷ ds) s.repeat) (Meet ss shown s.repeat r ds)))
      → IfOk res (λ o. MatchOption o (FitsNothing ss shown before s i) (IsReady ss shown before s i))
  unfolding rows-of
  answered e receiver rs t h res g = go res (g t.seen d.rows (t.found, d.found) t.row d.are)
    where
      d : Rows s.data_ids rs
      d = rows-of s.data_ids rs h

      k : Rows (names s) (receiver ∷ rs)
      k = rows-of (names s) (receiver ∷ rs) (t, h)

      go : (res : Result (Option Ready) AllocError) → IfOk res (λ o. MatchOption o (MeetNot (t.seen ∷ d.rows) s.repeat) (Meet ss shown s.repeat t.seen d.rows)) → IfOk res (λ o. MatchOption o (FitsNothing ss shown before s i) (IsReady ss shown before s i))
      go (Err x) m = tt
      go (Ok None) m = none-meet t.seen d.rows (t.found, d.found) m
      go (Ok (Some f)) m = some-ready e receiver rs k t.seen d.rows refl f m
