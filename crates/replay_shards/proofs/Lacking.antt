-- Tries that would come too early.
use Rattle.std.proofs.Common.{◌≡◌, ◌<◌, ℕ, Bool, true, false, cond, List, [], ◌∷◌, ◌++◌, length, refl, sym, ap, subst, ◌∙◌, inl, inr, get_or, remove}
use Rattle.std.specs.Prelude.{Some, None, slice_get, option_map}
use Rattle.std.specs.Str.{bytes_eq}
use Rattle.std.proofs.lemmas.Option.{slice_get-map}
use Rattle.calculus.specs.declared.ids.Digest.{Digest}
use Rattle.calculus.specs.Log.{Step}
use Rattle.event_log.specs.declared.log.LogStep.{LogStep}
use Rattle.event_log.specs.View.{step_of, steps_of}
use Rattle.hub_scenes.specs.Spaces.{SeenRow, IsIn}
use Rattle.hub_scenes.specs.Entries.{indices}
use Rattle.replay_shards.specs.declared.ready.Try.{Try}
use Rattle.replay_rows.specs.Rows.{find_seen}
use Rattle.replay_shards.specs.Taken.{bytes_of}
use Rattle.replay_shards.specs.Ready.{index_tries, AreBut, LacksAt, LacksOne, StartsEarly}
use Rattle.replay_rows.proofs.Filing.{is-same}
use Rattle.replay_shards.proofs.Trying.{at-place}

-- where no row is found, none has the id
pub none-seen : (x : List ℕ) (qs : List SeenRow) → find_seen x qs ≡ None → (q : SeenRow) → IsIn q qs → q.row.id ≡ x → ⊥
none-seen x [] e q m i = absurd m
none-seen x (y ∷ qs) e q m i = go (bytes_eq x y.row.id) refl e m (λ f n. none-seen x qs f q n i)
  where
    go : (b : Bool) → bytes_eq x y.row.id ≡ b → cond b (Some y) (find_seen x qs) ≡ None → IsIn q (y ∷ qs) → (find_seen x qs ≡ None → IsIn q qs → ⊥) → ⊥
    go true s f n next = absurd (cc f)
    go false s f (inr n) next = next f n
    go false s f (inl w) next = clash (sym s ∙ is-same x y.row.id (sym i ∙ ap (λ (z : SeenRow). z.row.id) w))
      where
        clash : false ≡ true → ⊥
        clash g = cc g

pub lacks-here : (shown : List SeenRow) (ids : List Digest) (i : ℕ) (d : Digest) → i < length ids → find_seen (get_or ids i d).0 shown ≡ None → LacksOne shown (bytes_of ids)
lacks-here shown ids i d lt e = record { id = (get_or ids i d).0; wanted = at-place ids i d lt; none = e }

at-length : (before : List Step) (s : Step) (after : List Step) → slice_get (before ++ s ∷ after) (length before) ≡ Some s
at-length [] s after = refl
at-length (u ∷ before) s after = at-length before s after

pub lacks-at : (steps : List LogStep) (shown : List SeenRow) (x : List ℕ) (i : ℕ) (u : LogStep) → slice_get steps i ≡ Some u → x ≡ u.cont.0 → LacksOne shown (bytes_of u.taken.items) → LacksAt (steps_of steps) shown x i
lacks-at steps shown x i u e r l before s after log place = record { receiver = r ∙ ap (λ (z : Step). z.receiver) same; datum = subst (λ (z : Step). LacksOne shown z.data_ids) same l }
  where
    both : Some (step_of u) ≡ Some s
    both = sym (slice_get-map step_of steps i ∙ ap (option_map step_of) e) ∙ ap (λ (l : List Step). slice_get l i) log ∙ ap (slice_get (before ++ s ∷ after)) (sym place) ∙ at-length before s after

    same : step_of u ≡ s
    same = cc both

pub but-none : (ss : List Step) (shown : List SeenRow) (x : List ℕ) (all : List Try) → AreBut ss shown x all all
but-none ss shown x all = record { early = []; are = refl; fewer = λ t i. i; lacks = λ i h. absurd h }

pub but-first : (ss : List Step) (shown : List SeenRow) (x : List ℕ) (all rest : List Try) → StartsEarly ss shown x all → rest ≡ remove all 0 → AreBut ss shown x all rest
but-first ss shown x all rest st e = record {
  early = st.first.step ∷ [];
  are = ap (λ (l : List Try). st.first.step ∷ indices (index_tries l)) left ∙ ap (λ (l : List Try). indices (index_tries l)) (sym st.are);
  fewer = λ t i. subst (λ (l : List Try). IsIn t (index_tries l)) (sym st.are) (inr (subst (λ (l : List Try). IsIn t (index_tries l)) left i));
  lacks = λ i h. elim h [ inl w ↦ subst (λ j. LacksAt ss shown x j) (sym w) st.lacks | inr n ↦ absurd n ];
}
  where
    left : rest ≡ st.others
    left = e ∙ ap (λ (l : List Try). remove l 0) st.are

-- a list with a first member
pub first-of : {A : Type 0} (xs : List A) (x : A) → slice_get xs 0 ≡ Some x → (ys : List A) × (xs ≡ x ∷ ys)
first-of [] x e = cc
first-of (y ∷ ys) x e = let same : y ≡ x = cc e in (ys, ap (λ z. z ∷ ys) same)
