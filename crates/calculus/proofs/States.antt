-- More room leaves a state as it is, so there is one at most.
use Rattle.std.proofs.Common.{◌≡◌, ◌≤◌, ℕ, ◌+◌, List, [], ◌∷◌, ◌++◌, refl, sym, ◌∙◌, subst, arith}
use Rattle.std.specs.Prelude.{Option, Some, None, option_map, option_and_then}
use Rattle.calculus.specs.Outcome.{Prices}
use Rattle.calculus.specs.Seeds.{digest_of, Comm}
use Rattle.calculus.specs.Log.{Step}
use Rattle.calculus.specs.Unfolding.{unfold_in}
use Rattle.calculus.specs.Steps.{Meeting, meeting}
use Rattle.calculus.specs.Runs.{Deploy, source_seed, State, body_work, moved, step_from, steps_from, begun, first_state, state_after, Leads}
use Rattle.calculus.specs.Laws.{RoomKeepsWork, OneUnfolding, RoomKeepsState, OneState}
use Rattle.calculus.proofs.Room.{under_more, unfold_more, capped_more}

-- what the first of two gives, the second gives too
abbrev pub Keeps : {A : Type 0} → Option A → Option A → Type 0
Keeps x y = (v : _) → x ≡ Some v → y ≡ Some v

some_one : {A : Type 0} (x y : A) → Some x ≡ Some y → x ≡ y
some_one x y e = cc

map_keeps : {A B : Type 0} (f : A → B) (x y : Option A) → Keeps x y → Keeps (option_map f x) (option_map f y)
map_keeps f None y h w e = cc
map_keeps f (Some v) y h w e = rw (h v refl) e

then_keeps : {A B : Type 0} (f g : A → Option B) (x y : Option A) → Keeps x y → ((v : A) → Keeps (f v) (g v)) → Keeps (option_and_then f x) (option_and_then g y)
then_keeps f g None y h k w e = cc
then_keeps f g (Some v) y h k w e = rw (h v refl) (k v w e)

same_keeps : {A : Type 0} (x : Option A) → Keeps x x
same_keeps x v e = e

pub room_keeps_work : RoomKeepsWork
room_keeps_work p cap n m t s w h e = capped_more cap (unfold_in p n t s) (unfold_in p m t s) w (unfold_more p n m h t s) e

pub one_unfolding : OneUnfolding
one_unfolding p cap t s v w h k =
    some_one v w (sym (room_keeps_work p cap h.0 (h.0 + k.0) t s v (omega arith) h.1) ∙ room_keeps_work p cap k.0 (h.0 + k.0) t s w (omega arith) k.1)

pub body_keeps : (p : Prices) (cap n m : ℕ) → n ≤ m → (s : Step) (e : Meeting) → Keeps (body_work p cap n s e) (body_work p cap m s e)
body_keeps p cap n m h s e w k =
    capped_more cap _ _ w (under_more (unfold_in p n) (unfold_in p m) (unfold_more p n m h) (digest_of (Comm s.receiver s.data_ids s.repeat)) e.bindings e.receiver.body) k

pub step_keeps : (p : Prices) (cap n m : ℕ) → n ≤ m → (a : State) (s : Step) → Keeps (step_from p cap n a s) (step_from p cap m a s)
step_keeps p cap n m h a s =
    then_keeps _ _ (meeting a.bag a.made s) (meeting a.bag a.made s) (same_keeps (meeting a.bag a.made s))
    (λ e. map_keeps (moved a s e) (body_work p cap n s e) (body_work p cap m s e) (body_keeps p cap n m h s e))

steps_keep : (p : Prices) (cap n m : ℕ) → n ≤ m → (a : State) (ss : List Step) → Keeps (steps_from p cap n a ss) (steps_from p cap m a ss)
steps_keep p cap n m h a [] = same_keeps (Some a)
steps_keep p cap n m h a (s ∷ ss) = then_keeps _ _ (step_from p cap n a s) (step_from p cap m a s) (step_keeps p cap n m h a s) (λ b. steps_keep p cap n m h b ss)

pub first_keeps : (d : Deploy) (n m : ℕ) → n ≤ m → Keeps (first_state d n) (first_state d m)
first_keeps d n m h = map_keeps (begun d.rows) _ _ (λ w e. room_keeps_work d.prices d.limit n m d.process (source_seed d) w h e)

pub room_keeps_state : RoomKeepsState
room_keeps_state d n m ss a h e =
    then_keeps _ _ (first_state d n) (first_state d m) (first_keeps d n m h) (λ b. steps_keep d.prices d.limit n m h b ss) a e

pub one_state : OneState
one_state d ss a b h k =
    some_one a b (sym (room_keeps_state d h.0 (h.0 + k.0) ss a (omega arith) h.1) ∙ room_keeps_state d k.0 (h.0 + k.0) ss b (omega arith) k.1)

-- what a function makes a value of, it makes it of some value
pub mapped : {A B : Type 0} (f : A → B) (x : Option A) (v : B) → option_map f x ≡ Some v → (a : A) × ((x ≡ Some a) × (f a ≡ v))
mapped f None v e = cc e
mapped f (Some a) v e = (a, (refl, cc e))

-- what is computed in one room is so wherever the steps lead
pub anyhow : {B : Type 0} (d : Deploy) (room : ℕ) (ss : List Step) (f : State → B) (v : B)
    → option_map f (state_after d room ss) ≡ Some v → (a : State) → Leads d ss a → f a ≡ v
anyhow d room ss f v e a l =
    let m = mapped f (state_after d room ss) v e in
    subst (λ b. f b ≡ v) (one_state d ss m.0 a (room, m.1.0) l) m.1.1

-- what holds before a step and after it holds wherever it is on the way
pub on_the_way : (P : List Step → Type 0) (s : Step) → P [] → P (s ∷ []) → (first rest : List Step) → s ∷ [] ≡ first ++ rest → P first
on_the_way P s before after [] rest e = before
on_the_way P s before after (u ∷ []) rest e = subst (λ w. P (w ∷ [])) (same e) after
  where
    same : s ∷ [] ≡ u ∷ rest → s ≡ u
    same e = cc e
on_the_way P s before after (u ∷ w ∷ first) rest e = cc e
