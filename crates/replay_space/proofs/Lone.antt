-- Steps one of whose ids has no other use stand before themselves never.
use Rattle.std.proofs.Common.{◌≡◌, ◌≤◌, ◌<◌, ℕ, zero, suc, Bool, true, false, ◌||◌, cond, List, [], ◌∷◌, ◌++◌, length, map as each, get_or, take, drop, refl, sym, ◌∙◌, ap, arith}
use Rattle.std.specs.Prelude.{count_by}
use Rattle.std.specs.Bool.{Decides}
use Rattle.std.specs.Str.{bytes_eq}
use Rattle.std.proofs.lemmas.Slice.Eq.{bytes_eq-Decides}
use Rattle.std.proofs.lemmas.List.Sums.{sum_by-append, sum_by-cons}
use Rattle.calculus.specs.Log.{Step}
use Rattle.calculus.specs.Steps.{is_one_of, same_meeting}
use Rattle.racing_replays.specs.Replaying.{names}
use Rattle.racing_replays.specs.Counted.{names_id, uses}
use Rattle.replay_space.specs.Rigs.{Count, IsLone, counted, AreCounts}
use Rattle.replay_space.proofs.Filed.{one-more-of, same-ids-are, count-more}

-- an id has as many uses as steps name it
pub many-uses : (x : List ℕ) (j : ℕ) (ss : List Step) → length (uses x j ss) ≡ count_by (names_id x) ss
many-uses x j [] = refl
many-uses x j (s ∷ ss) = go (names_id x s) refl (many-uses x (suc j) ss)
  where
    go : (b : Bool) → names_id x s ≡ b → length (uses x (suc j) ss) ≡ count_by (names_id x) ss → length (cond b (j ∷ uses x (suc j) ss) (uses x (suc j) ss)) ≡ count_by (names_id x) (s ∷ ss)
    go true e h = omega (arith, h, sum_by-cons (λ v. cond (names_id x v) 1 0) s ss, ap {B = ℕ} (λ c. cond c 1 0) e)
    go false e h = omega (arith, h, sum_by-cons (λ v. cond (names_id x v) 1 0) s ss, ap {B = ℕ} (λ c. cond c 1 0) e)

-- no more steps equal one than name one of its ids
equal-name : (x : List ℕ) (s : Step) → names_id x s ≡ true → (us : List Step) → count_by (same_meeting s) us ≤ count_by (names_id x) us
equal-name x s n [] = omega arith
equal-name x s n (u ∷ us) = go (same_meeting s u) refl (names_id x u) refl (equal-name x s n us)
  where
    one : same_meeting s u ≡ true → names_id x u ≡ true
    one e = ap (is_one_of x) (sym (same-ids-are (names s) (names u) e)) ∙ n

    clash : false ≡ true → ⊥
    clash e = cc

    go : (b : Bool) → same_meeting s u ≡ b → (c : Bool) → names_id x u ≡ c → count_by (same_meeting s) us ≤ count_by (names_id x) us → count_by (same_meeting s) (u ∷ us) ≤ count_by (names_id x) (u ∷ us)
    go true e false f h = absurd (clash (sym f ∙ one e))
    go true e true f h =
        omega (arith, h, sum_by-cons (λ v. cond (same_meeting s v) 1 0) u us, ap {B = ℕ} (λ c. cond c 1 0) e, sum_by-cons (λ v. cond (names_id x v) 1 0) u us, ap {B = ℕ} (λ c. cond c 1 0) f)
    go false e true f h =
        omega (arith, h, sum_by-cons (λ v. cond (same_meeting s v) 1 0) u us, ap {B = ℕ} (λ c. cond c 1 0) e, sum_by-cons (λ v. cond (names_id x v) 1 0) u us, ap {B = ℕ} (λ c. cond c 1 0) f)
    go false e false f h =
        omega (arith, h, sum_by-cons (λ v. cond (same_meeting s v) 1 0) u us, ap {B = ℕ} (λ c. cond c 1 0) e, sum_by-cons (λ v. cond (names_id x v) 1 0) u us, ap {B = ℕ} (λ c. cond c 1 0) f)

pub lone-never : (log before : List Step) (s : Step) (after : List Step) → log ≡ before ++ s ∷ after → IsLone log s → count_by (same_meeting s) before ≡ 0
lone-never log before s after is lone = omega (
  arith,
  equal-name lone.id s lone.named before,
  many-uses lone.id 0 log,
  lone.one,
  ap (count_by (names_id lone.id)) is,
  sum_by-append (λ v. cond (names_id lone.id v) 1 0) before (s ∷ after),
  sum_by-cons (λ v. cond (names_id lone.id v) 1 0) s after,
  ap {B = ℕ} (λ c. cond c 1 0) lone.named,
)

-- such a step is not counted
pub counts-past : (log before : List Step) (s : Step) (es : List Count) → AreCounts log before es → IsLone log s → AreCounts log (before ++ s ∷ []) es
counts-past log before s es h lone u w = go (same_meeting u s) refl
  where
    go : (b : Bool) → same_meeting u s ≡ b → counted u es ≡ count_by (same_meeting u) (before ++ s ∷ [])
    go true e = absurd (w (record { id = lone.id; named = ap (is_one_of lone.id) (same-ids-are (names u) (names s) e) ∙ lone.named; one = lone.one }))
    go false e = omega (arith, h u w, count-more (same_meeting u) before s false e)

-- a step with an id that has one use
pub lone-here : (log : List Step) (s : Step) (x : List ℕ) → names_id x s ≡ true → length (uses x 0 log) ≡ 1 → Decides true (IsLone log s)
lone-here log s x n e = ((λ _. record { id = x; named = n; one = e }), (λ _. refl))

pub lone-receiver : (log : List Step) (s : Step) (b : Bool) → b ≡ true → Decides b (length (uses s.receiver 0 log) ≡ 1) → Decides true (IsLone log s)
lone-receiver log s b e d = lone-here log s s.receiver (ap (λ c. c || is_one_of s.receiver s.data_ids) ((bytes_eq-Decides s.receiver s.receiver).1 refl)) (d.0 e)

-- and one with none
pub lone-nowhere : (log : List Step) (s : Step) (b : Bool) → b ≡ false → Decides b (length (uses s.receiver 0 log) ≡ 1) → ((x : List ℕ) → length (uses x 0 log) ≡ 1 → is_one_of x s.data_ids ≡ false) → Decides false (IsLone log s)
lone-nowhere log s b e d none = ((λ f. cc), (λ lone. absurd (go lone (bytes_eq lone.id s.receiver) refl)))
  where
    clash : false ≡ true → ⊥
    clash f = cc

    go : (lone : IsLone log s) (c : Bool) → bytes_eq lone.id s.receiver ≡ c → ⊥
    go lone true f = clash (sym e ∙ d.1 (ap (λ x. length (uses x 0 log)) (sym ((bytes_eq-Decides lone.id s.receiver).0 f)) ∙ lone.one))
    go lone false f = clash (sym (none lone.id lone.one) ∙ ap (λ c. c || is_one_of lone.id s.data_ids) (sym f) ∙ lone.named)

-- one more id that has no such use
pub none-further : (log : List Step) (x y : List ℕ) (ids : List (List ℕ)) (b : Bool) → b ≡ false → Decides b (length (uses y 0 log) ≡ 1) → length (uses x 0 log) ≡ 1 → is_one_of x ids ≡ false → is_one_of x (ids ++ y ∷ []) ≡ false
none-further log x y ids b e d one none = one-more-of x ids y ∙ ap (λ c. c || bytes_eq x y) none ∙ go (bytes_eq x y) refl
  where
    clash : false ≡ true → ⊥
    clash f = cc

    go : (c : Bool) → bytes_eq x y ≡ c → c ≡ false
    go false f = refl
    go true f = absurd (clash (sym e ∙ d.1 (ap (λ z. length (uses z 0 log)) (sym ((bytes_eq-Decides x y).0 f)) ∙ one)))

-- an id that a step takes is one that it names
pub taken-named : (s : Step) (x : List ℕ) → is_one_of x s.data_ids ≡ true → names_id x s ≡ true
taken-named s x e = go (bytes_eq x s.receiver)
  where
    go : (b : Bool) → b || is_one_of x s.data_ids ≡ true
    go true = refl
    go false = e

-- a list about a place
pub cut-at : {A B : Type 0} (f : A → B) (xs : List A) (i : ℕ) (d : A) → i < length xs → each f xs ≡ each f (take i xs) ++ f (get_or xs i d) ∷ each f (drop (suc i) xs)
cut-at f [] i d h = absurd (omega (arith, h))
cut-at f (x ∷ xs) zero d h = refl
cut-at f (x ∷ xs) (suc i) d h = ap (λ l. f x ∷ l) (cut-at f xs i d (omega (arith, h)))

pub member-at : {A : Type 0} (f : A → List ℕ) (xs : List A) (i : ℕ) (d : A) → i < length xs → is_one_of (f (get_or xs i d)) (each f xs) ≡ true
member-at f [] i d h = absurd (omega (arith, h))
member-at f (x ∷ xs) zero d h = ap (λ b. b || is_one_of (f x) (each f xs)) ((bytes_eq-Decides (f x) (f x)).1 refl)
member-at f (x ∷ xs) (suc i) d h = go (bytes_eq (f (get_or xs i d)) (f x)) (member-at f xs i d (omega (arith, h)))
  where
    go : (b : Bool) → is_one_of (f (get_or xs i d)) (each f xs) ≡ true → b || is_one_of (f (get_or xs i d)) (each f xs) ≡ true
    go true e = refl
    go false e = e
