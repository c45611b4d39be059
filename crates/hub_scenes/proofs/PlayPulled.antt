-- A meaning seen through values of other types keeps the laws.
use Rattle.std.proofs.Common.{◌≡◌, ℕ, zero, suc, ◌+◌, Bool, true, false, ◌&&◌, List, [], ◌∷◌, ◌++◌, length, map, refl, sym, ap, subst, ◌∙◌, arith, eqb, Some}
use Rattle.std.specs.Prelude.{slice_get, All}
use Rattle.std.proofs.lemmas.List.Elements.{All-nil, All-cons}
use Rattle.hub_rule.specs.Counts.{one_if, count, once_below, things_of, total, Each, Projected}
use Rattle.hub_rule.specs.Meaning.{Meaning, Lawful, store_after, offered, ended, taking, if_wanted, Pending, MayFollow, Allowed, AllowedAfter, Ran, ArePending}
use Rattle.hub_rule.specs.Stops.{FaultOf}
use Rattle.hub_scenes.specs.PlayPulled.{seen_at, pulled}

map-both : {A B : Type 0} (f : A → B) (xs ys : List A) → map f (xs ++ ys) ≡ map f xs ++ map f ys
map-both f [] ys = refl
map-both f (x ∷ xs) ys = ap (λ l. f x ∷ l) (map-both f xs ys)

get-seen : {A B : Type 0} (f : A → B) (xs : List A) (i : ℕ) (a : A) → slice_get xs i ≡ Some a → slice_get (map f xs) i ≡ Some (f a)
get-seen f [] i a e = cc
get-seen f (x ∷ xs) zero a e = let same : x ≡ a = cc e in ap (λ y. Some (f y)) same
get-seen f (x ∷ xs) (suc i) a e = get-seen f xs i a e

unseen : {A B : Type 0} (f : A → B) (xs : List A) (i : ℕ) (b : B) → slice_get (map f xs) i ≡ Some b → (a : A) × (slice_get xs i ≡ Some a) × (f a ≡ b)
unseen f [] i b e = absurd (cc e)
unseen f (x ∷ xs) zero b e = let same : f x ≡ b = cc e in (x, refl, same)
unseen f (x ∷ xs) (suc i) b e = unseen f xs i b e

module _ {Store E X W D Y : Type 0} (m : Meaning Store E X W) (entry : D → E) (shard : Y → X) (holds : Type 0) (known : D → Type 0) where
  abbrev far : Meaning Store D Y W
  far = pulled m entry shard holds known

  -- a log, seen
  abbrev pub seen : List (ℕ × D) → List (ℕ × E)
  seen log = map (seen_at entry) log

  things-seen : (log : List (ℕ × D)) → things_of (seen log) ≡ map entry (things_of log)
  things-seen [] = refl
  things-seen (q ∷ log) = ap (λ l. entry q.1 ∷ l) (things-seen log)

  store-seen : (es : List D) (st : Store) → store_after m st (map entry es) ≡ store_after far st es
  store-seen [] st = refl
  store-seen (e ∷ es) st = store-seen es (m.after st (entry e))

  now-seen : (log : List (ℕ × D)) (st : Store) → store_after m st (things_of (seen log)) ≡ store_after far st (things_of log)
  now-seen log st = ap (store_after m st) (things-seen log) ∙ store-seen (things_of log) st

  offered-seen : (log : List (ℕ × D)) (ws : List W) → offered m ws (seen log) ≡ offered far ws log
  offered-seen [] ws = refl
  offered-seen (q ∷ log) ws = offered-seen log (ws ++ m.offers (entry q.1))

  ended-seen : (log : List (ℕ × D)) (i : ℕ) → ended m i (seen log) ≡ ended far i log
  ended-seen [] i = refl
  ended-seen (q ∷ log) i = ap (λ n. one_if (eqb q.0 i && m.ends (entry q.1)) + n) (ended-seen log i)

  wanted-seen : (b : Bool) (e : D) (es : List D) → if_wanted b (entry e) (map entry es) ≡ map entry (if_wanted b e es)
  wanted-seen true e es = refl
  wanted-seen false e es = refl

  taking-seen : (log : List (ℕ × D)) (i : ℕ) → taking m i (seen log) ≡ map entry (taking far i log)
  taking-seen [] i = refl
  taking-seen (q ∷ log) i = ap {A = List E} (λ l. if_wanted (eqb q.0 i) (entry q.1) l) (taking-seen log i) ∙ wanted-seen (eqb q.0 i) q.1 (taking far i log)

  pending-seen : (works : List W) (log : List (ℕ × D)) (i : ℕ) (w : W) → Pending far works log i w → Pending m works (seen log) i w
  pending-seen works log i w k = (ap (λ l. slice_get l i) (offered-seen log works) ∙ k.0, ended-seen log i ∙ k.1)

  may-seen : holds → (st : Store) (works : List W) (log : List (ℕ × D)) (q : ℕ × D) → MayFollow far st works log q → MayFollow m st works (seen log) (seen_at entry q)
  may-seen h st works log q k = (pending-seen works log q.0 (m.takes (entry q.1)) k.0, subst (λ s. m.allows s (entry q.1)) (sym (now-seen log st)) (k.1.0 h))

  after-seen : holds → (st : Store) (works : List W) (before log : List (ℕ × D)) → AllowedAfter far st works before log → AllowedAfter m st works (seen before) (seen log)
  after-seen h st works before [] k = tt
  after-seen h st works before (q ∷ log) k = (
    may-seen h st works before q k.0,
    subst (λ l. AllowedAfter m st works l (seen log)) (map-both (seen_at entry) before (q ∷ [])) (after-seen h st works (before ++ q ∷ []) log k.1),
  )

  allowed-seen : holds → (st : Store) (works : List W) (log : List (ℕ × D)) → Allowed far st works log → Allowed m st works (seen log)
  allowed-seen h st works log k = after-seen h st works [] log k

  each-seen : holds → (st : Store) (xs : List (ℕ × Y)) → Each (far.projects st) xs → Each (m.projects st) (map (seen_at shard) xs)
  each-seen h st [] k = tt
  each-seen h st (x ∷ xs) k = (k.0 h, each-seen h st xs k.1)

  -- the laws
  pub lawful-seen : Lawful m → Lawful far
  lawful-seen laws = record {
    untouched = λ st e k x n is h. laws.untouched st (entry e) k (shard x) n (is h);
    projection = λ st e k x y may hit is to h. laws.projection st (entry e) k (shard x) (shard y) (may.0 h) hit (is h) to;
    told = λ st works log shards i e opens legal pends all tells. (
      (λ h. subst (λ s. m.allows s (entry e)) (now-seen log st)
          (laws.told st works (seen log) (map (seen_at shard) shards) i (entry e) (opens h) (allowed-seen h st works log legal) (pending-seen works log i (m.takes (entry e)) pends)
          (subst (λ s. Each (m.projects s) (map (seen_at shard) shards)) (sym (now-seen log st)) (each-seen h (store_after far st (things_of log)) shards all))
          (subst (λ es. m.tells (map (seen_at shard) shards) es (entry e)) (sym (taking-seen log i)) tells.0))),
      tells.1,
    );
    cheap = λ e. laws.cheap (entry e);
  }

  projected-seen : holds → (st : Store) (xs : List Y) → Projected far.projects st xs → Projected m.projects st (map shard xs)
  projected-seen h st xs k i x e = let u = unseen shard xs i x e in subst (m.projects st i) u.2 (k i u.0 u.1 h)

  each-place : (works : List W) (log : List (ℕ × D)) (ps : List (ℕ × W)) → Each (λ i w. slice_get (offered far works log) i ≡ Some w) ps → Each (λ i w. slice_get (offered m works (seen log)) i ≡ Some w) ps
  each-place works log [] k = tt
  each-place works log (q ∷ ps) k = (ap (λ l. slice_get l q.0) (offered-seen log works) ∙ k.0, each-place works log ps k.1)

  pending-all-seen : (works : List W) (log : List (ℕ × D)) (ps : List (ℕ × W)) → ArePending far works log ps → ArePending m works (seen log) ps
  pending-all-seen works log ps k = (
    each-place works log ps k.0,
    λ i. (let n : count i ps + ended m i (seen log) ≡ once_below i (length (offered far works log)) = omega (arith, k.1 i, ended-seen log i) in n ∙ ap (λ l. once_below i (length l)) (sym (offered-seen log works))),
  )

  -- what is known of each entry that was allowed
  known-after : (st : Store) (works : List W) (before log : List (ℕ × D)) → AllowedAfter far st works before log → All known (things_of log)
  known-after st works before [] k = All-nil known
  known-after st works before (q ∷ log) k = All-cons known q.1 (things_of log) k.0.1.1 (known-after st works (before ++ q ∷ []) log k.1)

  pub ran-known : (opened : List Y) (works : List W) (entries : List D) (closed : List Y) (left : List W) (hands : List (ℕ × W)) → Ran far opened works entries closed left hands → All known entries
  ran-known opened works entries closed left hands r = subst (All known) r.same (known-after r.store works [] r.log r.allowed)

  -- what ran, seen where the premise holds
  pub ran-seen : holds → (opened : List Y) (works : List W) (entries : List D) (closed : List Y) (left : List W) (hands : List (ℕ × W)) → Ran far opened works entries closed left hands
      → Ran m (map shard opened) works (map entry entries) (map shard closed) left hands
  ran-seen h opened works entries closed left hands r = record {
    store = r.store;
    log = seen r.log;
    rests = r.rests;
    same = things-seen r.log ∙ ap (map entry) r.same;
    starts = (projected-seen h r.store opened r.starts.0, r.starts.1 h);
    allowed = allowed-seen h r.store works r.log r.allowed;
    closes = subst (λ s. Projected m.projects s (map shard closed)) (sym (store-seen entries r.store)) (projected-seen h (store_after far r.store entries) closed r.closes);
    lies = r.lies;
    pending = pending-all-seen works r.log (r.rests ++ hands) r.pending;
  }

  -- a fault, seen
  pub fault-seen : (es : List D) → FaultOf far.faults es → FaultOf m.faults (map entry es)
  fault-seen es k = (k.0, entry k.1, get-seen entry es k.0 k.1 k.2, k.3)

  -- prices, seen
  pub total-seen : (es : List D) → total m.price (map entry es) ≡ total far.price es
  total-seen [] = refl
  total-seen (e ∷ es) = ap (λ n. m.price (entry e) + n) (total-seen es)
