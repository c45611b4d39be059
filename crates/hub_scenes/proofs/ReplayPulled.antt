-- A meaning seen through values of other types keeps the laws.
use Rattle.std.proofs.Common.{◌≡◌, ℕ, zero, suc, ◌+◌, Bool, true, false, ◌&&◌, List, [], ◌∷◌, ◌++◌, length, map, refl, sym, ap, subst, ◌∙◌, arith, eqb, Some}
use Rattle.std.specs.Prelude.{slice_get}
use Rattle.hub_rule.specs.Counts.{one_if, count, once_below, things_of, Each, Projected}
use Rattle.hub_rule.specs.Meaning.{Meaning, Lawful, store_after, offered, ended, taking, if_wanted, Pending, MayFollow, Allowed, AllowedAfter, Ran, ArePending}
use Rattle.hub_scenes.specs.ReplayPulled.{seen_at, pulled, Agrees}

map-both : {A B : Type 0} (f : A → B) (xs ys : List A) → map f (xs ++ ys) ≡ map f xs ++ map f ys
map-both f [] ys = refl
map-both f (x ∷ xs) ys = ap (λ l. f x ∷ l) (map-both f xs ys)

get-seen : {A B : Type 0} (f : A → B) (xs : List A) (i : ℕ) (a : A) → slice_get xs i ≡ Some a → slice_get (map f xs) i ≡ Some (f a)
get-seen f [] i a e = cc
get-seen f (x ∷ xs) zero a e = let same : x ≡ a = cc e in ap (λ y. Some (f y)) same
get-seen f (x ∷ xs) (suc i) a e = get-seen f xs i a e

module _ {Store E X W D Y V : Type 0} (m : Meaning Store E X W) (entry : D → E) (shard : Y → X) (work : V → W) (takes : D → V) (offers : D → List V) (agrees : Agrees m entry shard work takes offers) where
  abbrev far : Meaning Store D Y V
  far = pulled m entry shard work takes offers

  -- a log, seen
  abbrev pub seen : List (ℕ × D) → List (ℕ × E)
  seen log = map (seen_at entry) log

  pub things-seen : (log : List (ℕ × D)) → things_of (seen log) ≡ map entry (things_of log)
  things-seen [] = refl
  things-seen (q ∷ log) = ap (λ l. entry q.1 ∷ l) (things-seen log)

  pub store-seen : (es : List D) (st : Store) → store_after m st (map entry es) ≡ store_after far st es
  store-seen [] st = refl
  store-seen (e ∷ es) st = store-seen es (m.after st (entry e))

  pub now-seen : (log : List (ℕ × D)) (st : Store) → store_after m st (things_of (seen log)) ≡ store_after far st (things_of log)
  now-seen log st = ap (store_after m st) (things-seen log) ∙ store-seen (things_of log) st

  pub offered-seen : (log : List (ℕ × D)) (ws : List V) → offered m (map work ws) (seen log) ≡ map work (offered far ws log)
  offered-seen [] ws = refl
  offered-seen (q ∷ log) ws =
      ap (λ l. offered m l (seen log)) (ap (λ l. map work ws ++ l) (sym (agrees.offers_so q.1)) ∙ sym (map-both work ws (offers q.1))) ∙ offered-seen log (ws ++ offers q.1)

  pub ended-seen : (log : List (ℕ × D)) (i : ℕ) → ended m i (seen log) ≡ ended far i log
  ended-seen [] i = refl
  ended-seen (q ∷ log) i = ap (λ n. one_if (eqb q.0 i && m.ends (entry q.1)) + n) (ended-seen log i)

  wanted-seen : (b : Bool) (e : D) (es : List D) → if_wanted b (entry e) (map entry es) ≡ map entry (if_wanted b e es)
  wanted-seen true e es = refl
  wanted-seen false e es = refl

  pub taking-seen : (log : List (ℕ × D)) (i : ℕ) → taking m i (seen log) ≡ map entry (taking far i log)
  taking-seen [] i = refl
  taking-seen (q ∷ log) i = ap {A = List E} (λ l. if_wanted (eqb q.0 i) (entry q.1) l) (taking-seen log i) ∙ wanted-seen (eqb q.0 i) q.1 (taking far i log)

  pub pending-seen : (works : List V) (log : List (ℕ × D)) (i : ℕ) (w : V) → Pending far works log i w → Pending m (map work works) (seen log) i (work w)
  pending-seen works log i w k = (
    ap (λ l. slice_get l i) (offered-seen log works) ∙ get-seen work (offered far works log) i w k.0,
    ended-seen log i ∙ k.1,
  )

  may-seen : (st : Store) (works : List V) (log : List (ℕ × D)) (q : ℕ × D) → MayFollow far st works log q → MayFollow m st (map work works) (seen log) (seen_at entry q)
  may-seen st works log q k = (
    subst (λ w. Pending m (map work works) (seen log) q.0 w) (agrees.takes_so q.1) (pending-seen works log q.0 (takes q.1) k.0),
    subst (λ s. m.allows s (entry q.1)) (sym (now-seen log st)) k.1,
  )

  after-seen : (st : Store) (works : List V) (before log : List (ℕ × D)) → AllowedAfter far st works before log → AllowedAfter m st (map work works) (seen before) (seen log)
  after-seen st works before [] k = tt
  after-seen st works before (q ∷ log) k = (
    may-seen st works before q k.0,
    subst (λ l. AllowedAfter m st (map work works) l (seen log)) (map-both (seen_at entry) before (q ∷ [])) (after-seen st works (before ++ q ∷ []) log k.1),
  )

  pub allowed-seen : (st : Store) (works : List V) (log : List (ℕ × D)) → Allowed far st works log → Allowed m st (map work works) (seen log)
  allowed-seen st works log k = after-seen st works [] log k

  each-seen : (st : Store) (xs : List (ℕ × Y)) → Each (far.projects st) xs → Each (m.projects st) (map (seen_at shard) xs)
  each-seen st [] k = tt
  each-seen st (x ∷ xs) k = (k.0, each-seen st xs k.1)

  -- the laws
  pub lawful-seen : Lawful m → Lawful far
  lawful-seen laws = record {
    untouched = λ st e k x n is. laws.untouched st (entry e) k (shard x) n is;
    projection = λ st e k x y may hit is to. laws.projection st (entry e) k (shard x) (shard y) may hit is to;
    told = λ st works log shards i e opens legal pends all tells. subst (λ s. m.allows s (entry e)) (now-seen log st)
        (laws.told st (map work works) (seen log) (map (seen_at shard) shards) i (entry e) opens (allowed-seen st works log legal)
        (subst (λ w. Pending m (map work works) (seen log) i w) (agrees.takes_so e) (pending-seen works log i (takes e) pends))
        (subst (λ s. Each (m.projects s) (map (seen_at shard) shards)) (sym (now-seen log st)) (each-seen (store_after far st (things_of log)) shards all))
        (subst (λ es. m.tells (map (seen_at shard) shards) es (entry e)) (sym (taking-seen log i)) tells));
    cheap = λ e. laws.cheap (entry e);
  }

  unseen : {A B : Type 0} (f : A → B) (xs : List A) (i : ℕ) (b : B) → slice_get (map f xs) i ≡ Some b → (a : A) × (slice_get xs i ≡ Some a) × (f a ≡ b)
  unseen f [] i b e = absurd (cc e)
  unseen f (x ∷ xs) zero b e = let same : f x ≡ b = cc e in (x, refl, same)
  unseen f (x ∷ xs) (suc i) b e = unseen f xs i b e

  projected-seen : (st : Store) (xs : List Y) → Projected far.projects st xs → Projected m.projects st (map shard xs)
  projected-seen st xs k i x e = let u = unseen shard xs i x e in subst (m.projects st i) u.2 (k i u.0 u.1)

  things-works : (ps : List (ℕ × V)) → things_of (map (seen_at work) ps) ≡ map work (things_of ps)
  things-works [] = refl
  things-works (q ∷ ps) = ap (λ l. work q.1 ∷ l) (things-works ps)

  count-seen : (ps : List (ℕ × V)) (i : ℕ) → count i (map (seen_at work) ps) ≡ count i ps
  count-seen [] i = refl
  count-seen (q ∷ ps) i = ap (λ n. one_if (eqb q.0 i) + n) (count-seen ps i)

  each-place : (works : List V) (log : List (ℕ × D)) (ps : List (ℕ × V)) → Each (λ i w. slice_get (offered far works log) i ≡ Some w) ps → Each (λ i w. slice_get (offered m (map work works) (seen log)) i ≡ Some w) (map (seen_at work) ps)
  each-place works log [] k = tt
  each-place works log (q ∷ ps) k = (ap (λ l. slice_get l q.0) (offered-seen log works) ∙ get-seen work (offered far works log) q.0 q.1 k.0, each-place works log ps k.1)

  length-seen : {A B : Type 0} (f : A → B) (xs : List A) → length (map f xs) ≡ length xs
  length-seen f [] = refl
  length-seen f (x ∷ xs) = ap suc (length-seen f xs)

  pending-all-seen : (works : List V) (log : List (ℕ × D)) (ps : List (ℕ × V)) → ArePending far works log ps → ArePending m (map work works) (seen log) (map (seen_at work) ps)
  pending-all-seen works log ps k = (
    each-place works log ps k.0,
    (λ i. (let a = count-seen ps i in let b = ended-seen log i in let c = k.1 i in let n : count i (map (seen_at work) ps) + ended m i (seen log) ≡ once_below i (length (offered far works log)) = omega arith in
        n ∙ ap (once_below i) (sym (ap length (offered-seen log works) ∙ length-seen work (offered far works log))))),
  )

  -- what ran, seen
  pub ran-seen : (opened : List Y) (works : List V) (entries : List D) (closed : List Y) (left : List V) (hands : List (ℕ × V)) → Ran far opened works entries closed left hands
      → Ran m (map shard opened) (map work works) (map entry entries) (map shard closed) (map work left) (map (seen_at work) hands)
  ran-seen opened works entries closed left hands r = record {
    store = r.store;
    log = seen r.log;
    rests = map (seen_at work) r.rests;
    same = things-seen r.log ∙ ap (map entry) r.same;
    starts = (projected-seen r.store opened r.starts.0, r.starts.1);
    allowed = allowed-seen r.store works r.log r.allowed;
    closes = subst (λ s. Projected m.projects s (map shard closed)) (sym (store-seen entries r.store)) (projected-seen (store_after far r.store entries) closed r.closes);
    lies = things-works r.rests ∙ ap (map work) r.lies;
    pending = subst (ArePending m (map work works) (seen r.log)) (map-both (seen_at work) r.rests hands) (pending-all-seen works r.log (r.rests ++ hands) r.pending);
  }
