-- From different keys to the laws of legal lists.
use Rattle.std.proofs.Common.{◌≡◌, ◌≢◌, ℕ, ◌<◌, ◌≤◌, ◌^◌, Bool, true, false, not, ◌&&◌, ◌||◌, List, [], ◌∷◌, ◌++◌, map as each, refl, sym, ap, ◌∙◌, subst, arith, inl, inr, append_assoc}
use Rattle.std.specs.Prelude.{◌⊎◌, Some, option_map, All}
use Rattle.std.specs.Str.{bytes_eq}
use Rattle.std.proofs.lemmas.List.{append-nil, map-append}
use Rattle.std.proofs.lemmas.List.Elements.{All-head, All-tail}
use Rattle.calculus.proofs.Members.{Every, every-append}
use Rattle.calculus.specs.Form.{IsDigest}
use Rattle.calculus.specs.Outcome.{Prices}
use Rattle.calculus.specs.Log.{Step}
use Rattle.calculus.specs.Rows.{Row, stdout, stdout_ack}
use Rattle.calculus.specs.Root.{root}
use Rattle.calculus.specs.Seeds.{Seed, message, System, Start}
use Rattle.calculus.specs.Unfolding.{digest}
use Rattle.calculus.specs.Steps.{meeting, is_one_of, differ}
use Rattle.calculus.specs.Runs.{deploy_of, Deploy, work_products, State, body_work, moved, step_from, steps_from, Leads, made_digests}
use Rattle.calculus.proofs.Candidates.{and_then-inv, map-inv}
use Rattle.events.specs.Events.{first_ids, AreFresh, built_in_names, built_in_ids, built_in_digests, FreshDigests}
use Rattle.events.proofs.Counts.{ids, times, same_bytes, times-append, ids-append}
use Rattle.events.proofs.Legal.{leads-rest}
use Rattle.events.proofs.Fresh.{fewer-differ}
use Rattle.events.specs.HashedTexts.{step_seed, built_in_texts, hashed_texts}
use Rattle.events.specs.Premises.{Shares, Collides}
use Rattle.events.specs.FreshLaws.{MadeDigestsDiffer, OldDigestsDiffer, LegalListsAreFresh, LegalListsAreFreshOrShowAnId}
use Rattle.events.proofs.Keys.{Clash, Key, value, IsKey, AreApart, keys-differ}
use Rattle.events.proofs.Ways.{apart-append}
use Rattle.events.proofs.Allowed.{HaveDigests}
use Rattle.events.proofs.Told.{OfStep, Told, digests-more}
use Rattle.events.proofs.Leading.{state-told}

-- the key of the system's seed number k
abbrev system_key : ℕ → Key
system_key k = record { root = System k; moves = [] }

abbrev built_in_keys : List Key
built_in_keys = system_key 2 ∷ system_key 3 ∷ system_key 0 ∷ system_key 1 ∷ []

system-sound : (H : List ℕ → Type 0) (k : ℕ) → k < 2 ^ 32 → H (message (System k)) → IsKey H (system_key k)
system-sound H k h x = record { is_root = tt; sound = h; rooms = tt; hashed = x }

built-in-sound : (H : List ℕ → Type 0) → Every H built_in_texts → Every (IsKey H) built_in_keys
built-in-sound H x =
    (system-sound H 2 (omega arith) x.0, (system-sound H 3 (omega arith) x.1.0, (system-sound H 0 (omega arith) x.1.1.0, (system-sound H 1 (omega arith) x.1.1.1.0, tt))))

number : Seed → ℕ
number (System k) = k
number _ = 0

other-number : (j k : ℕ) → (j ≡ k → ⊥) → system_key j ≢ system_key k
unfolding number
other-number j k h = λ e. h (ap (λ (x : Key). number x.root) e)

built-in-apart : AreApart built_in_keys
built-in-apart = (
  (other-number 2 3 (omega arith), (other-number 2 0 (omega arith), (other-number 2 1 (omega arith), tt))),
  (
    (other-number 3 0 (omega arith), (other-number 3 1 (omega arith), tt)),
    (
      (other-number 0 1 (omega arith), tt),
      (tt, tt),
    ),
  ),
)

-- a key that the system's seeds are at the root of
IsSystem : Key → Type 0
IsSystem k = (n : ℕ) × (k.root ≡ System n)

built-in-system : Every IsSystem built_in_keys
unfolding IsSystem
built-in-system = ((2, refl), ((3, refl), ((0, refl), ((1, refl), tt))))

not-system : (base source : List ℕ) (made : List Step) (j k : Key) → IsSystem j → (k.root ≡ Start base source) ⊎ OfStep made k.root → j ≢ k
unfolding IsSystem
not-system base source made j k s (inl e) = λ f. let g : j.root ≡ k.root = ap (λ (x : Key). x.root) f in cc (g, s.1, e)
not-system base source made j k s (inr u) = λ f. let g : j.root ≡ k.root = ap (λ (x : Key). x.root) f in let h : k.root ≡ step_seed u.0 = u.2 in cc (g, s.1, h)

told-differ : (H : List ℕ → Type 0) (base source : List ℕ) (a : State) → Every H built_in_texts → Told H (Start base source) a → (differ (built_in_digests ++ made_digests a) ≡ true) ⊎ Clash H
told-differ H base source a x h = subst (λ xs. (differ xs ≡ true) ⊎ Clash H) same (keys-differ H (built_in_keys ++ h.keys) (every-append (IsKey H) built_in_keys h.keys (built-in-sound H x) h.sound) apart)
  where
    apart : AreApart (built_in_keys ++ h.keys)
    apart = apart-append IsSystem (λ k. (k.root ≡ Start base source) ⊎ OfStep a.made k.root) (not-system base source a.made) built_in_keys h.keys built-in-system h.rooted built-in-apart h.apart

    same : each value (built_in_keys ++ h.keys) ≡ built_in_digests ++ made_digests a
    same = map-append value built_in_keys h.keys ∙ ap (λ l. each value built_in_keys ++ l) (sym h.digests)

-- a text is one of these
abbrev OneOf : List (List ℕ) → List ℕ → Type 0
OneOf ys x = is_one_of x ys ≡ true

-- what is one of these is one of these and one more
one-later : (x y : List ℕ) (ys : List (List ℕ)) → is_one_of x ys ≡ true → bytes_eq x y || is_one_of x ys ≡ true
one-later x y ys e = go (bytes_eq x y)
  where
    go : (b : Bool) → b || is_one_of x ys ≡ true
    go true = refl
    go false = e

one-first : (x : List ℕ) (ys : List (List ℕ)) → bytes_eq x x || is_one_of x ys ≡ true
one-first x ys = ap (λ b. b || is_one_of x ys) (same_bytes x x refl)

all-there : (ys xs : List (List ℕ)) → ((x : List ℕ) → is_one_of x xs ≡ true → is_one_of x ys ≡ true) → Every (OneOf ys) xs
all-there ys [] f = tt
all-there ys (x ∷ xs) f = (f x (one-first x xs), all-there ys xs (λ z h. f z (one-later z x xs h)))

have-digests : (rows : List Row) → All (λ r. IsDigest r.id) rows → HaveDigests rows
have-digests [] h = tt
have-digests (r ∷ rows) h = (All-head (λ q. IsDigest q.id) r rows h, have-digests rows (All-tail (λ q. IsDigest q.id) r rows h))

pub made_digests_differ : MadeDigestsDiffer
made_digests_differ deploy ss a h l = go (told-differ H (root deploy.rows) deploy.source a (there.0, (there.1.0, (there.1.1.0, (there.1.1.1.0, tt)))) (state-told H deploy ss a h.numberable (have-digests deploy.rows h.ids_fit) h.source_fits h.steps_fit l there))
  where
    H : List ℕ → Type 0
    H = OneOf (hashed_texts deploy l.0 ss)

    there : Every H (hashed_texts deploy l.0 ss)
    there = all-there (hashed_texts deploy l.0 ss) (hashed_texts deploy l.0 ss) (λ x e. e)

    go : (differ (built_in_digests ++ made_digests a) ≡ true) ⊎ Clash H → (differ (built_in_digests ++ made_digests a) ≡ true) ⊎ Collides deploy ss
    go (inl d) = inl d
    go (inr c) = inr (l.0, record { one = c.one; other = c.other; one_among = c.one_among; other_among = c.other_among; one_bytes = c.one_bytes; other_bytes = c.other_bytes; differ = c.differ; same_digest = c.same_digest })

one-of-append : (x : List ℕ) (ys zs : List (List ℕ)) → is_one_of x ys ≡ false → is_one_of x zs ≡ false → is_one_of x (ys ++ zs) ≡ false
one-of-append x [] zs h k = k
one-of-append x (y ∷ ys) zs h k = go (bytes_eq x y) h (one-of-append x ys zs)
  where
    go : (b : Bool) → b || is_one_of x ys ≡ false → (is_one_of x ys ≡ false → is_one_of x zs ≡ false → is_one_of x (ys ++ zs) ≡ false) → b || is_one_of x (ys ++ zs) ≡ false
    go true e next = cc
    go false e next = next e k

both-differ : (xs ys : List (List ℕ)) → differ xs ≡ true → differ ys ≡ true → Every (λ x. is_one_of x ys ≡ false) xs → differ (xs ++ ys) ≡ true
both-differ [] ys h k n = k
both-differ (x ∷ xs) ys h k n = go (is_one_of x xs) refl h (λ f. both-differ xs ys f k n.1)
  where
    go : (b : Bool) → is_one_of x xs ≡ b → not b && differ xs ≡ true → (differ xs ≡ true → differ (xs ++ ys) ≡ true) → not (is_one_of x (xs ++ ys)) && differ (xs ++ ys) ≡ true
    go true e f next = cc
    go false e f next = cc (one-of-append x xs ys e n.0, next f)

-- one of these is one of those, or none is
shared : (xs ys : List (List ℕ)) → Every (λ x. is_one_of x ys ≡ false) xs ⊎ Shares xs ys
shared [] ys = inl tt
shared (x ∷ xs) ys = go (is_one_of x ys) refl (shared xs ys)
  where
    go : (b : Bool) → is_one_of x ys ≡ b → Every (λ z. is_one_of z ys ≡ false) xs ⊎ Shares xs ys → Every (λ z. is_one_of z ys ≡ false) (x ∷ xs) ⊎ Shares (x ∷ xs) ys
    go true e r = inr (record { digest = x; among = one-first x xs; too = e })
    go false e (inl h) = inl (e, h)
    go false e (inr s) = inr (record { digest = s.digest; among = one-later s.digest x xs s.among; too = s.too })

-- the ids of the built-in receivers and what was made are fewer than with the names of their channels
names-fewer : (a : State) (x : List ℕ) → times x (built_in_ids ++ made_digests a) ≤ times x (built_in_digests ++ made_digests a)
names-fewer a x = omega (arith, times-append x built_in_ids (made_digests a), times-append x built_in_digests (made_digests a), times-append x built_in_ids built_in_names)

pub old_digests_differ : OldDigestsDiffer
old_digests_differ deploy ss a old h l d = go (made_digests_differ deploy ss a h l) (shared old now)
  where
    now : List (List ℕ)
    now = built_in_ids ++ made_digests a

    go : (differ (built_in_digests ++ made_digests a) ≡ true) ⊎ Collides deploy ss → Every (λ x. is_one_of x now ≡ false) old ⊎ Shares old now → (differ (old ++ now) ≡ true) ⊎ (Shares old now ⊎ Collides deploy ss)
    go (inr c) s = inr (inr c)
    go (inl k) (inl n) = inl (both-differ old now d (fewer-differ now (built_in_digests ++ made_digests a) (names-fewer a) k) n)
    go (inl k) (inr s) = inr (inl s)

step-more : (p : Prices) (cap room : ℕ) (a b : State) (s : Step) → step_from p cap room a s ≡ Some b → (xs : List (List ℕ)) × (made_digests b ≡ made_digests a ++ xs)
step-more p cap room a b s e =
    let i = and_then-inv (meeting a.bag a.made s) (λ m. option_map (moved a s m) (body_work p cap room s m)) b e in
    let j = map-inv (body_work p cap room s i.0) (moved a s i.0) b i.2 in
    (each digest (work_products j.0), sym (ap made_digests j.2) ∙ digests-more a.works j.0)

steps-more : (p : Prices) (cap room : ℕ) (ss : List Step) (a b : State) → steps_from p cap room a ss ≡ Some b → (xs : List (List ℕ)) × (made_digests b ≡ made_digests a ++ xs)
steps-more p cap room [] a b e = ([], let same : a ≡ b = cc e in sym (ap made_digests same) ∙ sym (append-nil (made_digests a)))
steps-more p cap room (s ∷ ss) a b e =
    let i = and_then-inv (step_from p cap room a s) (λ c. steps_from p cap room c ss) b e in
    let k = step-more p cap room a i.0 s i.1 in
    let n = steps-more p cap room ss i.0 b i.2 in
    (k.0 ++ n.0, n.1 ∙ ap (λ l. l ++ n.0) k.1 ∙ append_assoc (made_digests a) k.0 n.0)

-- what the first steps made stands before what all made
first-made : (deploy : Deploy) (ss xs ys : List Step) → ss ≡ xs ++ ys → (a b : State) → Leads deploy ss a → Leads deploy xs b
    → (zs : List (List ℕ)) × (made_digests a ≡ made_digests b ++ zs)
first-made deploy ss xs ys e a b l k =
    let r = leads-rest deploy xs ys b a k (subst (λ (z : List Step). Leads deploy z a) e l) in
    steps-more deploy.prices deploy.limit r.0 ys b a r.1

-- the ids that stood before and what was made so far are fewer than with all that was made
ids-fewer : (rows : List Row) (a b : State) (zs : List (List ℕ)) → made_digests a ≡ made_digests b ++ zs → (x : List ℕ) → times x (first_ids rows ++ made_digests b) ≤ times x (ids rows ++ (built_in_ids ++ made_digests a))
ids-fewer rows a b zs e x =
    omega (
      arith,
      times-append x (first_ids rows) (made_digests b),
      ap (times x) (ids-append rows (stdout ∷ stdout_ack ∷ [])),
      times-append x (ids rows) (ids (stdout ∷ stdout_ack ∷ [])),
      times-append x (ids rows) (built_in_ids ++ made_digests a),
      times-append x built_in_ids (made_digests a),
      ap (times x) e,
      times-append x (made_digests b) zs,
    )

pub legal_lists_are_fresh_or_show_an_id : LegalListsAreFreshOrShowAnId
legal_lists_are_fresh_or_show_an_id deploy ss h d l = go (old_digests_differ deploy ss l.0 (ids deploy.rows) h l.1 d)
  where
    now : List (List ℕ)
    now = built_in_ids ++ made_digests l.0

    fresh : differ (ids deploy.rows ++ now) ≡ true → AreFresh deploy ss
    fresh k xs ys e b m = let f = first-made deploy ss xs ys e l.0 b l.1 m in fewer-differ (first_ids deploy.rows ++ made_digests b) (ids deploy.rows ++ now) (ids-fewer deploy.rows l.0 b f.0 f.1) k

    go : (differ (ids deploy.rows ++ now) ≡ true) ⊎ (Shares (ids deploy.rows) now ⊎ Collides deploy ss) → AreFresh deploy ss ⊎ (Shares (ids deploy.rows) now ⊎ Collides deploy ss)
    go (inl k) = inl (fresh k)
    go (inr r) = inr r

built-in-fewer : (a b : State) (zs : List (List ℕ)) → made_digests a ≡ made_digests b ++ zs → (x : List ℕ) → times x (built_in_digests ++ made_digests b) ≤ times x (built_in_digests ++ made_digests a)
built-in-fewer a b zs e x = omega (arith, times-append x built_in_digests (made_digests b), times-append x built_in_digests (made_digests a), ap (times x) e, times-append x (made_digests b) zs)

pub legal_lists_are_fresh : LegalListsAreFresh
legal_lists_are_fresh p cap t source ss h l = go (made_digests_differ (deploy_of p cap [] t source) ss l.0 h l.1)
  where
    fresh : differ (built_in_digests ++ made_digests l.0) ≡ true → FreshDigests p cap t source ss
    fresh k xs ys e b m = let f = first-made (deploy_of p cap [] t source) ss xs ys e l.0 b l.1 m in fewer-differ (built_in_digests ++ made_digests b) (built_in_digests ++ made_digests l.0) (built-in-fewer l.0 b f.0 f.1) k

    go : (differ (built_in_digests ++ made_digests l.0) ≡ true) ⊎ Collides (deploy_of p cap [] t source) ss → FreshDigests p cap t source ss ⊎ Collides (deploy_of p cap [] t source) ss
    go (inl k) = inl (fresh k)
    go (inr c) = inr c
