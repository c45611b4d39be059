-- Things that are made from a root seed stand at different keys with that root.
use Rattle.std.proofs.Common.{◌≡◌, ◌≢◌, ℕ, Bool, true, false, cond, List, [], ◌∷◌, map as each, refl, sym, ap, ◌∙◌, subst}
use Rattle.std.specs.Prelude.{ltb, Some, option_map}
use Rattle.calculus.proofs.Members.{Every}
use Rattle.calculus.specs.Outcome.{Answer, gives, fails, unknown, Outcome, over, within, known, capped}
use Rattle.calculus.specs.Seeds.{Seed, message, digest_of}
use Rattle.calculus.specs.Unfolding.{Product, digest}
use Rattle.calculus.specs.Runs.{Work, work_products}
use Rattle.events.specs.HashedTexts.{work_texts}
use Rattle.events.proofs.Texts.{IsSound}
use Rattle.events.proofs.Keys.{AreHashed, Move, IsRoot, NumberFits, stands, Key, value, IsKey, AreApart}
use Rattle.events.proofs.Ways.{Along, Way, down, Traced}
use Rattle.events.proofs.Tracing.{Any, nothing-traced}

-- a way put onto moves that stand the last one first
abbrev pub onto : Way → List Move → List Move
onto [] ms = ms
onto (m ∷ w) ms = onto w (m ∷ ms)

down-stands : (r : Seed) (w : Way) (ms : List Move) → down (stands r ms) w ≡ stands r (onto w ms)
down-stands r [] ms = refl
down-stands r (m ∷ w) ms = down-stands r w (m ∷ ms)

back : (w : Way) (ms : List Move) → onto (onto w ms) [] ≡ onto ms w
back [] ms = refl
back (m ∷ w) ms = back w (m ∷ ms)

-- texts along a way that begins at the end of moves
hashed-onto : (H : List ℕ → Type 0) (r : Seed) (w : Way) (ms : List Move) → Along H (stands r ms) w → AreHashed H r ms → AreHashed H r (onto w ms)
hashed-onto H r [] ms h k = k
hashed-onto H r (m ∷ w) ms h k = hashed-onto H r w (m ∷ ms) h.1 (h.0, k)

room-onto : (w : Way) (ms : List Move) → Every NumberFits w → Every NumberFits ms → Every NumberFits (onto w ms)
room-onto [] ms h k = k
room-onto (m ∷ w) ms h k = room-onto w (m ∷ ms) h.1 (h.0, k)

-- the key at the end of a way from a root
abbrev pub key_of : Seed → Way → Key
key_of r w = record { root = r; moves = onto w [] }

one-way : (r : Seed) (v w : Way) → key_of r v ≡ key_of r w → v ≡ w
one-way r v w e = sym (back v []) ∙ ap (λ (k : Key). onto k.moves []) e ∙ back w []

keys-digests : (r : Seed) (ws : List Way) → each (down (digest_of r)) ws ≡ each value (each (key_of r) ws)
keys-digests r [] = refl
keys-digests r (w ∷ ws) = cc (down-stands r w [], keys-digests r ws)

others : (r : Seed) (v : Way) (ws : List Way) → Every (λ w. v ≢ w) ws → Every (λ k. key_of r v ≢ k) (each (key_of r) ws)
others r v [] h = tt
others r v (w ∷ ws) h = (λ e. h.0 (one-way r v w e), others r v ws h.1)

keys-apart : (r : Seed) (ws : List Way) → AreApart ws → AreApart (each (key_of r) ws)
keys-apart r [] h = tt
keys-apart r (w ∷ ws) h = (others r w ws h.0, keys-apart r ws h.1)

keys-sound : (H : List ℕ → Type 0) (r : Seed) (ws : List Way) → IsRoot r → IsSound r → H (message r) → Every (Every NumberFits) ws → Every (Along H (digest_of r)) ws → Every (IsKey H) (each (key_of r) ws)
keys-sound H r [] h k x g y = tt
keys-sound H r (w ∷ ws) h k x g y = (record { is_root = h; sound = k; rooms = room-onto w [] g.0 tt; hashed = hashed-onto H r w [] y.0 x }, keys-sound H r ws h k x g.1 y.1)

keys-rooted : (r : Seed) (ws : List Way) → Every (λ k. k.root ≡ r) (each (key_of r) ws)
keys-rooted r [] = tt
keys-rooted r (w ∷ ws) = (refl, keys-rooted r ws)

-- these things stand at different keys with this root
pub record Keyed (H : List ℕ → Type 0) (r : Seed) (xs : List Product) : Type 0 where
  pub keys : List Key
  pub digests : each digest xs ≡ each value keys
  pub apart : AreApart keys
  pub sound : Every (IsKey H) keys
  pub rooted : Every (λ k. k.root ≡ r) keys

pub traced-keyed : (H : List ℕ → Type 0) (r : Seed) (xs : List Product) → IsRoot r → IsSound r → H (message r) → Traced H Any (digest_of r) xs → Keyed H r xs
traced-keyed H r xs h k x t = record {
  keys = each (key_of r) t.ways;
  digests = t.digests ∙ keys-digests r t.ways;
  apart = keys-apart r t.ways t.apart;
  sound = keys-sound H r t.ways h k x t.rooms t.texts;
  rooted = keys-rooted r t.ways;
}

-- what work under a cap makes is traced, where what its answer gives is
pub capped-traced : (H : List ℕ → Type 0) (cap : ℕ) (o : Outcome (List Product)) (w : Work) (s : List ℕ) (xs : List (List ℕ)) → ((ts : List Product) → Every H xs → o.answer ≡ gives ts → Traced H Any s ts)
    → Every H (work_texts (capped cap o) xs) → capped cap o ≡ Some w → Traced H Any s (work_products w)
capped-traced H cap o w s xs h x e = start (ltb cap o.price) x e
  where
    ends : (a : Answer (List Product)) → o.answer ≡ a → Every H (work_texts (option_map within (known a (record { price = o.price; answer = a }))) xs) → option_map within (known a (record { price = o.price; answer = a })) ≡ Some w → Traced H Any s (work_products w)
    ends (gives ts) d y f = let same : within (record { price = o.price; answer = gives ts }) ≡ w = cc f in subst (λ v. Traced H Any s (work_products v)) same (h ts y d)
    ends (fails c) d y f = let same : within (record { price = o.price; answer = fails c }) ≡ w = cc f in subst (λ v. Traced H Any s (work_products v)) same (nothing-traced H Any s)
    ends unknown d y f = cc f

    start : (b : Bool) → Every H (work_texts (cond b (Some over) (option_map within (known o.answer o))) xs) → cond b (Some over) (option_map within (known o.answer o)) ≡ Some w → Traced H Any s (work_products w)
    start true y f = let same : over ≡ w = cc f in subst (λ v. Traced H Any s (work_products v)) same (nothing-traced H Any s)
    start false y f = ends o.answer refl y f
