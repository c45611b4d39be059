-- The states that legal lists of steps lead to are told of.
use Rattle.std.proofs.Common.{zero, ◌≡◌, ◌≢◌, ℕ, suc, ◌<◌, ◌≤◌, ◌+◌, ◌^◌, List, [], ◌∷◌, ◌++◌, length, refl, sym, ap, ◌∙◌, subst, arith, length-append}
use Rattle.std.specs.Prelude.{replicate, Some, option_map}
use Rattle.calculus.proofs.Members.{Every, every-left, every-right}
use Rattle.calculus.specs.Outcome.{Prices, gives, capped}
use Rattle.calculus.specs.Substitution.{put}
use Rattle.calculus.specs.Log.{Step}
use Rattle.calculus.specs.Rows.{Row}
use Rattle.calculus.specs.Root.{Group, groups, digest_in, root}
use Rattle.calculus.specs.Seeds.{message, Seed, Start, digest_of}
use Rattle.calculus.specs.Unfolding.{Product, unfold_in, unfold_under}
use Rattle.calculus.specs.Steps.{Meeting, meeting}
use Rattle.calculus.specs.Runs.{Deploy, Work, work_products, State, body_work, moved, step_from, steps_from, begun, first_state, Leads}
use Rattle.calculus.specs.Form.{IsBytes, IsDigest}
use Rattle.calculus.proofs.Candidates.{and_then-inv, map-inv}
use Rattle.events.specs.HashedTexts.{under_texts, texts_in, source_texts, step_seed, body_texts, steps_texts, built_in_texts, hashed_texts}
use Rattle.events.proofs.Ways.{Traced}
use Rattle.events.proofs.Tracing.{Any}
use Rattle.events.specs.Numbers.{IsNumberable}
use Rattle.events.proofs.Parts.{within-traced}
use Rattle.events.proofs.Unfolded.{unfold-traced}
use Rattle.events.proofs.Keyed.{Keyed, traced-keyed, capped-traced}
use Rattle.events.proofs.Allowed.{HaveDigests, Shown, shown}
use Rattle.events.proofs.Told.{Told, begun-told, step-sound, standing-have, moved-told}
use Rattle.calculus.proofs.Digests.{digest-fits}
use Rattle.events.proofs.Octets.{no-bytes, one-more-byte}

zeros-bytes : (n : ℕ) → IsBytes (replicate n 0)
zeros-bytes zero = no-bytes
zeros-bytes (suc n) = one-more-byte 0 (replicate n 0) (omega arith) (zeros-bytes n)

group-digest : (gs : List Group) → IsDigest (digest_in 64 gs)
group-digest [] = (refl, zeros-bytes 32)
group-digest (g ∷ []) = digest-fits _
group-digest (g ∷ h ∷ gs) = digest-fits _

root-digest : (rows : List Row) → IsDigest (root rows)
unfolding root
root-digest rows = group-digest (groups rows)

-- texts of any kind
module _ (H : List ℕ → Type 0) where
  -- what a step's body makes stands at different keys under the step's seed
  body-keyed : (p : Prices) (cap room : ℕ) (made : List Step) (s : Step) (m : Meeting) (w : Work) → Shown made s → length made < 2 ^ 32
      → H (message (step_seed s)) → Every H (body_texts p cap room s (Some m)) → body_work p cap room s m ≡ Some w → Keyed H (step_seed s) (work_products w)
  body-keyed p cap room made s m w h l x y e =
      let d : List ℕ = digest_of (step_seed s) in
      let own : List (List ℕ) = under_texts (texts_in p room) d m.bindings m.receiver.body in
      let made_gives : (xs : List Product) → Every H own → (unfold_under (unfold_in p room) d m.bindings m.receiver.body).answer ≡ gives xs → Traced H Any d xs =
      λ xs z f. within-traced H (unfold_in p room) (texts_in p room) (unfold-traced H p room) d (put m.bindings m.receiver.body) xs z f in
      traced-keyed H (step_seed s) (work_products w) tt (step-sound made s h l) x (capped-traced H cap (unfold_under (unfold_in p room) d m.bindings m.receiver.body) w d own made_gives y e)

  step-told : (p : Prices) (cap room : ℕ) (first : Seed) → ((u : Step) → first ≢ step_seed u) → (a b : State) (s : Step) → Told H first a → length a.made < 2 ^ 32
      → H (message (step_seed s)) → Every H (body_texts p cap room s (meeting a.bag a.made s)) → step_from p cap room a s ≡ Some b → Told H first b × (length b.made ≡ suc (length a.made))
  step-told p cap room first differs a b s h l x y e =
      let i = and_then-inv (meeting a.bag a.made s) (λ m. option_map (moved a s m) (body_work p cap room s m)) b e in
      let j = map-inv (body_work p cap room s i.0) (moved a s i.0) b i.2 in
      let g : Shown a.made s = shown a.bag a.made s i.0 (standing-have a.bag h.ids) i.1 in
      let z : Every H (body_texts p cap room s (Some i.0)) = subst (λ o. Every H (body_texts p cap room s o)) i.1 y in
      let k : Told H first (moved a s i.0 j.0) = moved-told H first differs a s i.0 j.0 h g (body-keyed p cap room a.made s i.0 j.0 g l x z j.1) in
      let long : length (a.made ++ s ∷ []) ≡ suc (length a.made) = omega (arith, length-append a.made (s ∷ [])) in
      (subst (Told H first) j.2 k, sym (ap (λ (c : State). length c.made) j.2) ∙ long)

  steps-told : (p : Prices) (cap room : ℕ) (first : Seed) → ((u : Step) → first ≢ step_seed u) → (ss : List Step) (a b : State) → Told H first a → length a.made + length ss ≤ 2 ^ 32
      → Every H (steps_texts p cap room (Some a) ss) → steps_from p cap room a ss ≡ Some b → Told H first b
  steps-told p cap room first differs [] a b h l x e = let same : a ≡ b = cc e in subst (Told H first) same h
  steps-told p cap room first differs (s ∷ ss) a b h l x e =
      let i = and_then-inv (step_from p cap room a s) (λ c. steps_from p cap room c ss) b e in
      let own = body_texts p cap room s (meeting a.bag a.made s) in
      let later = steps_texts p cap room (step_from p cap room a s) ss in
      let k = step-told p cap room first differs a i.0 s h (omega (arith, l)) x.0 (every-left H own later x.1) i.1 in
      let y : Every H (steps_texts p cap room (Some i.0) ss) = subst (λ o. Every H (steps_texts p cap room o ss)) i.1 (every-right H own later x.1) in
      steps-told p cap room first differs ss i.0 b k.0 (omega (arith, l, k.1)) y i.2

  start-differs : (base source : List ℕ) (u : Step) → Start base source ≢ step_seed u
  start-differs base source u = λ e. cc e

  -- of each state that a legal list of steps leads to
  pub state-told : (deploy : Deploy) (ss : List Step) (a : State)
      → IsNumberable deploy.process → HaveDigests deploy.rows → IsBytes deploy.source → length ss ≤ 2 ^ 32 → (d : Leads deploy ss a) → Every H (hashed_texts deploy d.0 ss) → Told H (Start (root deploy.rows) deploy.source) a
  state-told deploy ss a n h bs l d x =
      let r : Seed = Start (root deploy.rows) deploy.source in
      let i = and_then-inv (first_state deploy d.0) (λ b. steps_from deploy.prices deploy.limit d.0 b ss) a d.1 in
      let j = map-inv (capped deploy.limit (unfold_in deploy.prices d.0 deploy.process (digest_of r))) (begun deploy.rows) i.0 i.1 in
      let own = source_texts deploy.prices deploy.limit d.0 deploy.process (digest_of r) in
      let later = steps_texts deploy.prices deploy.limit d.0 (first_state deploy d.0) ss in
      let y : Every H (message r ∷ (own ++ later)) = every-right H built_in_texts (message r ∷ (own ++ later)) x in
      let z : Every H (steps_texts deploy.prices deploy.limit d.0 (Some i.0) ss) = subst (λ o. Every H (steps_texts deploy.prices deploy.limit d.0 o ss)) i.1 (every-right H own later y.1) in
      let traced : Traced H Any (digest_of r) (work_products j.0) =
      capped-traced H deploy.limit (unfold_in deploy.prices d.0 deploy.process (digest_of r)) j.0 (digest_of r) (texts_in deploy.prices d.0 deploy.process (digest_of r)) (λ xs g f. unfold-traced H deploy.prices d.0 deploy.process (digest_of r) xs n g f) (every-left H own later y.1) j.1 in
      let k : Told H r (begun deploy.rows j.0) = begun-told H r deploy.rows j.0 h (traced-keyed H r (work_products j.0) tt (root-digest deploy.rows, bs) y.0 traced) in
      let none : length i.0.made ≡ 0 = sym (ap (λ (c : State). length c.made) j.2) in
      steps-told deploy.prices deploy.limit d.0 r (start-differs (root deploy.rows) deploy.source) ss i.0 a (subst (Told H r) j.2 k) (omega (arith, l, none)) z i.2
