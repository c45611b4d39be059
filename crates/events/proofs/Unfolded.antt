-- What a numberable process makes is traced.
use Rattle.std.proofs.Common.{◌≡◌, ◌≢◌, ℕ, zero, suc, ◌<◌, ◌≤◌, ◌+◌, ◌%◌, ◌^◌, List, [], ◌∷◌, ◌++◌, length, map as each, refl, sym, ap, ◌∙◌, subst, arith, inl, inr}
use Rattle.calculus.proofs.Members.{Every, every-up, every-left, every-right}
use Rattle.calculus.specs.Tree.{list, tuple, set, dict, send, receive, new, match, bundle, unary, binary, method, Tree, node}
use Rattle.calculus.specs.Shape.{listed}
use Rattle.calculus.specs.Code.{code, codes}
use Rattle.calculus.specs.Normal.{ascending}
use Rattle.calculus.specs.Outcome.{Prices, gives, pure, after}
use Rattle.calculus.specs.Seeds.{message, digest_of, Split}
use Rattle.calculus.specs.Unfolding.{Product, Unfolder, unfold_part, parts_unfolded, unfold_in}
use Rattle.sha2.specs.Sha256.{sha256}
use Rattle.calculus.specs.Order.{sorted}
use Rattle.events.specs.HashedTexts.{TextLister, texts_of_part, parts_texts, texts_in}
use Rattle.events.proofs.Texts.{be32-rest}
use Rattle.events.proofs.Keys.{Move, split, body as down_body, fresh, under}
use Rattle.events.proofs.Ways.{Way, Traced, Begins}
use Rattle.events.proofs.Tracing.{Any, nothing-traced, move-traced, append-traced}
use Rattle.events.specs.Numbers.{full_codes, IsNumberable}
use Rattle.events.proofs.Ordered.{numberable-every}
use Rattle.events.proofs.Ordered.{EmptiesFirst, all-count, full_codes-sorted, sorted-first, codes-ascending, every-ascending, codes-listed}
use Rattle.events.proofs.Answers.{after-inv}
use Rattle.events.proofs.Parts.{Traces, part-traced}

-- a move to a part of number i or more, among 2^32 parts from number b on: its number stands modulo 2^32
abbrev Later : ℕ → ℕ → Move → Type 0
Later b i (split k) = (j : ℕ) × (i ≤ j) × (j < b + 2 ^ 32) × (k ≡ j % 2 ^ 32)
Later b i down_body = ⊥
Later b i (fresh k) = ⊥

-- the move to part number i
abbrev This : ℕ → Move → Type 0
This i m = m ≡ split (i % 2 ^ 32)

-- numbers of the same part are one modulo 2^32, and those of others are not
far : (b i j k : ℕ) → b ≤ i → suc i ≤ j → j < b + 2 ^ 32 → k ≡ j % 2 ^ 32 → i % 2 ^ 32 ≡ k → ⊥
far b i j k h f g e d = omega arith

apart-from-later : (b i : ℕ) → b ≤ i → (v w : Way) → Begins (This i) v → Begins (Later b (suc i)) w → v ≢ w
apart-from-later b i h [] w f g = absurd f
apart-from-later b i h (m ∷ v) [] f g = absurd g
apart-from-later b i h (m ∷ v) (split k ∷ w) f g =
    λ e. let one : m ≡ split k = cc in
    let same : i % 2 ^ 32 ≡ k = cc (f, one) in
    far b i g.0 k h g.1 g.2 g.3 same
apart-from-later b i h (m ∷ v) (down_body ∷ w) f g = absurd g
apart-from-later b i h (m ∷ v) (fresh k ∷ w) f g = absurd g

this-later : (b i : ℕ) → b ≤ i → i < b + 2 ^ 32 → (w : Way) → Begins (This i) w → Begins (Later b i) w
this-later b i h g [] f = absurd f
this-later b i h g (m ∷ w) f = subst (Later b i) (sym f) (i, omega arith, g, refl)

later-later : (b i : ℕ) (w : Way) → Begins (Later b (suc i)) w → Begins (Later b i) w
later-later b i [] f = absurd f
later-later b i (split k ∷ w) f = let g : suc i ≤ f.0 = f.1 in (f.0, omega arith, f.2, f.3)
later-later b i (down_body ∷ w) f = absurd f
later-later b i (fresh k ∷ w) f = absurd f

-- a part's text, by its number modulo 2^32
part-text : (s : List ℕ) (i : ℕ) → message (Split s i) ≡ message (under (split (i % 2 ^ 32)) s)
part-text s i = ap (λ (n : List ℕ). 0x03 ∷ (s ++ n)) (sym (be32-rest i))

part-digest : (s : List ℕ) (i : ℕ) → digest_of (Split s i) ≡ digest_of (under (split (i % 2 ^ 32)) s)
part-digest s i = ap (λ (n : List ℕ). sha256 (0x03 ∷ (s ++ n))) (sym (be32-rest i))

small : (i : ℕ) → i % 2 ^ 32 < 2 ^ 32
small i = omega arith

-- a part with an empty code makes nothing
empty-part : (p : Prices) (f : Unfolder) (s : List ℕ) (t : Tree) (xs : List Product) → code t ≡ [] → (unfold_part p f s t).answer ≡ gives xs → [] ≡ xs
empty-part p f s (node (send q) ts) xs c e = cc
empty-part p f s (node (receive k) ts) xs c e = cc
empty-part p f s (node (new os) ts) xs c e = cc
empty-part p f s (node match ts) xs c e = cc
empty-part p f s (node (bundle r) ts) xs c e = cc
empty-part p f s (node (unary o) ts) xs c e = cc
empty-part p f s (node (binary o) ts) xs c e = cc
empty-part p f s (node (method m) ts) xs c e = cc
empty-part p f s (node list ts) xs c e = cc
empty-part p f s (node tuple ts) xs c e = cc
empty-part p f s (node set ts) xs c e = cc
empty-part p f s (node dict ts) xs c e = cc
empty-part p f s (node l ts) xs c e = cc

length-each : (ts : List Tree) → length (each code ts) ≡ length ts
length-each [] = refl
length-each (t ∷ ts) = ap suc (length-each ts)

-- texts of any kind
module _ (H : List ℕ → Type 0) where
  unfold_part-traced : (p : Prices) (f : Unfolder) (g : TextLister) → Traces H f g → (s : List ℕ) (t : Tree) (xs : List Product) → IsNumberable t → Every H (texts_of_part p g s t) → (unfold_part p f s t).answer ≡ gives xs → Traced H Any s xs
  unfold_part-traced p f g h s (node l ts) xs n x e = part-traced H p f g h s l ts xs n x e

  -- parts of which no more than 2^32 are numbered from b on
  parts-traced : (p : Prices) (f : Unfolder) (g : TextLister) → Traces H f g → (s : List ℕ) (b i : ℕ) (ts : List Tree) (xs : List Product) → b ≤ i → i + length ts ≤ b + 2 ^ 32 → Every IsNumberable ts → Every H (parts_texts p g s i ts)
      → (parts_unfolded p f s i ts).answer ≡ gives xs → Traced H (Begins (Later b i)) s xs
  parts-traced p f g h s b i [] xs low high n x e = let same : [] ≡ xs = cc in subst (Traced H (Begins (Later b i)) s) same (nothing-traced H (Begins (Later b i)) s)
  parts-traced p f g h s b i (t ∷ ts) xs low high n x e =
      let d : List ℕ = digest_of (Split s i) in
      let a = after-inv (unfold_part p f d t) (λ rs. after (parts_unfolded p f s (suc i) ts) (λ qs. pure (rs ++ qs))) xs e in
      let c = after-inv (parts_unfolded p f s (suc i) ts) (λ qs. pure (a.0 ++ qs)) xs a.2 in
      let same : a.0 ++ c.0 ≡ xs = cc c.2 in
      let here : Traced H Any (digest_of (under (split (i % 2 ^ 32)) s)) a.0 = subst (λ (z : List ℕ). Traced H Any z a.0) (part-digest s i) (unfold_part-traced p f g h d t a.0 n.0 (every-left H (texts_of_part p g d t) _ x.1) a.1) in
      let first : Traced H (Begins (This i)) s a.0 = move-traced H Any (Begins (This i)) (split (i % 2 ^ 32)) s a.0 (small i) (λ w k. refl) (subst H (part-text s i) x.0) here in
      let rest : Traced H (Begins (Later b (suc i))) s c.0 = parts-traced p f g h s b (suc i) ts c.0 (omega (arith, low)) (omega (arith, high)) n.1 (every-right H (texts_of_part p g d t) _ x.1) c.1 in
      subst (Traced H (Begins (Later b i)) s) same
      (append-traced H (Begins (This i)) (Begins (Later b (suc i))) (Begins (Later b i)) s a.0 c.0 (apart-from-later b i low) (this-later b i low (omega (arith, high))) (later-later b i) first rest)

  forget : (P : Way → Type 0) (s : List ℕ) (xs : List Product) → Traced H P s xs → Traced H Any s xs
  forget P s xs r = record { ways = r.ways; digests = r.digests; apart = r.apart; rooms = r.rooms; all = every-up P Any (λ w h. tt) r.ways r.all; texts = r.texts }

  -- parts of which those with an empty code stand first, and no more than 2^32 have another
  ordered-traced : (p : Prices) (f : Unfolder) (g : TextLister) → Traces H f g → (s : List ℕ) (i : ℕ) (ts : List Tree) (xs : List Product) → EmptiesFirst (each code ts) → full_codes (each code ts) ≤ 2 ^ 32 → Every IsNumberable ts → Every H (parts_texts p g s i ts)
      → (parts_unfolded p f s i ts).answer ≡ gives xs → Traced H Any s xs
  ordered-traced p f g h s i [] xs o few n x e = let same : [] ≡ xs = cc in subst (Traced H Any s) same (nothing-traced H Any s)
  ordered-traced p f g h s i (t ∷ ts) xs o few n x e = go (λ k us. ordered-traced p f g h s (suc i) ts us k (omega (arith, few)) n.1 (every-right H (texts_of_part p g (digest_of (Split s i)) t) _ x.1)) o
    where
      go : (EmptiesFirst (each code ts) → (us : List Product) → (parts_unfolded p f s (suc i) ts).answer ≡ gives us → Traced H Any s us) → EmptiesFirst (each code (t ∷ ts)) → Traced H Any s xs
      go next (inl q) =
          let d : List ℕ = digest_of (Split s i) in
          let a = after-inv (unfold_part p f d t) (λ rs. after (parts_unfolded p f s (suc i) ts) (λ qs. pure (rs ++ qs))) xs e in
          let c = after-inv (parts_unfolded p f s (suc i) ts) (λ qs. pure (a.0 ++ qs)) xs a.2 in
          let none : [] ≡ a.0 = empty-part p f d t a.0 q.0 a.1 in
          let same : c.0 ≡ xs = ap (λ l. l ++ c.0) none ∙ cc c.2 in
          subst (Traced H Any s) same (next q.1 c.0 c.1)
      go next (inr q) =
          let many : length (t ∷ ts) ≤ 2 ^ 32 = omega (arith, all-count (each code (t ∷ ts)) q, few, length-each ts) in
          forget (Begins (Later i i)) s xs (parts-traced p f g h s i i (t ∷ ts) xs (omega arith) (omega (arith, many)) n x e)

  pub unfold-traced : (p : Prices) (room : ℕ) → Traces H (unfold_in p room) (texts_in p room)
  unfolding unfold_in texts_in
  unfold-traced p zero t s xs n x e = cc
  unfold-traced p (suc room) (node l ts) s xs n x e =
      let cs : each code (ascending (listed ts)) ≡ sorted (codes ts) = codes-ascending (listed ts) ∙ ap sorted (codes-listed ts) in
      let few : full_codes (each code (ascending (listed ts))) ≤ 2 ^ 32 = omega (arith, ap full_codes cs, full_codes-sorted (codes ts), n.0) in
      ordered-traced p (unfold_in p room) (texts_in p room) (unfold-traced p room) s 0 (ascending (listed ts)) xs (subst EmptiesFirst (sym cs) (sorted-first (codes ts))) few (every-ascending IsNumberable (listed ts) (numberable-every ts n.2)) x e
