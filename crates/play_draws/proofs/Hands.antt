-- What a worker shows of its entry, and what it makes of the shards in hand.
use Rattle.std.proofs.Common.{◌≡◌, ◌<◌, ◌≤◌, ℕ, Bool, true, false, nat_lt, List, [], ◌∷◌, ◌++◌, length, ◌*◌, map as each, refl, sym, ap, subst, ◌∙◌, arith, inl, Option, Some, None}
use Rattle.std.proofs.lemmas.Bool.Decides.{nat_tests}
use Rattle.std.specs.Prelude.{IsPermutation}
use Rattle.calculus.specs.Rows.{Row}
use Rattle.calculus.specs.Runs.{Deploy, Work}
use Rattle.events.specs.Found.{without}
use Rattle.hub_rule.specs.Counts.{count, things_of}
use Rattle.hub_rule.specs.Meaning.{Passes, AllFollow}
use Rattle.hub_rule.specs.Rule.{Carries}
use Rattle.found_rows.specs.declared.found.Found.{Found}
use Rattle.found_rows.specs.AtHand.{MeetsAtHand}
use Rattle.events.specs.Entries.{Making, price_in, steps_in, steps_of}
use Rattle.events.specs.Allowed.{IdsTell, rows_at_hand, MeetsNothing}
use Rattle.shard_tables.specs.Hands.{AreInHand, AreMade, GainsRow, LosesRows}
use Rattle.hub_scenes.specs.Plays.{entries_of, most_price, IsPriced}
use Rattle.hub_scenes.specs.PlayScene.{IsShownHere, MayBecome}
use Rattle.play_hub.specs.declared.entry.PlayEntry.{PlayEntry}
use Rattle.play_hub.specs.Values.{making_of, entry_of, has_bit, hub_meaning}
use Rattle.play_hub.specs.Endings.{play_of}
use Rattle.play_hub.specs.Drawing.{ShowsEntry, IsChangedBy}
use Rattle.play_hub.proofs.Bits.{is-set, set-is}
use Rattle.play_hub.proofs.Drawing.{draws_are_told, draws_carry, hands-are, held-is}
use Rattle.play_draws.specs.declared.making.Ready.{Ready}
use Rattle.play_draws.specs.Making.{IsReady}
use Rattle.play_draws.specs.Turns.{HoldsGroup}
use Rattle.play_draws.proofs.Showing.{shows-step}

-- a stored operation comes to the shards that it stands in
pub gained : (o : Row) (k : ℕ) (xs ys : List Row) → GainsRow o k xs ys → MayBecome k o None xs ys
gained o k xs ys h = h

-- the rows with the ids that leave are gone
pub lost : (o : Row) (a : Making) (gone : List (List ℕ)) → gone ≡ a.gone → (k : ℕ) (xs ys : List Row) → LosesRows gone k xs ys → MayBecome k o (Some a) xs ys
lost o a gone e k xs ys h both differs = subst (λ g. IsPermutation (without g xs) ys) e (h differs)

module _ {X : Type 0} (rows : X → List Row) (deploy : Deploy) (source : Work) (e : PlayEntry) (held : List (ℕ × X)) (in_hand : ℕ → Option X) (g : HoldsGroup rows deploy source e.operation.value e.touched held in_hand) where
  -- the turns of all shards that the entry touches are held
  pub within : (k : ℕ) → has_bit e.touched k ≡ true → 0 < count k held
  within k b = omega (arith, g.turns k, is-set e.touched k b)

  -- the entry touches each shard in hand
  bit-of : (k : ℕ) (x : X) → in_hand k ≡ Some x → has_bit e.touched k ≡ true
  bit-of k x i = set-is e.touched k (below-64 (nat_lt k 64) refl) (λ z. clash (sym (g.carries.1 k (g.turns k ∙ z)) ∙ i))
    where
      clash : None ≡ Some x → ⊥
      clash f = cc f

      some : 0 < count k held
      some = go (count k held) (λ z. clash (sym (g.carries.1 k z) ∙ i))
        where
          go : (n : ℕ) → (n ≡ 0 → ⊥) → 0 < n
          go n h = omega (arith, h)

      below-64 : (b : Bool) → nat_lt k 64 ≡ b → k < 64
      below-64 true d = grind (arith, nat_tests)
      below-64 false d = let above : 64 ≤ k = grind (arith, nat_tests) in absurd (omega (arith, some, g.low k above))

  -- what the worker shows
  pub shows-entry : (all : List Row) → AreInHand rows in_hand all → (took : List PlayEntry)
      → (IdsTell (rows_at_hand all e.operation.value) → IsShownHere deploy all (steps_of (entries_of (play_of took))) e.operation.value (entry_of e).entry.making)
      → IsPriced deploy (entry_of e) → ShowsEntry rows in_hand deploy all took e
  shows-entry all are took shown priced = record {
    are = are;
    held = λ k s. held-is rows deploy source in_hand [] held g.carries k (within k (g.shown all are k s));
    touches = λ k s. g.shown all are k s;
    shown = shown;
    priced = priced;
  }

  -- what it made of the shards in hand
  pub changed : (says : ℕ → List Row → List Row → Type 0) (new : ℕ → Option X) → AreMade rows says in_hand new
      → ((k : ℕ) (xs ys : List Row) → says k xs ys → MayBecome k e.operation.value (entry_of e).entry.making xs ys) → IsChangedBy rows deploy source e in_hand new
  changed says new a to = record {
    here = λ k x i. (
        let y = a.here k x i in
        (y.0, y.1, subst (λ (b : Bool). Passes (hub_meaning deploy source rows) b e k x y.0) (sym (bit-of k x i)) (to k (rows x) (rows y.0) y.2))
        );
    absent = a.absent;
  }

  -- so it is what a draw asks for
  pub told : (since took : List PlayEntry) (all : List Row) → since ≡ [] → ShowsEntry rows in_hand deploy all took e
      → (before : List (ℕ × X)) × AllFollow (hub_meaning deploy source rows) since held before × (hub_meaning deploy source rows).tells before took e
  told since took all z s = subst (λ l. (before : List (ℕ × X)) × AllFollow (hub_meaning deploy source rows) l held before × (hub_meaning deploy source rows).tells before took e) (sym z)
      (draws_are_told rows deploy source in_hand [] held all took e g.carries s)

  pub carried-on : (since : List PlayEntry) (new : ℕ → Option X) → since ≡ [] → IsChangedBy rows deploy source e in_hand new → Carries (hub_meaning deploy source rows) (since ++ e ∷ []) held new
  carried-on since new z c = subst (λ l. Carries (hub_meaning deploy source rows) (l ++ e ∷ []) held new) (sym z) (draws_carry rows deploy source in_hand new [] held e g.carries c)

  -- what a draw asks for
  abbrev pub Told : List PlayEntry → List PlayEntry → Type 0
  Told since took = (before : List (ℕ × X)) × AllFollow (hub_meaning deploy source rows) since held before × (hub_meaning deploy source rows).tells before took e

  -- of an operation that is stored
  module _ (none : (entry_of e).entry.making ≡ None) where
    free : IsPriced deploy (entry_of e)
    free = record {
      cheap = subst (λ x. price_in x ≤ most_price) (sym none) (omega arith);
      dear = subst (λ x. deploy.prices.comm * length (steps_in x) ≤ price_in x) (sym none) (omega arith);
    }

    pub stored-told : (since took : List PlayEntry) → since ≡ [] → ((all : List Row) → AreInHand rows in_hand all → IdsTell (rows_at_hand all e.operation.value) → MeetsNothing all e.operation.value) → Told since took
    stored-told since took z lonely =
        let h = hands-are rows deploy source in_hand [] held g.carries in
        told since took h.0 z
        (shows-entry h.0 h.1 took (λ ids. subst (λ x. IsShownHere deploy h.0 (steps_of (entries_of (play_of took))) e.operation.value x) (sym none) (inl (lonely h.0 h.1 ids))) free)

    pub stored-carried : (since : List PlayEntry) (new : ℕ → Option X) → since ≡ [] → AreMade rows (GainsRow e.operation.value) in_hand new → Carries (hub_meaning deploy source rows) (since ++ e ∷ []) held new
    stored-carried since new z a = carried-on since new z
        (changed (GainsRow e.operation.value) new a (λ k xs ys h. subst (λ x. MayBecome k e.operation.value x xs ys) (sym none) (gained e.operation.value k xs ys h)))

  -- of a step
  module _ (r : Ready) (f : Found) (took : List (ℕ × PlayEntry)) (i : IsReady deploy.prices deploy.limit f took r) (made : (entry_of e).entry.making ≡ Some (making_of r.made)) where
    paid : IsPriced deploy (entry_of e)
    paid = record {
      cheap = subst (λ x. price_in x ≤ most_price) (sym made) i.cheap;
      dear = subst (λ x. deploy.prices.comm * length (steps_in x) ≤ price_in x) (sym made) (omega (arith, i.price));
    }

    pub ready-told : (since mine : List PlayEntry) → since ≡ [] → things_of took ≡ mine → ((all : List Row) → AreInHand rows in_hand all → MeetsAtHand all e.operation.value f) → Told since mine
    ready-told since mine z same meets =
        let h = hands-are rows deploy source in_hand [] held g.carries in
        told since mine h.0 z
        (shows-entry h.0 h.1 mine
        (λ ids. subst (λ x. IsShownHere deploy h.0 (steps_of (entries_of (play_of mine))) e.operation.value x) (sym made)
        (subst (λ l. IsShownHere deploy h.0 (steps_of (entries_of (play_of l))) e.operation.value (Some (making_of r.made))) same (shows-step deploy h.0 e.operation.value f (meets h.0 h.1) took r i))) paid)

    pub ready-carried : (since : List PlayEntry) (new : ℕ → Option X) → since ≡ [] → AreMade rows (LosesRows (each (λ d. d.0) r.gone.items)) in_hand new → Carries (hub_meaning deploy source rows) (since ++ e ∷ []) held new
    ready-carried since new z a = carried-on since new z
        (changed (LosesRows (each (λ d. d.0) r.gone.items)) new a
        (λ k xs ys h. subst (λ x. MayBecome k e.operation.value x xs ys) (sym made)
        (lost e.operation.value (making_of r.made) (each (λ d. d.0) r.gone.items) (ap (λ v. each (λ d. d.0) v.items) (i.gone ∙ sym i.seen)) k xs ys h)))
