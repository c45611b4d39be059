-- The rows of a play that is done: each may be stored, has a channel, and has an id of its own.
use Rattle.std.proofs.Common.{◌≡◌, ◌≢◌, ◌≤◌, ℕ, zero, suc, true, List, [], ◌∷◌, ◌++◌, length, map as each, ap, arith, inl, inr, Some, All}
use Rattle.std.specs.Prelude.{slice_get}
use Rattle.std.proofs.lemmas.List.Elements.{All-head, All-tail}
use Rattle.calculus.proofs.Members.{Member, Every, every-at, member-left}
use Rattle.calculus.proofs.Permutations.{moved_so}
use Rattle.calculus.specs.Tree.{send, receive, Tree, node}
use Rattle.calculus.specs.Shape.{listed, at, held}
use Rattle.calculus.specs.Form.{part, Fits, IsClosed}
use Rattle.calculus.specs.Rows.{Row, channels, stdout, stdout_ack}
use Rattle.calculus.specs.Storing.{is_active, IsStorable}
use Rattle.calculus.specs.Steps.{differ, stored_rows}
use Rattle.calculus.specs.Runs.{Deploy, Work}
use Rattle.events.specs.Found.{Among}
use Rattle.events.proofs.Counts.{ids, AreDistinct, distinct-differ}
use Rattle.events.proofs.EventFollowing.{store-distinct}
use Rattle.events.proofs.Orders.{member-moved}
use Rattle.events.proofs.EventStanding.{ids-times}
use Rattle.events.specs.Entries.{Space}
use Rattle.events.specs.Allowed.{ComesTo, core_of}
use Rattle.events.proofs.EntryHolding.{Held, held as held-after}
use Rattle.process_laws.proofs.StorableStaying.{storable_rows_stay}
use Rattle.hub_scenes.specs.Plays.{TouchingEntry, entries_of, space_after_all}
use Rattle.hub_scenes.proofs.Drawing.{plays_are_allowed}
use Rattle.play_outcome.specs.Runs.{EndedPlay}

-- a list of as many is not empty either
some-each : {A B : Type 0} (f : A → B) (xs : List A) → 1 ≤ length xs → each f xs ≡ [] → ⊥
some-each f [] h e = absurd (omega (arith, h))
some-each f (x ∷ xs) h e = cc e

-- a row that may be stored has a channel
pub has-channel : (r : Row) → IsStorable r → channels r.part ≢ []
has-channel r s = go r.part s.active s.closed.1.0
  where
    go : (t : Tree) → is_active t ≡ true → Fits part [] t → channels t ≢ []
    go (node (send q) ts) a f e = cc e
    go (node (receive k) ts) a f e = some-each (λ b. at 0 (held b)) (held (at 0 (listed ts))) f.0.0 e
    go (node _ ts) a f e = cc a

every-from : {A : Type 0} (P : A → Type 0) (xs : List A) → All P xs → Every P xs
every-from P [] h = tt
every-from P (x ∷ xs) h = (All-head P x xs h, every-from P xs (All-tail P x xs h))

member-of : (r : Row) (rs : List Row) → Among r rs → Member r rs
member-of r [] m = m
member-of r (q ∷ rs) (inl e) = inl e
member-of r (q ∷ rs) (inr m) = inr (member-of r rs m)

-- what stands at a place of a list stands there of what is made of each
pub each-at : {A B : Type 0} (f : A → B) (xs : List A) (k : ℕ) (x : A) → slice_get xs k ≡ Some x → slice_get (each f xs) k ≡ Some (f x)
each-at f [] k x g = cc g
each-at f (y ∷ xs) zero x g = let q : y ≡ x = cc g in ap (λ z. Some (f z)) q
each-at f (y ∷ xs) (suc k) x g = each-at f xs k x g

module _ (deploy : Deploy) (source : Work) (es : List TouchingEntry) (closed : List (List Row)) (x : EndedPlay deploy source es closed) where
  abbrev space : Space
  space = space_after_all deploy source es

  abbrev comes : ComesTo deploy source (entries_of es) (space_after_all deploy source es)
  comes = x.plays.comes

  holds : Held deploy source (entries_of es) space
  holds = held-after deploy source (entries_of es) space (plays_are_allowed deploy source es x.drawn) comes.fresh

  -- no two of the stored rows have one id
  pub ids-differ : differ (ids space.store) ≡ true
  ids-differ =
      let d : AreDistinct (ids (space.store ++ (stdout ∷ stdout_ack ∷ []))) = store-distinct deploy (core_of space (source ∷ holds.bodies)) holds.kept comes.fresh in
      distinct-differ (ids space.store) (λ y. omega (arith, d y, ids-times y space.store (stdout ∷ stdout_ack ∷ [])))

  module _ (closed-process : IsClosed deploy.process) (storable : All IsStorable deploy.rows) where
    all-storable : Every IsStorable (stored_rows comes.state.bag)
    all-storable = every-from IsStorable (stored_rows comes.state.bag) (storable_rows_stay deploy storable closed-process _ comes.state comes.leads)

    -- each stored row has a channel
    pub have-channels : (r : Row) → Among r space.store → channels r.part ≢ []
    have-channels r m =
        has-channel r (every-at IsStorable (stored_rows comes.state.bag) r all-storable (member-moved r (moved_so comes.rows) (member-left r space.store space.pending (member-of r space.store m))))
