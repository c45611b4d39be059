-- Rust values of a replay, as entries, jobs and shards of its scene.
use Rattle.std.specs.Prelude.{◌≡◌, ◌<◌, ℕ, Bool, ◌&&◌, eqb, nat_lt, List, [], ◌∷◌, ◌++◌, map, refl, Option, Some, None}
use Rattle.std.specs.Int.{bit_at}
use Rattle.std.specs.declared.alloc.Global.{Global}
use Rattle.std.specs.declared.boxed.Box.{Box}
use Rattle.std.specs.declared.vec.Vec.{Vec}
use Rattle.std.proofs.Common.{ap, ◌∙◌}
use Rattle.calculus.specs.declared.ids.Digest.{Digest}
use Rattle.calculus.specs.Tree.{Tree}
use Rattle.calculus.specs.Log.{Step}
use Rattle.calculus.specs.Rows.{Row}
use Rattle.calculus.specs.Runs.{Deploy}
use Rattle.event_log.specs.View.{step_of}
use Rattle.hub_rule.specs.Counts.{count, Each}
use Rattle.hub_rule.specs.Meaning.{Meaning, Lawful}
use Rattle.events.specs.Entries.{Making}
use Rattle.hub_scenes.specs.Spaces.{NewRow, IndexTry, Job, arrive, try_index, Part, Space, new_row}
use Rattle.hub_scenes.specs.Entries.{Deed, arrives, does, idles, Entry as AnEntry, job_of as its_job, offers_of as its_offers}
use Rattle.hub_scenes.specs.Showing.{IsIdle}
use Rattle.hub_scenes.specs.ReplayScene.{replay}
use Rattle.hub_scenes.specs.ReplayPulled.{seen_at, pulled, Agrees}
use Rattle.hub_scenes.proofs.Lawful.{lawful}
use Rattle.hub_scenes.proofs.ReplayPulled.{lawful-seen}
use Rattle.replay_hub.specs.declared.deed.Coming.{Coming}
use Rattle.replay_hub.specs.declared.deed.Try.{Try}
use Rattle.replay_hub.specs.declared.deed.Task.{Task}
use Rattle.replay_hub.specs.declared.deed.Task.TheVariants.{Arrive, Index}
use Rattle.replay_hub.specs.declared.deed.Made.{Made}
use Rattle.replay_hub.specs.declared.deed.Did.{Did}
use Rattle.replay_hub.specs.declared.deed.Did.TheVariants.{Arrived, Done, Idle}
use Rattle.replay_hub.specs.declared.deed.Entry.{Entry}

-- whether a bit is set, of the low 64
abbrev pub has_bit : ℕ → ℕ → Bool
has_bit n k = nat_lt k 64 && eqb (bit_at n k) 1

-- the bytes of a line, where none is kept of an empty one
abbrev pub line_items : Option (Box (Vec ℕ Global) Global) → List ℕ
line_items None = []
line_items (Some b) = b.value.items

-- the try of a step that is done
abbrev pub tried_of : {R C : Type 0} → Made R C → Try C
tried_of m = record { step = m.step; channel = m.channel.value }

-- the job that an entry takes
abbrev pub takes_of : {R C : Type 0} → Did R C → Task R C
takes_of (Arrived a) = Arrive a.coming.value
takes_of (Done m) = Index (tried_of m)
takes_of (Idle t) = Index t.value

-- the jobs that an entry offers
abbrev pub offers_of : {R C : Type 0} → Did R C → List (Task R C)
offers_of (Arrived a) = map (λ t. Index t) a.next.value.items
offers_of (Done m) = map (λ r. Arrive (record { row = r; from = Some m.step })) m.offers.value.items ++ map (λ t. Index t) m.next.value.items
offers_of (Idle t) = []

module _ {R C : Type 0} (row : R → Row) (channel : C → Tree) where
  -- a row that is to arrive
  abbrev pub new_row_of : Coming R → NewRow
  new_row_of a = record { row = row a.row; from = a.from }

  -- a try
  abbrev pub try_of : Try C → IndexTry
  try_of t = record { index = t.step; channel = channel t.channel }

  -- a job
  abbrev pub job_of : Task R C → Job
  job_of (Arrive a) = arrive (new_row_of a)
  job_of (Index t) = try_index (try_of t)

  -- the making of a step that is done
  abbrev pub making_of : Made R C → Making
  making_of m = record {
    step = step_of m.made.value;
    gone = map (λ (x : Digest). x.0) m.gone.value.items;
    offers = map row m.offers.value.items;
    price = m.price;
    fault = m.fault;
    line = line_items m.line;
  }

  -- what an entry did
  abbrev pub deed_of : Did R C → Deed
  deed_of (Arrived a) = arrives (new_row_of a.coming.value) (map try_of a.next.value.items)
  deed_of (Done m) = does (try_of (tried_of m)) (making_of m) (map try_of m.next.value.items)
  deed_of (Idle t) = idles (try_of t.value)

  -- an entry
  abbrev pub entry_of : Entry R C → AnEntry
  entry_of e = record { deed = deed_of e.did; shards = has_bit e.shards }

module _ {R C S : Type 0} (deploy : Deploy) (ss : List Step) (row : R → Row) (channel : C → Tree) (part : S → Part) where
  -- what these values mean
  abbrev pub values : Meaning Space (Entry R C) S (Task R C)
  values = pulled (replay deploy ss) (entry_of row channel) part (job_of row channel) (λ e. takes_of e.did) (λ e. offers_of e.did)

  pub agrees : Agrees (replay deploy ss) (entry_of row channel) part (job_of row channel) (λ e. takes_of e.did) (λ e. offers_of e.did)
  agrees = record { takes_so = λ e. same-takes e.did; offers_so = λ e. same-offers e.did }
    where
      same-takes : (x : Did R C) → job_of row channel (takes_of x) ≡ its_job (deed_of row channel x)
      same-takes (Arrived a) = refl
      same-takes (Done m) = refl
      same-takes (Idle t) = refl

      both : {A B : Type 0} (f : A → B) (xs ys : List A) → map f (xs ++ ys) ≡ map f xs ++ map f ys
      both f [] ys = refl
      both f (x ∷ xs) ys = ap (λ l. f x ∷ l) (both f xs ys)

      twice : {A B E D : Type 0} (g : B → E) (f : A → B) (k : D → E) (h : A → D) → ((x : A) → g (f x) ≡ k (h x)) → (xs : List A) → map g (map f xs) ≡ map k (map h xs)
      twice g f k h e [] = refl
      twice g f k h e (x ∷ xs) = ap (λ y. y ∷ map g (map f xs)) (e x) ∙ ap (λ l. k (h x) ∷ l) (twice g f k h e xs)

      tries : (ts : List (Try C)) → map (job_of row channel) (map (λ t. Index t) ts) ≡ map try_index (map (try_of row channel) ts)
      tries ts = twice (job_of row channel) (λ t. Index t) try_index (try_of row channel) (λ t. refl) ts

      same-offers : (x : Did R C) → map (job_of row channel) (offers_of x) ≡ its_offers (deed_of row channel x)
      same-offers (Arrived a) = tries a.next.value.items
      same-offers (Done m) =
          both (job_of row channel) (map (λ r. Arrive (record { row = r; from = Some m.step })) m.offers.value.items) (map (λ t. Index t) m.next.value.items)
          ∙ ap (λ l. l ++ map (job_of row channel) (map (λ t. Index t) m.next.value.items)) (twice (job_of row channel) (λ r. Arrive (record { row = r; from = Some m.step })) (λ r. arrive (new_row (Some m.step) r)) row (λ r. refl) m.offers.value.items)
          ∙ ap (λ l. map (λ r. arrive (new_row (Some m.step) r)) (map row m.offers.value.items) ++ l) (tries m.next.value.items)
      same-offers (Idle t) = refl

  -- they keep the laws of a scene
  pub values_lawful : Lawful values
  values_lawful = lawful-seen (replay deploy ss) (entry_of row channel) part (job_of row channel) (λ e. takes_of e.did) (λ e. offers_of e.did) agrees (lawful deploy ss)

-- whatever list has all shards in hand as they are, it shows that the step of a try may not be done
abbrev pub AreShownIdle : {C S : Type 0} → List Step → (C → Tree) → (S → Part) → (ℕ → Option S) → List (ℕ × S) → Try C → Type 0
AreShownIdle {S = S} ss channel part in_hand held t = (before : List (ℕ × S)) → Each (λ k y. in_hand k ≡ Some y) before → ((k : ℕ) → 0 < count k held → 0 < count k before) → IsIdle ss (map (seen_at part) before) (record { index = t.step; channel = channel t.channel })
