-- A meaning seen through values of other types.
use Rattle.std.specs.Prelude.{ℕ, map}
use Rattle.hub_rule.specs.Meaning.{Meaning}

-- a numbered thing, seen
abbrev pub seen_at : {A B : Type 0} → (A → B) → ℕ × A → ℕ × B
seen_at f q = (q.0, f q.1)

-- The meaning of entries and shards that stand for those of another meaning, under a premise: what a shard is, with what a hub opens and which entries are allowed is said
-- if it holds. Of each entry this is known in any case.
abbrev pub pulled : {Store E X W D Y : Type 0} → Meaning Store E X W → (D → E) → (Y → X) → Type 0 → (D → Type 0) → Meaning Store D Y W
pulled m entry shard holds known = record {
  projects = λ st k x. holds → m.projects st k (shard x);
  opens = λ st works. holds → m.opens st works;
  after = λ st e. m.after st (entry e);
  allows = λ st e. (holds → m.allows st (entry e)) × known e;
  takes = λ e. m.takes (entry e);
  ends = λ e. m.ends (entry e);
  offers = λ e. m.offers (entry e);
  touched = λ e k. m.touched (entry e) k;
  effect = λ e k x y. m.effect (entry e) k (shard x) (shard y);
  price = λ e. m.price (entry e);
  faults = λ e. m.faults (entry e);
  tells = λ xs es e. m.tells (map (seen_at shard) xs) (map entry es) (entry e) × known e;
}
