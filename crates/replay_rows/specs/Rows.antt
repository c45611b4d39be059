-- What a shard of a replay keeps.
use Rattle.std.specs.Prelude.{◌≡◌, ◌<◌, ◌^◌, ◌-◌, ℕ, suc, Bool, true, ◌&&◌, leb, cond, List, [], ◌∷◌, map as each, filter, flat_map, Option}
use Rattle.std.specs.Str.{bytes_eq}
use Rattle.std.specs.List.{list_any}
use Rattle.calculus.specs.Rows.{Row, stdout, stdout_ack}
use Rattle.calculus.specs.Steps.{is_one_of}
use Rattle.calculus.specs.Log.{Step}
use Rattle.racing_replays.specs.Replaying.{names}
use Rattle.racing_replays.specs.Counted.{names_id}
use Rattle.hub_scenes.specs.Entries.{counted, left_of}
use Rattle.hub_scenes.specs.Spaces.{SeenRow, Part, standing_row, seen_in, IsIn}
use Rattle.replay_space.specs.declared.seen.Seen.{Seen}
use Rattle.replay_rows.specs.Filing.{Filed, seen_in_all, AreUnder, first_with}
use Rattle.replay_rows.specs.declared.kept.Kept.{Kept}

-- what is kept of a row
abbrev pub seen_row : Seen Row → SeenRow
seen_row q = record { row = q.row; from = q.from; done = q.done }

-- the id of a row
abbrev pub id_of : SeenRow → List ℕ
id_of q = q.row.id

-- all rows of a map from ids
abbrev pub filed_rows : List (Filed (Seen Row)) → List SeenRow
filed_rows es = seen_in_all seen_row es

-- each row stands under its id
abbrev pub AreFiled : List (Filed (Seen Row)) → Type 0
AreFiled es = AreUnder seen_row id_of es

-- the first of these rows that has this id
abbrev pub find_seen : List ℕ → List SeenRow → Option SeenRow
find_seen x qs = first_with id_of x qs

-- a row that one more done step names
abbrev pub once_more : SeenRow → SeenRow
once_more q = record { row = q.row; from = q.from; done = suc q.done }

-- what is left of a row after a step that names this id, where it leaves or stays
abbrev pub settled : List ℕ → Bool → SeenRow → List SeenRow
settled x leaves q = cond (bytes_eq x q.row.id) (cond leaves [] (once_more q ∷ [])) (q ∷ [])

-- a row after steps that name these ids
abbrev pub counted_in : List (List ℕ) → SeenRow → SeenRow
counted_in ids q = record { row = q.row; from = q.from; done = cond (is_one_of q.row.id ids) (suc q.done) q.done }

-- what is left of a row where the rows with these ids leave
abbrev pub stays_from : List (List ℕ) → SeenRow → List SeenRow
stays_from gone q = cond (is_one_of q.row.id gone) [] (q ∷ [])

-- a shard as it is kept
abbrev pub part_of : Kept → Part
part_of a = record { number = a.number; rows = filed_rows a.rows.entries; built = each seen_row a.built.items }

-- the built-in receivers of the shard k
abbrev pub own_built : ℕ → List SeenRow
own_built k = filter (seen_in k) (each standing_row (stdout ∷ stdout_ack ∷ []))

-- what a step makes of a shard, where the rows with these ids leave
abbrev pub settled_part : Step → List (List ℕ) → Part → Part
settled_part s gone x = record { number = x.number; rows = flat_map (left_of s gone) x.rows; built = each (counted s) x.built }

-- one more done step can be counted at each of these rows that a step names
abbrev pub AreLow : Step → List SeenRow → Type 0
AreLow s qs = (q : SeenRow) → IsIn q qs → names_id q.row.id s ≡ true → q.done < 2 ^ 32 - 1

-- a row as it arrives
abbrev pub arrived_seen : Row → Option ℕ → Seen Row
arrived_seen r f = record { row = r; from = f; done = 0 }

-- whether a row has this id, and no more done steps can be counted at it
abbrev pub is_full : List ℕ → SeenRow → Bool
is_full x q = bytes_eq q.row.id x && leb (2 ^ 32 - 1) q.done

-- whether one of these rows is so, with an id that a step names
abbrev pub has_full : Step → List SeenRow → Bool
has_full s qs = list_any (λ x. list_any (is_full x) qs) (names s)
