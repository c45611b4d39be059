-- Bags, and which steps are allowed in them.
use Rattle.std.specs.Prelude.{ℕ, suc, Bool, true, false, cond, not, ◌&&◌, ◌||◌, eqb, List, [], ◌∷◌, ◌++◌, length, map as each, flat_map, count_by, Option, Some, None, option_and_then}
use Rattle.std.specs.Str.{bytes_eq}
use Rattle.calculus.specs.declared.plain.Kind.{Kind}
use Rattle.calculus.specs.declared.plain.Kind.TheVariants as kinds
use Rattle.calculus.specs.Tree.{send, receive, Tree, node}
use Rattle.calculus.specs.Shape.{held, listed, at}
use Rattle.calculus.specs.Congruence.{congruent}
use Rattle.calculus.specs.Matching.{Bindings, bind_matches, first_of_all}
use Rattle.calculus.specs.Printed.{printed_text}
use Rattle.calculus.specs.Log.{Step}
use Rattle.calculus.specs.Rows.{Row, stdout, stdout_ack}

-- what a run has at hand beside the built-in receivers: the rows of its checkpoint that are left, and those that were offered since and are left, each in order of arrival
pub record Bag : Type 0 where
  pub kept : List Row
  pub offered : List Row

-- all rows of a bag, the oldest first: the built-in receivers stand between the checkpoint's rows and what was offered, and never leave
abbrev pub standing : Bag → List Row
standing b = b.kept ++ (stdout ∷ stdout_ack ∷ b.offered)

-- the rows of a bag that a state keeps: all but the built-in receivers
abbrev pub stored_rows : Bag → List Row
stored_rows b = b.kept ++ b.offered

-- a row with its place among those of a bag
abbrev pub PlacedRow : Type 0
PlacedRow = ℕ × Row

-- the rows with this id, with their places, the first of these rows having place i
abbrev pub with_id : List ℕ → ℕ → List Row → List PlacedRow
with_id x i [] = []
with_id x i (r ∷ rs) = cond (bytes_eq x r.id) ((i, r) ∷ with_id x (suc i) rs) (with_id x (suc i) rs)

-- all choices of a row for each id, the oldest row first and the last id's choice changing fastest
abbrev pub row_choices : List Row → List (List ℕ) → List (List PlacedRow)
row_choices b [] = [] ∷ []
row_choices b (x ∷ xs) = flat_map (λ r. each (λ rs. r ∷ rs) (row_choices b xs)) (with_id x 0 b)

-- whether an id is one of these
abbrev pub is_one_of : List ℕ → List (List ℕ) → Bool
is_one_of x [] = false
is_one_of x (y ∷ ys) = bytes_eq x y || is_one_of x ys

-- whether these ids differ from one another
abbrev pub differ : List (List ℕ) → Bool
differ [] = true
differ (x ∷ xs) = not (is_one_of x xs) && differ xs

-- what a receive's part holds
pub record Receiver : Type 0 where
  pub kind : Kind
  pub binds : List Tree
  pub body : Tree

-- what a send's part holds
pub record Datum : Type 0 where
  pub persistent : Bool
  pub channel : Tree
  pub args : List Tree

-- a part as a receiver, where it is one
abbrev pub as_receiver : Tree → Option Receiver
as_receiver (node (receive k) ts) = Some (record { kind = k; binds = held (at 0 (listed ts)); body = at 1 (listed ts) })
as_receiver _ = None

-- a part as a datum, where it is one
abbrev pub as_datum : Tree → Option Datum
as_datum (node (send q) ts) = Some (record { persistent = q; channel = at 0 (listed ts); args = held (at 1 (listed ts)) })
as_datum _ = None

-- these rows as data, where each is one
abbrev pub as_data : List PlacedRow → Option (List Datum)
as_data [] = Some []
as_data (h ∷ hs) = option_and_then (λ d. option_and_then (λ ds. Some (d ∷ ds)) (as_data hs)) (as_datum h.1.part)

-- what a bind's first match binds of a datum on a congruent channel
abbrev pub bindings_of : Tree → Datum → Option Bindings
bindings_of b d = cond (congruent (at 0 (held b)) d.channel) (first_of_all (bind_matches b d.args)) None

-- what binds bind of as many data, one bind after another
abbrev pub all_bindings : List Tree → List Datum → Option Bindings
all_bindings [] [] = Some []
all_bindings [] (d ∷ ds) = None
all_bindings (b ∷ bs) [] = None
all_bindings (b ∷ bs) (d ∷ ds) = option_and_then (λ xs. option_and_then (λ ys. Some (xs ++ ys)) (all_bindings bs ds)) (bindings_of b d)

-- a receiver with data that its binds match: the receiver's place, what is bound, and the places of the rows that leave
pub record Meeting : Type 0 where
  pub receiver : Receiver
  pub place : ℕ
  pub sends : List Datum
  pub bindings : Bindings
  pub leaving : List ℕ

-- whether a receiver stays after a step
abbrev pub stays : Kind → Bool
stays kinds.Persistent = true
stays _ = false

-- whether a receiver leaves its data where they are
abbrev pub peeks : Kind → Bool
peeks kinds.Peek = true
peeks _ = false

-- the place of a receiver, where it leaves
abbrev pub receiver_leaving : Kind → PlacedRow → List ℕ
receiver_leaving k h = cond (stays k) [] (h.0 ∷ [])

-- the places of the data that leave: linear ones, where the receiver does not peek
abbrev pub data_leaving : Kind → List PlacedRow → List Datum → List ℕ
data_leaving k [] ds = []
data_leaving k (h ∷ hs) [] = []
data_leaving k (h ∷ hs) (d ∷ ds) = cond (peeks k || d.persistent) (data_leaving k hs ds) (h.0 ∷ data_leaving k hs ds)

-- a receiver's row with these rows, where they are data that its binds match
abbrev pub meet : PlacedRow → List PlacedRow → Receiver → List Datum → Option Meeting
meet h hs r ds = option_and_then (λ xs. Some (record { receiver = r; place = h.0; sends = ds; bindings = xs; leaving = receiver_leaving r.kind h ++ data_leaving r.kind hs ds })) (all_bindings r.binds ds)

-- a choice of rows as a meeting: the first is the receiver, and the others are its data
abbrev pub meet_rows : List PlacedRow → Option Meeting
meet_rows [] = None
meet_rows (h ∷ hs) = option_and_then (λ r. option_and_then (meet h hs r) (as_data hs)) (as_receiver h.1.part)

-- whether two lists of ids are equal
abbrev pub same_ids : List (List ℕ) → List (List ℕ) → Bool
same_ids [] [] = true
same_ids (x ∷ xs) (y ∷ ys) = bytes_eq x y && same_ids xs ys
same_ids _ _ = false

-- whether two steps have the same receiver and the same data
abbrev pub same_meeting : Step → Step → Bool
same_meeting s u = bytes_eq s.receiver u.receiver && same_ids s.data_ids u.data_ids

-- whether all of these data are persistent
abbrev pub all_persistent : List Datum → Bool
all_persistent [] = true
all_persistent (d ∷ ds) = d.persistent && all_persistent ds

-- whether a step's repeat number is right after these steps: how often the very same step was made, and 0 unless the receiver and all its data are persistent
abbrev pub right_repeat : List Step → Step → Meeting → Bool
right_repeat made s m = eqb s.repeat (count_by (same_meeting s) made) && (eqb s.repeat 0 || (stays m.receiver.kind && all_persistent m.sends))

-- a choice of rows for a step after these steps, where they meet and the repeat number is right
abbrev pub meet_for : List Step → Step → List PlacedRow → Option Meeting
meet_for made s hs = option_and_then (λ m. cond (right_repeat made s m) (Some m) None) (meet_rows hs)

-- the first of these that is there
abbrev pub first_there : {A : Type 0} → List (Option A) → Option A
first_there [] = None
first_there (None ∷ xs) = first_there xs
first_there (Some x ∷ xs) = Some x

-- how a step is made in a bag after these steps, where it is allowed: its data differ, and some choice of rows meets, of which the first counts
unfoldable pub meeting : Bag → List Step → Step → Option Meeting
meeting b made s = cond (differ s.data_ids) (first_there (each (meet_for made s) (row_choices (standing b) (s.receiver ∷ s.data_ids)))) None

-- whether a meeting in this bag has a built-in receiver, which is known by its place
abbrev pub is_built_in : Bag → Meeting → Bool
is_built_in b m = eqb m.place (length b.kept) || eqb m.place (suc (length b.kept))

-- the line of a value
abbrev pub line : Tree → List ℕ
line t = printed_text t ++ 10 ∷ []

-- what a step prints that is made so in this bag: the line of the value that a built-in receiver takes
abbrev pub printed_line : Bag → Meeting → List ℕ
printed_line b m = cond (is_built_in b m) (line (at 0 m.bindings)) []

-- whether a place is one of these
abbrev pub has_place : List ℕ → ℕ → Bool
has_place [] i = false
has_place (p ∷ ps) i = eqb p i || has_place ps i

-- rows but those at these places, the first of these rows having place i
abbrev pub but_places : List ℕ → ℕ → List Row → List Row
but_places ps i [] = []
but_places ps i (r ∷ rs) = cond (has_place ps i) (but_places ps (suc i) rs) (r ∷ but_places ps (suc i) rs)

-- a bag after a meeting whose body offers these rows
abbrev pub bag_after : Bag → Meeting → List Row → Bag
bag_after b m rs = record { kept = but_places m.leaving 0 b.kept; offered = but_places m.leaving (suc (suc (length b.kept))) b.offered ++ rs }
