-- What a closed process offers: sends and receives with ids, a price, and a fault where one stands.
use Rattle.std.specs.Prelude.{◌≡◌, ℕ, zero, suc, ◌+◌, ◌-◌, ◌*◌, Bool, true, false, cond, ◌&&◌, ◌||◌, eqb, ltb, List, [], ◌∷◌, ◌++◌, length, map as each, Option, Some, None}
use Rattle.calculus.specs.declared.plain.Kind.{Kind}
use Rattle.calculus.specs.declared.plain.Rights.{Rights}
use Rattle.calculus.specs.declared.plain.Rights.TheVariants as rights
use Rattle.calculus.specs.declared.plain.Origin.{Origin}
use Rattle.calculus.specs.declared.plain.Origin.TheVariants as origins
use Rattle.calculus.specs.Tree.{Label, par, row, fresh, list, tuple, set, dict, send, receive, bind, new, match, bundle, unary, binary, method, Tree, node, Trees, none, also}
use Rattle.calculus.specs.Shape.{leaf, one, two, three, many, only, held, listed, at}
use Rattle.calculus.specs.Code.{code}
use Rattle.calculus.specs.Size.{height}
use Rattle.calculus.specs.Normal.{ascending, arranged_by}
use Rattle.calculus.specs.Variables.{bound}
use Rattle.calculus.specs.Substitution.{put, renumber}
use Rattle.calculus.specs.Operators.{is_among}
use Rattle.calculus.specs.declared.fault.FaultKind.TheVariants as fault
use Rattle.calculus.specs.Outcome.{Prices, Answer, gives, fails, unknown, Outcome, free, pure, charged, after, in_order, within_limits, Capped, capped}
use Rattle.calculus.specs.Rows.{Row, row_length, system_name}
use Rattle.calculus.specs.Matching.{first_match, Bindings}
use Rattle.calculus.specs.Seeds.{digest_of, Split, Body, Fresh}
use Rattle.calculus.specs.Values.{value, values}

-- what an unfolding makes: a row that it offers, or a fresh name
pub data Product : Type 0 where
  a_row : Row → Product
  a_fresh : List ℕ → Product

-- the rows among these
abbrev pub rows_of : List Product → List Row
rows_of [] = []
rows_of (a_row r ∷ ts) = r ∷ rows_of ts
rows_of (a_fresh x ∷ ts) = rows_of ts

-- the digest that a thing is known by: an id or a fresh name
abbrev pub digest : Product → List ℕ
digest (a_row r) = r.id
digest (a_fresh x) = x

-- the name that a channel's value stands for, inside its bundles, and whether each of them lets write and lets read
pub record Channel : Type 0 where
  pub name : Tree
  pub writable : Bool
  pub readable : Bool

-- whether a bundle lets write
abbrev pub writes : Rights → Bool
writes rights.Write = true
writes rights.Both = true
writes _ = false

-- whether a bundle lets read
abbrev pub reads : Rights → Bool
reads rights.Read = true
reads rights.Both = true
reads _ = false

-- a channel in one more bundle
abbrev pub bundled : Rights → Channel → Channel
bundled r c = record { name = c.name; writable = writes r && c.writable; readable = reads r && c.readable }

-- a channel's value as that: while it is a single bundle, what is inside
abbrev pub opened : Tree → Channel
opened (node par (also (node (bundle r) (also t none)) none)) = bundled r (opened t)
opened t = record { name = t; writable = true; readable = true }

-- a row within the limits, or its fault: its part is too deep, or else its code is too big
abbrev pub row_limits : Row → Answer (List Product)
row_limits r = cond (ltb 400 (height r.part)) (fails fault.TooDeep) (cond (ltb 1048576 (row_length r)) (fails fault.TooBig) (gives (a_row r ∷ [])))

-- a row offered at this price and a price for each byte of its code, and then this answer
abbrev pub offered : ℕ → ℕ → Row → Answer (List Product) → Outcome (List Product)
offered base byte r a = charged (base + byte * row_length r) (free a)

-- a send with this id on this channel with these arguments
abbrev pub send_offered : Prices → List ℕ → Bool → Channel → List Tree → Outcome (List Product)
send_offered p t q c xs =
    let r : Row = record { id = t; part = two (send q) c.name (many row xs) } in
    offered p.send p.byte r (cond c.writable (row_limits r) (fails fault.NotWritable))

-- whether two of these are congruent
abbrev pub has_twins : List Tree → Bool
has_twins [] = false
has_twins (t ∷ ts) = is_among t ts || has_twins ts

-- whether each channel lets read
abbrev pub all_readable : List Channel → Bool
all_readable [] = true
all_readable (c ∷ cs) = c.readable && all_readable cs

-- a bind with this channel in place of its own
abbrev pub on_channel : Channel → Tree → Tree
on_channel c b = three bind c.name (at 1 (held b)) (at 2 (held b))

-- binds with these channels in place of their own
abbrev pub on_channels : List Channel → List Tree → List Tree
on_channels [] bs = []
on_channels (c ∷ cs) [] = []
on_channels (c ∷ cs) (b ∷ bs) = on_channel c b ∷ on_channels cs bs

-- the n numbers from i on
abbrev pub from_on : ℕ → ℕ → List ℕ
from_on i zero = []
from_on i (suc n) = i ∷ from_on (suc i) n

-- a bind beside the places of its variables among all that a receive's binds bind
abbrev pub Placed : Type 0
Placed = Tree × List ℕ

-- binds beside the places of their variables, which begin at i
abbrev pub placed_from : ℕ → List Tree → List Placed
placed_from i [] = []
placed_from i (b ∷ bs) = (b, from_on i (length (bound b))) ∷ placed_from (i + length (bound b)) bs

-- binds with their places, ascending in the codes of their channels
abbrev pub sorted_binds : List Tree → List Placed
sorted_binds bs = arranged_by (each (λ b. (code (at 0 (held b.0)), b)) (placed_from 0 bs))

-- the places of all of these in turn
abbrev pub all_places : List Placed → List ℕ
all_places [] = []
all_places (b ∷ bs) = b.1 ++ all_places bs

-- the place of the first q in a list, and the list's length where there is none
abbrev pub place_in : List ℕ → ℕ → ℕ
place_in [] q = 0
place_in (x ∷ xs) q = cond (eqb x q) 0 (suc (place_in xs q))

-- the new index of the variable of index k, where these are the old places in their new order: an index is counted from the last place
abbrev pub new_index : List ℕ → ℕ → ℕ
new_index places k = (length places - 1) - place_in places ((length places - 1) - k)

-- a receive of this kind with these binds, ascending in the codes of their channels, and this body, its variables numbered anew for that order
abbrev pub sorted_receive : Kind → List Tree → Tree → Tree
sorted_receive k bs body =
    let s : List Placed = sorted_binds bs in
    two (receive k) (many row (each (λ b. b.0) s)) (renumber (new_index (all_places s)) body)

-- a receive with this id on these channels with these binds and this body
abbrev pub receive_offered : Prices → List ℕ → Kind → List Channel → List Tree → Tree → Outcome (List Product)
receive_offered p t k cs bs body =
    let r : Row = record { id = t; part = sorted_receive k (on_channels cs bs) body } in
    offered p.receive p.byte r (cond (all_readable cs) (cond (has_twins (each (λ c. c.name) cs)) (fails fault.SameChannel) (row_limits r)) (fails fault.NotReadable))

-- a name as a value, in a bundle that lets write alone
abbrev pub write_only : Tree → Tree
write_only t = only (one (bundle rights.Write) t)

-- the name that number k of a `new` with the seed t becomes
abbrev pub name_made : List ℕ → ℕ → Origin → Tree
name_made t k origins.Plain = only (leaf (fresh (digest_of (Fresh t k))))
name_made t k origins.Stdout = write_only (system_name 0)
name_made t k origins.StdoutAck = write_only (system_name 1)

-- the names that a `new` makes, of which the first is number k
abbrev pub names_made : List ℕ → ℕ → List Origin → List Tree
names_made t k [] = []
names_made t k (o ∷ os) = name_made t k o ∷ names_made t (suc k) os

-- the fresh names among them: those of names without a URI
abbrev pub fresh_names : List ℕ → ℕ → List Origin → List Product
fresh_names t k [] = []
fresh_names t k (origins.Plain ∷ os) = a_fresh (digest_of (Fresh t k)) ∷ fresh_names t (suc k) os
fresh_names t k (o ∷ os) = fresh_names t (suc k) os

-- how a process is unfolded with a seed
abbrev pub Unfolder : Type 0
Unfolder = Tree → List ℕ → Outcome (List Product)

-- a process unfolded where it is within the limits
abbrev pub unfold_within : Unfolder → List ℕ → Answer Tree → Outcome (List Product)
unfold_within again s (gives t) = again t s
unfold_within again s (fails f) = free (fails f)
unfold_within again s unknown = free unknown

-- a body unfolded under bindings: they are put in, and the limits are tested
abbrev pub unfold_under : Unfolder → List ℕ → List Tree → Tree → Outcome (List Product)
unfold_under again s vs body = unfold_within again s (within_limits (put vs body))

-- the work of a case with this first match and this body, or else the next work
abbrev pub fitting : Unfolder → List ℕ → Option Bindings → Tree → Outcome (List Product) → Outcome (List Product)
fitting again s (Some vs) body next = unfold_under again s vs body
fitting again s None body next = next

-- a target tried against the cases in order, each at its price, up to the first that fits
abbrev pub cases_tried : Prices → Unfolder → List ℕ → Tree → List Tree → Outcome (List Product)
cases_tried p again s v [] = pure []
cases_tried p again s v (c ∷ cs) =
    let next : Outcome (List Product) = cases_tried p again s v cs in
    charged p.case (fitting again s (first_match (at 0 (held c)) v) (at 1 (held c)) next)

-- what a part of this form with these constituents offers, with its seed t, where what it holds is unfolded so
abbrev pub part_unfolded : Prices → Unfolder → List ℕ → Label → Trees → Outcome (List Product)
part_unfolded p again t (send q) (also c (also (node l xs) none)) =
    after (value p c) (λ v. after (in_order (values p xs)) (λ vs. send_offered p t q (opened v) vs))
part_unfolded p again t (receive k) (also (node l bs) (also body none)) =
    after (in_order (each (λ b. value p (at 0 (held b))) (listed bs))) (λ vs. receive_offered p t k (each opened vs) (listed bs) body)
part_unfolded p again t (new os) (also body none) =
    charged (p.name * length os) (after (again (put (names_made t 0 os) body) (digest_of (Body t))) (λ ts. pure (fresh_names t 0 os ++ ts)))
part_unfolded p again t match (also target (also (node l cs) none)) =
    after (value p target) (λ v. cases_tried p again (digest_of (Body t)) v (listed cs))
part_unfolded p again t (bundle r) (also body none) = again body (digest_of (Body t))
part_unfolded p again t (unary o) ts = after (value p (node (unary o) ts)) (λ v. again v (digest_of (Body t)))
part_unfolded p again t (binary o) ts = after (value p (node (binary o) ts)) (λ v. again v (digest_of (Body t)))
part_unfolded p again t (method n) ts = after (value p (node (method n) ts)) (λ v. again v (digest_of (Body t)))
part_unfolded p again t list ts = after (value p (node list ts)) (λ v. pure [])
part_unfolded p again t tuple ts = after (value p (node tuple ts)) (λ v. pure [])
part_unfolded p again t set ts = after (value p (node set ts)) (λ v. pure [])
part_unfolded p again t dict ts = after (value p (node dict ts)) (λ v. pure [])
part_unfolded p again t l ts = pure []

-- what a part offers, with its seed t
abbrev pub unfold_part : Prices → Unfolder → List ℕ → Tree → Outcome (List Product)
unfold_part p again t (node l ts) = part_unfolded p again t l ts

-- what these parts offer under the seed s, the first of them part number i
abbrev pub parts_unfolded : Prices → Unfolder → List ℕ → ℕ → List Tree → Outcome (List Product)
parts_unfolded p again s i [] = pure []
parts_unfolded p again s i (t ∷ ts) =
    after (unfold_part p again (digest_of (Split s i)) t) (λ rs. after (parts_unfolded p again s (suc i) ts) (λ qs. pure (rs ++ qs)))

-- a process unfolded where at most `room` processes are unfolded inside one another
unfoldable pub unfold_in : Prices → ℕ → Unfolder
unfold_in p zero t s = free unknown
unfold_in p (suc room) t s = parts_unfolded p (unfold_in p room) s 0 (ascending (held t))

-- a closed process with this seed comes to this under the cap, where there is room enough
abbrev pub Unfolds : Prices → ℕ → Tree → List ℕ → Capped (List Product) → Type 0
Unfolds p cap t s w = (room : ℕ) × capped cap (unfold_in p room t s) ≡ Some w

-- a body under these values, with this seed, comes to this under the cap, where there is room enough
abbrev pub UnfoldsUnder : Prices → ℕ → List Tree → Tree → List ℕ → Capped (List Product) → Type 0
UnfoldsUnder p cap vs body s w = (room : ℕ) × capped cap (unfold_under (unfold_in p room) s vs body) ≡ Some w
