-- What holds between any two steps of a hub, and what each step tells the seat that makes it.
-- Word 0 counts the entries drawn. Word 8k + 8 is 1 while a seat has the turn of shard k, and else 0. Slot k holds shard k while nobody has its turn.
-- Word 1 is the charged word. Word 2 is the stop word: 0 while the hub runs, 1 where it stops for want of memory, 2 where it stops for a fault. Word 520 and
-- the words 8d + 528 are those of works. The rule says nothing of the others: word 784 is the bell, words 792 and 793 count those who sleep until it rings and
-- those who sleep for a turn, and word 8d + 529 is 1 where nothing lay on desk d when its turn was last given back.
use Rattle.std.specs.Prelude.{◌≡◌, ◌≢◌, ℕ, ◌+◌, ◌-◌, ◌*◌, ◌^◌, ◌<◌, ◌≤◌, ◌⊎◌, ◌==◌, Bool, true, false, cond, max, List, [], ◌∷◌, ◌++◌, length, slice_index, slice_get, Option, Some, None, nat_lt, ◌&&◌, map, drop}
use mathlib.Core.Option.{some, none}
use mathlib.Core.Option as opt
use lib.ListN.{get_elem?}
use Rattle.atomic_table.specs.Table.{State, Me, Step, rest}
use Rattle.atomic_table.specs.declared.shared.Seat.{Seat}
use Rattle.hub_rule.specs.declared.view.View.{View}
use Rattle.hub_rule.specs.declared.view.Tally.{Tally}
use Rattle.hub_rule.specs.declared.view.Pile.{Pile}
use Rattle.hub_rule.specs.declared.slot.Slot.{Slot}
use Rattle.hub_rule.specs.declared.slot.Slot.TheVariants.{Shard, Desk}
use Rattle.hub_rule.specs.declared.terms.Terms.{Terms}
use Rattle.hub_rule.specs.Counts.{one_if, count, total, once_below, things_of, numbered, Each}
use Rattle.hub_rule.specs.Meaning.{Meaning, store_after, Allowed, Follows, AllFollow, Ran}
use Rattle.hub_rule.specs.Works.{pile, bare, hand, Piles, DeskRule, WorkRule, PendRule}

-- a tally, field by field
abbrev pub tally : {E : Type 0} → List (ℕ × E) → List (ℕ × E) → List (ℕ × E) → Bool → ℕ → ℕ → ℕ → ℕ → ℕ → Tally E
tally settled fresh due leave low over unset no_memory fault = record { settled = settled; fresh = fresh; due = due; leave = leave; low = low; over = over; unset = unset; no_memory = no_memory; fault = fault }

-- nothing is charged or found
abbrev pub blank : {E : Type 0} → Tally E
blank = tally [] [] [] false 0 0 0 0 0

-- a view, field by field
abbrev pub view : {E X W : Type 0} → ℕ → List (ℕ × E) → List (ℕ × X) → List E → Tally E → Pile E W → View E X W
view parts entries held since tally pile = record { parts = parts; entries = entries; held = held; since = since; tally = tally; pile = pile }

-- a seat with the parts of so many seats, which has drawn nothing and holds nothing
abbrev pub newcomer : {E X W : Type 0} → ℕ → View E X W
newcomer seats = view (32 * seats) [] [] [] blank bare

module _ {Store E X W : Type 0} (m : Meaning Store E X W) (now : Store) (words : List ℕ) (homes : List (opt.Option (Slot X W))) (views : List (View E X W)) where
  -- Turns. A turn word names at most one seat, whose view names the turn. A shard whose turn is free is in its slot, and is the projection of the
  -- store now. A shard whose turn is held is so too, up to what the entries that its holder drew since may make of it.
  pub record TurnRule : Type 0 where
    pub turn : (k : ℕ) → k < 64 → slice_index words (k * 8 + 8) ≡ total (λ v. count k v.held) views
    pub one : (k : ℕ) → k < 64 → total (λ v. count k v.held) views < 2
    pub home : (k : ℕ) → k < 64 → slice_index words (k * 8 + 8) ≡ 0 → (x : X) × (get_elem? homes k ≡ some (some (Shard (Some x)))) × m.projects now k x
    pub idle : (id : ℕ) (v : View E X W) → get_elem? views id ≡ some v → v.parts ≡ 0 → v.held ≡ []
    pub held : (id : ℕ) (v : View E X W) → get_elem? views id ≡ some v → Each (λ k x. (k < 64) × ((y : X) → Follows m v.since k x y → m.projects now k y)) v.held

module _ {E X W : Type 0} (seats : ℕ) (log : List E) (word : ℕ) (views : List (View E X W)) where
  -- Draws. The numbers in all lists differ, are below the sequence word and are all the numbers below it, and each entry is that of its number in the
  -- log. Each seat has 32 parts, and at most 2^53 entries a part, so the word doesn't wrap; a view without parts has no entry.
  pub record DrawRule : Type 0 where
    pub drawn : word ≡ length log
    pub numbers : (id : ℕ) (v : View E X W) → get_elem? views id ≡ some v → Each (λ n e. get_elem? log n ≡ some e) v.entries
    pub once : (n : ℕ) → total (λ v. count n v.entries) views ≡ once_below n (length log)
    pub sums : total (λ v. length v.entries) views ≡ length log
    pub parts : total (λ v. v.parts) views ≡ 32 * seats
    pub small : (id : ℕ) (v : View E X W) → get_elem? views id ≡ some v → length v.entries ≤ v.parts * 2 ^ 53

-- what these entries cost
abbrev pub cost : {E : Type 0} → (E → ℕ) → List (ℕ × E) → ℕ
cost price es = total (λ p. price p.1) es

module _ {E X W : Type 0} (price : E → ℕ) (terms : Terms) (word : ℕ) (views : List (View E X W)) where
  -- Charges. The charged word is what was spent at the start and the prices of the charged entries. Less what each seat charged since it found the word
  -- not above the limit, it is at most the greater of what was spent and the limit; each seat has at most one such charge, of at most 2^56, so the word
  -- doesn't wrap. A view without parts has charged nothing that costs. Where a seat found the word above the limit, it is above the limit.
  pub record ChargeRule : Type 0 where
    pub low : (terms.spent < 2 ^ 62) × (terms.limit < 2 ^ 62)
    pub paid : word ≡ terms.spent + total (λ v. cost price v.tally.settled + cost price v.tally.fresh) views
    pub passed : word ≤ max terms.spent terms.limit + total (λ v. cost price v.tally.fresh) views
    pub small : (id : ℕ) (v : View E X W) → get_elem? views id ≡ some v → cost price v.tally.fresh ≤ v.parts * 2 ^ 51
    pub idle : (id : ℕ) (v : View E X W) → get_elem? views id ≡ some v → v.parts ≡ 0 → cost price v.tally.settled + cost price v.tally.fresh ≡ 0
    pub over : (id : ℕ) (v : View E X W) → get_elem? views id ≡ some v → 0 < v.tally.over → terms.limit < word

-- one of these entries is a fault
abbrev pub FaultIn : {E : Type 0} → (E → Bool) → List E → Type 0
FaultIn {E = E} faults log = (n : ℕ) × (e : E) × (get_elem? log n ≡ some e) × (faults e ≡ true)

module _ {E X W : Type 0} (faults : E → Bool) (log : List E) (word : ℕ) (views : List (View E X W)) where
  -- The stop. The stop word is unset, or says want of memory, or says a fault, with an entry that is one. What a seat found in it once, it still says.
  pub record StopRule : Type 0 where
    pub cause : (word ≡ 0) ⊎ ((word ≡ 1) ⊎ ((word ≡ 2) × FaultIn faults log))
    pub no_memory : (id : ℕ) (v : View E X W) → get_elem? views id ≡ some v → 0 < v.tally.no_memory → word ≡ 1
    pub fault : (id : ℕ) (v : View E X W) → get_elem? views id ≡ some v → 0 < v.tally.fault → word ≡ 2

-- the parts and the pile of a view
abbrev pub share_of : {E X W : Type 0} → View E X W → ℕ × Pile E W
share_of v = (v.parts, v.pile)

-- the piles of these views, each with its parts
abbrev pub piles_of : {E X W : Type 0} → List (View E X W) → Piles E W
piles_of views = map share_of views

-- The rule of a hub, between any two steps: the entries drawn, in order of number, are an allowed list from a store that the opened shards project and
-- the opened works, and turns, draws, charges, the stop, desks and works are as they are to be.
pub record HubRule {Store E X W : Type 0} (m : Meaning Store E X W) (opened : List X × List W) (terms : Terms) (s : State (Slot X W) (View E X W)) : Type 0 where
  pub store : Store
  pub log : List (ℕ × E)
  pub wide : length s.words ≡ 800
  pub long : length s.homes ≡ 96
  pub few : terms.seats ≤ 32
  pub opens : (k : ℕ) (x : X) → get_elem? opened.0 k ≡ some x → m.projects store k x
  pub starts : m.opens store opened.1
  pub legal : Allowed m store opened.1 log
  pub turns : TurnRule m (store_after m store (things_of log)) s.words s.homes s.views
  pub draws : DrawRule terms.seats (things_of log) (slice_index s.words 0) s.views
  pub charges : ChargeRule m.price terms (slice_index s.words 1) s.views
  pub stops : StopRule m.faults (things_of log) (slice_index s.words 2) s.views
  pub desks : List (List (ℕ × W))
  pub places : DeskRule s.words s.homes desks (piles_of s.views)
  pub works : WorkRule m opened.1 log desks (piles_of s.views)
  pub pending : PendRule (length opened.1) (slice_index s.words 520) desks (piles_of s.views)

-- the view with these shards held, and these entries drawn since
abbrev pub with_held : {E X W : Type 0} → View E X W → List (ℕ × X) → List E → View E X W
with_held v held since = view v.parts v.entries held since v.tally v.pile

-- a turn is taken, with what its slot holds, where the word was 0; else nothing changes
abbrev pub Took : {E X W : Type 0} → Step (Slot X W) → Me (Slot X W) (View E X W) → ℕ → Me (Slot X W) (View E X W) → Type 0
Took st a r b = (r ≡ 0 → (k : ℕ) × (x : _) × (st.word ≡ k * 8 + 8) × (b ≡ (with_held a.0 ((k, x) ∷ a.0.held) a.0.since, (k, Shard (Some x)) ∷ a.1))) × (r ≢ 0 → b ≡ a)

-- what is known of entries is forgotten with the last shard
abbrev pub since_after : {E X : Type 0} → List (ℕ × X) → List E → List E
since_after [] es = []
since_after (p ∷ ps) es = es

-- the view after the turn that was taken last is given back
abbrev pub given_back : {E X W : Type 0} → View E X W → View E X W
given_back v = with_held v (rest v.held) (since_after (rest v.held) v.since)

-- the turn taken last is that of the shard k, of which the entries drawn since may have made y
abbrev pub HoldsLast : {Store E X W : Type 0} → Meaning Store E X W → View E X W → ℕ → X → Type 0
HoldsLast {X = X} m v k y = (x : X) × (v.held ≡ (k, x) ∷ rest v.held) × Follows m v.since k x y

-- a turn is given back
abbrev pub Gave : {E X W : Type 0} → Step (Slot X W) → Me (Slot X W) (View E X W) → ℕ → Me (Slot X W) (View E X W) → Type 0
Gave st a r b = b ≡ (given_back a.0, rest a.1)

-- an entry is drawn and not charged yet
abbrev pub owes : {E : Type 0} → Tally E → ℕ → E → Tally E
owes t n e = tally t.settled t.fresh (t.due ++ (n, e) ∷ []) false t.low t.over t.unset t.no_memory t.fault

-- the work stays in hand, unless the entry ends it
abbrev pub kept_if : {A : Type 0} → Bool → List A → List A
kept_if true xs = []
kept_if false xs = xs

-- The pile after an entry is drawn: the work that it takes is ended or stays in hand, and the works that it offers are in hand, with the indices from the base on.
abbrev pub draws_on : {Store E X W : Type 0} → Meaning Store E X W → Pile E W → ℕ → E → Pile E W
draws_on m p base e = pile p.kept (kept_if (m.ends e) p.taken) (numbered base (m.offers e)) (p.took ++ e ∷ []) p.counted true p.desk p.empty p.left p.fetched

-- the view after this entry is drawn with this number
abbrev pub after_draw : {Store E X W : Type 0} → Meaning Store E X W → View E X W → ℕ → E → ℕ → View E X W
after_draw m v n e base = view v.parts (v.entries ++ (n, e) ∷ []) v.held (since_after v.held (v.since ++ e ∷ [])) (owes v.tally n e) (draws_on m v.pile base e)

-- the entry that was named is drawn, with the number found
abbrev pub Drew : {Store E X W : Type 0} → Meaning Store E X W → Option E → Step (Slot X W) → Me (Slot X W) (View E X W) → ℕ → Me (Slot X W) (View E X W) → Type 0
Drew {E = E} m named st a r b = (e : E) → named ≡ Some e → (base : ℕ) × (b ≡ (after_draw m a.0 r e base, a.1))

-- The seat may draw this entry: it has the work in hand that the entry takes and no other, it holds the turns of all shards that the entry touches, and the
-- held shards, as its draws since made them, and its entries on this work tell that it is allowed.
pub record MayDraw {Store E X W : Type 0} (m : Meaning Store E X W) (v : View E X W) (e : E) : Type 0 where
  pub room : length v.entries < v.parts * 2 ^ 53
  pub within : (k : ℕ) → m.touched e k ≡ true → 0 < count k v.held
  pub part : 32 ≤ v.parts
  pub index : ℕ
  pub work : (v.pile.kept ≡ []) × (v.pile.taken ≡ (index, m.takes e) ∷ []) × (v.pile.offered ≡ [])
  pub told : v.pile.owes ≡ false
  pub few : length (m.offers e) < 2 ^ 57 + 64
  pub before : List (ℕ × X)
  pub follows : AllFollow m v.since v.held before
  pub tells : m.tells before v.pile.took e

-- the view with this tally
abbrev pub with_tally : {E X W : Type 0} → View E X W → Tally E → View E X W
with_tally v t = view v.parts v.entries v.held v.since t v.pile

-- the view with this pile
abbrev pub with_pile : {E X W : Type 0} → View E X W → Pile E W → View E X W
with_pile v p = view v.parts v.entries v.held v.since v.tally p

-- of what the seat knows the tally alone changes, and as f says
abbrev pub ChangesTally : {E X W : Type 0} → Seat (Slot X W) (View E X W) → Seat (Slot X W) (View E X W) → (Tally E → Tally E) → Type 0
ChangesTally old new f = new.me ≡ (with_tally old.me.0 (f old.me.0.tally), old.me.1)

-- of what the seat knows the pile alone changes, and as f says
abbrev pub ChangesPile : {E X W : Type 0} → Seat (Slot X W) (View E X W) → Seat (Slot X W) (View E X W) → (Pile E W → Pile E W) → Type 0
ChangesPile old new f = new.me ≡ (with_pile old.me.0 (f old.me.0.pile), old.me.1)

-- the slot that was taken last is given back, and beside it the pile alone changes, as f says
abbrev pub GivesDesk : {E X W : Type 0} → Seat (Slot X W) (View E X W) → Seat (Slot X W) (View E X W) → (Pile E W → Pile E W) → Type 0
GivesDesk old new f = new.me ≡ (with_pile old.me.0 (f old.me.0.pile), rest old.me.1)

-- the pending word counts all works in hand
abbrev pub tells_of : {E W : Type 0} → Pile E W → Pile E W
tells_of p = pile p.kept p.taken p.offered p.took (length (hand p)) false p.desk p.empty p.left p.fetched

-- the pending word is told what an entry offered and ended
abbrev pub Told : {E X W : Type 0} → Step (Slot X W) → Me (Slot X W) (View E X W) → ℕ → Me (Slot X W) (View E X W) → Type 0
Told st a r b = b ≡ (with_pile a.0 (tells_of a.0.pile), a.1)

-- the view after this entry is drawn with this number, and the pending word is told
abbrev pub after_commit : {Store E X W : Type 0} → Meaning Store E X W → View E X W → ℕ → E → ℕ → View E X W
after_commit m v n e base = with_pile (after_draw m v n e base) (tells_of (draws_on m v.pile base e))

-- nothing was found to be pending
abbrev pub saw_empty : {E W : Type 0} → Pile E W → Pile E W
saw_empty p = pile p.kept p.taken p.offered p.took p.counted p.owes p.desk (p.empty + 1) p.left p.fetched

-- the pending word is read
abbrev pub ReadPending : {E X W : Type 0} → Step (Slot X W) → Me (Slot X W) (View E X W) → ℕ → Me (Slot X W) (View E X W) → Type 0
ReadPending st a r b = (r ≡ 0 → b ≡ (with_pile a.0 (saw_empty a.0.pile), a.1)) × (r ≢ 0 → b ≡ a)

-- the turn of this desk is taken, where these works lie
abbrev pub at_desk : {E W : Type 0} → Pile E W → ℕ → List (ℕ × W) → Pile E W
at_desk p d ps = pile p.kept p.taken p.offered p.took p.counted p.owes ((d, ps) ∷ p.desk) p.empty p.left p.fetched

-- the turn of a desk is taken, with the works in its slot, where the word was 0; else nothing changes
abbrev pub TookDesk : {E X W : Type 0} → Step (Slot X W) → Me (Slot X W) (View E X W) → ℕ → Me (Slot X W) (View E X W) → Type 0
TookDesk {W = W} st a r b =
    (r ≡ 0 → (d : ℕ) × (v : _) × (ps : List (ℕ × W)) × (st.word ≡ d * 8 + 528) × (v.items ≡ things_of ps) × (b ≡ (with_pile a.0 (at_desk a.0.pile d ps), (d + 64, Desk v) ∷ a.1))) × (r ≢ 0 → b ≡ a)

-- the turn of this desk is taken, with the works in its slot
abbrev pub TakesDesk : {E X W : Type 0} → Seat (Slot X W) (View E X W) → Seat (Slot X W) (View E X W) → ℕ → Type 0
TakesDesk {W = W} old new d = (v : _) × (ps : List (ℕ × W)) × (new.me ≡ (with_pile old.me.0 (at_desk old.me.0.pile d ps), (d + 64, Desk v) ∷ old.me.1)) × (v.items ≡ things_of ps)

-- The seat may take the turn of this desk and give it back: it holds the turn of none, has a seat's parts, and has told the pending word what it drew.
abbrev pub MayTakeDesk : {E X W : Type 0} → View E X W → ℕ → Type 0
MayTakeDesk v d = (d < 32) × (v.pile.desk ≡ []) × (32 ≤ v.parts) × (v.pile.owes ≡ false)

-- the works that lay on the desk whose turn is held
abbrev pub lying : {W : Type 0} → List (ℕ × List (ℕ × W)) → List (ℕ × W)
lying [] = []
lying (q ∷ qs) = q.1

-- how many works are in a slot
abbrev pub size_of : {X W : Type 0} → Slot X W → ℕ
size_of (Shard x) = 0
size_of (Desk v) = length v.items

-- how many works are in the slot that was taken last
abbrev pub top_size : {X W : Type 0} → List (ℕ × Slot X W) → ℕ
top_size [] = 0
top_size (q ∷ qs) = size_of q.1

-- no desk's turn is held
abbrev pub away : {E W : Type 0} → Pile E W → Pile E W
away p = pile p.kept p.taken p.offered p.took p.counted p.owes [] p.empty p.left p.fetched

-- these works were taken from the desk, or none
abbrev pub takes_up : {E W : Type 0} → Pile E W → List (ℕ × W) → Pile E W
takes_up p [] = away p
takes_up p (r ∷ rs) = pile p.kept (r ∷ rs) p.offered [] (p.counted + length (r ∷ rs)) p.owes [] p.empty p.left (p.fetched + length (r ∷ rs))

-- this work was taken from a desk
abbrev pub TakesUp : {E X W : Type 0} → Seat (Slot X W) (View E X W) → Seat (Slot X W) (View E X W) → W → Type 0
TakesUp old new w = (i : ℕ) × ChangesPile old new (λ p. takes_up p ((i, w) ∷ []))

-- the turn of a desk is given back, and what lay there beyond what is in its slot was taken
abbrev pub Fetched : {E X W : Type 0} → Step (Slot X W) → Me (Slot X W) (View E X W) → ℕ → Me (Slot X W) (View E X W) → Type 0
Fetched st a r b = b ≡ (with_pile a.0 (takes_up a.0.pile (drop (top_size a.1) (lying a.0.pile.desk))), rest a.1)

-- the turn of a desk is given back, and what was offered lies on it
abbrev pub leaves : {E W : Type 0} → Pile E W → Pile E W
leaves p = pile p.kept p.taken [] p.took (p.counted - length p.offered) p.owes [] p.empty (p.left + length p.offered) p.fetched

abbrev pub LeftOn : {E X W : Type 0} → Step (Slot X W) → Me (Slot X W) (View E X W) → ℕ → Me (Slot X W) (View E X W) → Type 0
LeftOn st a r b = b ≡ (with_pile a.0 (leaves a.0.pile), rest a.1)

-- the bell is rung, which changes nothing that is known
abbrev pub Rang : {E X W : Type 0} → Step (Slot X W) → Me (Slot X W) (View E X W) → ℕ → Me (Slot X W) (View E X W) → Type 0
Rang st a r b = b ≡ a

-- what was due is charged
abbrev pub pays : {E : Type 0} → Tally E → Tally E
pays t = tally t.settled (t.fresh ++ t.due) [] false t.low t.over t.unset t.no_memory t.fault

-- the entries that were due are charged
abbrev pub Paid : {E X W : Type 0} → Step (Slot X W) → Me (Slot X W) (View E X W) → ℕ → Me (Slot X W) (View E X W) → Type 0
Paid st a r b = b ≡ (with_tally a.0 (pays a.0.tally), a.1)

-- the charged word was found above the limit
abbrev pub saw_over : {E : Type 0} → Tally E → Tally E
saw_over t = tally t.settled t.fresh t.due t.leave t.low (t.over + 1) t.unset t.no_memory t.fault

-- the charged word was found not above the limit
abbrev pub saw_low : {E : Type 0} → Tally E → Tally E
saw_low t = tally (t.settled ++ t.fresh) [] t.due true (t.low + 1) t.over t.unset t.no_memory t.fault

-- the charged word is read
abbrev pub ReadCharged : {E X W : Type 0} → ℕ → Step (Slot X W) → Me (Slot X W) (View E X W) → ℕ → Me (Slot X W) (View E X W) → Type 0
ReadCharged limit st a r b = (limit < r → b ≡ (with_tally a.0 (saw_over a.0.tally), a.1)) × (r ≤ limit → b ≡ (with_tally a.0 (saw_low a.0.tally), a.1))

-- this was found in the stop word, which then says that
abbrev pub saw_stopped : {E : Type 0} → Tally E → ℕ → ℕ → Tally E
saw_stopped t r n = tally t.settled t.fresh t.due t.leave t.low t.over (t.unset + one_if (r == 0)) (t.no_memory + one_if (n == 1)) (t.fault + one_if (n == 2))

-- this was found in the stop word
abbrev pub saw_stop : {E : Type 0} → Tally E → ℕ → Tally E
saw_stop t n = saw_stopped t n n

-- the stop word is read
abbrev pub ReadStop : {E X W : Type 0} → Step (Slot X W) → Me (Slot X W) (View E X W) → ℕ → Me (Slot X W) (View E X W) → Type 0
ReadStop st a r b = (r ≤ 2) × (b ≡ (with_tally a.0 (saw_stop a.0.tally r), a.1))

-- the stop word is set where it was 0, and else stays; whether it was 0, and what it then is, is known
abbrev pub Stopped : {E X W : Type 0} → Step (Slot X W) → Me (Slot X W) (View E X W) → ℕ → Me (Slot X W) (View E X W) → Type 0
Stopped st a r b = (r ≤ 2) × (b ≡ (with_tally a.0 (saw_stopped a.0.tally r (cond (r == 0) st.second r)), a.1))

-- all entries that were charged
abbrev pub all_charged : {E : Type 0} → Tally E → List (ℕ × E)
all_charged t = t.settled ++ t.fresh

-- nothing was charged or drawn
abbrev pub SameCharges : {E : Type 0} → Tally E → Tally E → Type 0
SameCharges t u = (all_charged u ≡ all_charged t) × (u.due ≡ t.due)

-- where there is leave, nothing was charged since the charged word was last found not above the limit
abbrev pub IsClear : {E : Type 0} → Tally E → Type 0
IsClear t = t.leave ≡ true → length t.fresh ≡ 0

-- there is leave: the charged word was found not above the limit once more, and the stop word unset once more
abbrev pub FindsLeave : {E : Type 0} → Tally E → Tally E → Type 0
FindsLeave t u = (u.leave ≡ true) × (u.low ≡ t.low + 1) × (u.unset ≡ t.unset + 1)

-- there is leave: since then the charged word was found not above the limit, and the stop word unset
abbrev pub HasNewLeave : {E : Type 0} → Tally E → Tally E → Type 0
HasNewLeave t u = (u.leave ≡ true) × (t.low < u.low) × (t.unset < u.unset)

-- no end was found: the charged word was not found above the limit, nor that the hub stops
abbrev pub FindsNoEnd : {E : Type 0} → Tally E → Tally E → Type 0
FindsNoEnd t u = (u.over ≡ t.over) × (u.no_memory + u.fault ≡ t.no_memory + t.fault)

-- an end was found: once more the charged word was above the limit, or the hub stops
abbrev pub FindsEnd : {E : Type 0} → Tally E → Tally E → Type 0
FindsEnd t u = (u.over ≡ t.over + 1) ⊎ (u.no_memory + u.fault ≡ t.no_memory + t.fault + 1)

-- the words were read some times, and nothing was charged or drawn
pub record Goes {E : Type 0} (t u : Tally E) : Type 0 where
  pub charged : u.settled ++ u.fresh ≡ t.settled ++ t.fresh
  pub due : u.due ≡ t.due
  pub fresh : length u.fresh ≤ length t.fresh
  pub clear : (t.leave ≡ true → length t.fresh ≡ 0) → u.leave ≡ true → length u.fresh ≡ 0

-- nothing was taken, and an end was found: nothing is pending, the limit is passed, or the hub stops
abbrev pub EndsBy : {E X W : Type 0} → View E X W → View E X W → Type 0
EndsBy v w =
    ((w.pile ≡ saw_empty v.pile) ⊎ (w.pile ≡ v.pile))
    × ((v.pile.empty < w.pile.empty) ⊎ ((v.tally.over < w.tally.over) ⊎ (v.tally.no_memory + v.tally.fault < w.tally.no_memory + w.tally.fault)))

-- a seat with 32 parts is cut off
abbrev pub cut_left : {E X W : Type 0} → View E X W → View E X W
cut_left v = view (v.parts - 32) v.entries v.held v.since v.tally v.pile

-- the seat that was cut off
abbrev pub cut_right : {E X W : Type 0} → View E X W
cut_right = view 32 [] [] [] blank bare

-- two tallies are made one
abbrev pub both : {E : Type 0} → Tally E → Tally E → Tally E
both t u = tally (t.settled ++ u.settled) (t.fresh ++ u.fresh) [] false 0 (t.over + u.over) 0 (t.no_memory + u.no_memory) (t.fault + u.fault)

-- two piles are made one
abbrev pub heaped : {E W : Type 0} → Pile E W → Pile E W → Pile E W
heaped p q = pile (hand p ++ hand q) [] [] [] (p.counted + q.counted) false [] (p.empty + q.empty) (p.left + q.left) (p.fetched + q.fetched)

-- two seats are made one
abbrev pub joined : {E X W : Type 0} → View E X W → View E X W → View E X W
joined v w = view (v.parts + w.parts) (v.entries ++ w.entries) [] [] (both v.tally w.tally) (heaped v.pile w.pile)

-- a seat that was joined to another has nothing left
abbrev pub spent : {E X W : Type 0} → View E X W
spent = view 0 [] [] [] blank bare

-- a seat comes that has nothing
abbrev pub Entered : {E X W : Type 0} → Step (Slot X W) → Me (Slot X W) (View E X W) → ℕ → Me (Slot X W) (View E X W) → Type 0
Entered st a r b = b ≡ (spent, [])

-- the slots of these shards are out, and empty
abbrev pub emptied : {X W : Type 0} → List (ℕ × X) → List (ℕ × Slot X W)
emptied [] = []
emptied (p ∷ ps) = (p.0, Shard None) ∷ emptied ps

-- all numbers are below the bound
abbrev pub below : {X : Type 0} → ℕ → List (ℕ × X) → Bool
below n [] = true
below n (p ∷ ps) = nat_lt p.0 n && below n ps

-- each number is above those that follow
abbrev pub descends : {X : Type 0} → List (ℕ × X) → Bool
descends [] = true
descends (p ∷ ps) = below p.0 ps && descends ps

-- what is in hand: each shard of the list, as these entries may have made it, and no other
abbrev pub Carries : {Store E X W : Type 0} → Meaning Store E X W → List E → List (ℕ × X) → (ℕ → Option X) → Type 0
Carries m since held in_hand = Each (λ k x. (y : _) × (in_hand k ≡ Some y) × Follows m since k x y) held × ((k : ℕ) → count k held ≡ 0 → in_hand k ≡ None)

-- The numbered entries are those of a list that ran, each at its number and each number once, and P holds of that list.
abbrev pub RanBy : {Store E X W : Type 0} → Meaning Store E X W → List X → List W → List (ℕ × E) → List X → List W → List (ℕ × W) → (List E → Type 0) → Type 0
RanBy {E = E} m opened works entries closed left hands P =
    (log : List E) × P log × Ran m opened works log closed left hands × (length entries ≡ length log) × Each (λ n e. slice_get log n ≡ Some e) entries × ((n : ℕ) → count n entries ≡ once_below n (length log))
