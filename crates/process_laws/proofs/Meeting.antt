-- In a bag of closed rows, the body of each allowed step is closed once its bindings are put in.
use Rattle.std.proofs.Common.{ℕ, suc, Bool, true, false, cond, List, [], ◌∷◌, ◌++◌, reverse, map as each, refl, arith}
use Rattle.std.specs.Prelude.{⊤, Option, Some, None, option_and_then}
use Rattle.std.specs.Str.{bytes_eq}
use Rattle.calculus.proofs.Members.{Every, every-append, every-each, every-flat}
use Rattle.calculus.specs.Tree.{row, send, receive, bind, Tree, node, Trees, none, also}
use Rattle.calculus.specs.Shape.{held, listed, at}
use Rattle.calculus.specs.Congruence.{congruent}
use Rattle.calculus.specs.Variables.{binders}
use Rattle.calculus.specs.Form.{term, part, a_bind, name_pat, row_of, all, Scope, Fits, Hold, IsClosed}
use Rattle.calculus.specs.Substitution.{put}
use Rattle.calculus.specs.Matching.{Bindings, bind_matches, first_of_all}
use Rattle.calculus.specs.Log.{Step}
use Rattle.calculus.specs.Rows.{Row, stdout, stdout_ack}
use Rattle.calculus.specs.Steps.{Bag, standing, PlacedRow, with_id, row_choices, differ, Receiver, Datum, as_receiver, as_datum, as_data, bindings_of, all_bindings, Meeting, receiver_leaving, data_leaving, meet, meet_rows, right_repeat, meet_for, first_there, meeting}
use Rattle.calculus.proofs.Digests.{digest-fits}
use Rattle.process_laws.proofs.UnfoldingPatterns.{the_pats, IsTidy}
use Rattle.process_laws.proofs.Goodness.{a_term, IsGood, AreGood}
use Rattle.process_laws.proofs.Binding.{BindGood, bind-binds}
use Rattle.process_laws.proofs.Fitting.{fits-tidy}
use Rattle.process_laws.proofs.Closing.{fresh-closed, IsClosedPart, closed-collections, term-good, each-closed, put-closed}

-- this is so of what is there
abbrev pub IfThere : {A : Type 0} → (A → Type 0) → Option A → Type 0
IfThere P None = ⊤
IfThere P (Some x) = P x

then-if : {A B : Type 0} (P : A → Type 0) (Q : B → Type 0) (o : Option A) (f : A → Option B) → IfThere P o → ((x : A) → P x → IfThere Q (f x)) → IfThere Q (option_and_then f o)
then-if P Q None f h g = tt
then-if P Q (Some x) f h g = g x h

cond-if : {A : Type 0} (P : A → Type 0) (b : Bool) (x : Option A) → IfThere P x → IfThere P (cond b x None)
cond-if P true x h = h
cond-if P false x h = tt

first-if : {A : Type 0} (P : A → Type 0) (xs : List (Option A)) → Every (IfThere P) xs → IfThere P (first_there xs)
first-if P [] h = tt
first-if P (None ∷ xs) h = first-if P xs h.1
first-if P (Some x ∷ xs) h = h.0

-- a row's part is closed
abbrev pub IsClosedRow : Row → Type 0
IsClosedRow r = Fits part [] r.part

-- a closed row, at any place
abbrev IsClosedHeld : PlacedRow → Type 0
IsClosedHeld h = IsClosedRow h.1

-- the built-in receivers
pub stdout-closed : IsClosedRow stdout
stdout-closed = ((omega arith, omega arith), ((tt, ((tt, (fresh-closed _ (digest-fits _), ((tt, (((omega arith, omega arith), ((tt, tt), tt)), tt)), ((tt, tt), tt)))), tt)), ((tt, tt), tt)))

pub stdout_ack-closed : IsClosedRow stdout_ack
stdout_ack-closed = (
  (omega arith, omega arith),
  (
    (tt, ((tt, (fresh-closed _ (digest-fits _), ((tt, (((omega arith, omega arith), ((tt, tt), tt)), (((omega arith, omega arith), ((tt, tt), tt)), tt))), ((tt, tt), tt)))), tt)),
    ((tt, ((tt, ((tt, ((refl, tt), tt)), ((tt, ((tt, tt), tt)), tt))), tt)), tt),
  ),
)

-- the patterns of binds that fit
abbrev HaveTidyPatterns : List Tree → Type 0
HaveTidyPatterns bs = Every (λ b. IsTidy the_pats (at 1 (held b))) bs

bind-tidy : (b : Tree) → Fits a_bind [] b → IsTidy the_pats (at 1 (held b))
bind-tidy (node bind (also c (also q (also r none)))) h = fits-tidy (row_of name_pat) the_pats [] q tt h.1.1.0
bind-tidy (node bind none) h = absurd h.1
bind-tidy (node bind (also c none)) h = absurd h.1.1
bind-tidy (node bind (also c (also q none))) h = absurd h.1.1.1
bind-tidy (node bind (also c (also q (also r (also x xs))))) h = absurd h.1.1.1.1
bind-tidy (node _ ts) h = absurd h.1

binds-tidy : (bs : Trees) → Hold (all a_bind) [] [] bs → HaveTidyPatterns (listed bs)
binds-tidy none h = tt
binds-tidy (also b bs) h = (bind-tidy b h.0, binds-tidy bs h.1)

args-good : (ts : Trees) → Hold (all term) [] [] ts → AreGood IsClosedPart a_term (listed ts)
args-good none h = tt
args-good (also t ts) h = (term-good t h.0, args-good ts h.1)

with-id-closed : (x : List ℕ) (i : ℕ) (rs : List Row) → Every IsClosedRow rs → Every IsClosedHeld (with_id x i rs)
with-id-closed x i [] h = tt
with-id-closed x i (r ∷ rs) h =
    elim (bytes_eq x r.id) as (λ (b : Bool). Every IsClosedHeld (cond b ((i, r) ∷ with_id x (suc i) rs) (with_id x (suc i) rs))) [ true ↦ (h.0, with-id-closed x (suc i) rs h.1) | false ↦ with-id-closed x (suc i) rs h.1 ]

choices-closed : (b : List Row) (xs : List (List ℕ)) → Every IsClosedRow b → Every (Every IsClosedHeld) (row_choices b xs)
choices-closed b [] h = (tt, tt)
choices-closed b (x ∷ xs) h =
    every-flat (Every IsClosedHeld) IsClosedHeld (λ r. each (λ rs. r ∷ rs) (row_choices b xs)) (λ r k. every-each (Every IsClosedHeld) (Every IsClosedHeld) (λ rs. r ∷ rs) (λ rs l. (k, l)) (row_choices b xs) (choices-closed b xs h)) (with_id x 0 b) (with-id-closed x 0 b h)

-- a body in some scope
abbrev BodyFits : Tree → Type 0
BodyFits t = (v : Scope) × Fits term v t

-- a receiver with such patterns and such a body
abbrev ReceiverFits : Receiver → Type 0
ReceiverFits r = HaveTidyPatterns r.binds × BodyFits r.body

-- data with closed arguments
abbrev HasClosedArguments : Datum → Type 0
HasClosedArguments d = AreGood IsClosedPart a_term d.args

receiver-fits : (t : Tree) → Fits part [] t → IfThere ReceiverFits (as_receiver t)
receiver-fits (node (receive k) (also (node row bs) (also body none))) h = (binds-tidy bs h.1.0.1, (reverse (binders (receive k) (also (node row bs) (also body none))) ++ [], h.1.1.0))
receiver-fits (node (receive k) none) h = absurd h.1
receiver-fits (node (receive k) (also b none)) h = absurd h.1.1
receiver-fits (node (receive k) (also (node _ bs) (also body none))) h = absurd h.1.0.1
receiver-fits (node (receive k) (also b (also body (also c cs)))) h = absurd h.1.1.1
receiver-fits (node _ ts) h = tt

datum-closed : (t : Tree) → Fits part [] t → IfThere HasClosedArguments (as_datum t)
datum-closed (node (send q) (also c (also (node row xs) none))) h = args-good xs h.1.1.0.1
datum-closed (node (send q) none) h = absurd h.1
datum-closed (node (send q) (also c none)) h = absurd h.1.1
datum-closed (node (send q) (also c (also (node _ xs) none))) h = absurd h.1.1.0.1
datum-closed (node (send q) (also c (also x (also y ys)))) h = absurd h.1.1.1
datum-closed (node _ ts) h = tt

data-closed : (hs : List PlacedRow) → Every IsClosedHeld hs → IfThere (Every HasClosedArguments) (as_data hs)
data-closed [] h = tt
data-closed (x ∷ hs) h =
    then-if HasClosedArguments (Every HasClosedArguments) (as_datum x.1.part) (λ d. option_and_then (λ ds. Some (d ∷ ds)) (as_data hs)) (datum-closed x.1.part h.0)
    (λ d k. then-if (Every HasClosedArguments) (Every HasClosedArguments) (as_data hs) (λ ds. Some (d ∷ ds)) (data-closed hs h.1) (λ ds l. (k, l)))

first-good : (ms : List Bindings) → BindGood IsClosedPart closed-collections ms → IfThere (AreGood IsClosedPart a_term) (first_of_all ms)
first-good [] h = tt
first-good (b ∷ ms) h = h.0

taken-good : (b : Tree) (d : Datum) → IsTidy the_pats (at 1 (held b)) → HasClosedArguments d → IfThere (AreGood IsClosedPart a_term) (bindings_of b d)
taken-good b d h k = cond-if (AreGood IsClosedPart a_term) (congruent (at 0 (held b)) d.channel) (first_of_all (bind_matches b d.args)) (first-good (bind_matches b d.args) (bind-binds IsClosedPart closed-collections b d.args h k))

all-taken-good : (bs : List Tree) (ds : List Datum) → HaveTidyPatterns bs → Every HasClosedArguments ds → IfThere (AreGood IsClosedPart a_term) (all_bindings bs ds)
all-taken-good [] [] h k = tt
all-taken-good [] (d ∷ ds) h k = tt
all-taken-good (b ∷ bs) [] h k = tt
all-taken-good (b ∷ bs) (d ∷ ds) h k =
    then-if (AreGood IsClosedPart a_term) (AreGood IsClosedPart a_term) (bindings_of b d) (λ xs. option_and_then (λ ys. Some (xs ++ ys)) (all_bindings bs ds)) (taken-good b d h.0 k.0)
    (λ xs x. then-if (AreGood IsClosedPart a_term) (AreGood IsClosedPart a_term) (all_bindings bs ds) (λ ys. Some (xs ++ ys)) (all-taken-good bs ds h.1 k.1) (λ ys y. every-append (IsGood IsClosedPart a_term) xs ys x y))

-- a meeting's body and what is bound for it
abbrev MeetingFits : Meeting → Type 0
MeetingFits m = BodyFits m.receiver.body × AreGood IsClosedPart a_term m.bindings

meet-fits : (h : PlacedRow) (hs : List PlacedRow) (r : Receiver) (ds : List Datum) → ReceiverFits r → Every HasClosedArguments ds → IfThere MeetingFits (meet h hs r ds)
meet-fits h hs r ds k l =
    then-if (AreGood IsClosedPart a_term) MeetingFits (all_bindings r.binds ds) (λ xs. Some (record { receiver = r; place = h.0; sends = ds; bindings = xs; leaving = receiver_leaving r.kind h ++ data_leaving r.kind hs ds })) (all-taken-good r.binds ds k.0 l) (λ xs x. (k.1, x))

rows-meet-fits : (hs : List PlacedRow) → Every IsClosedHeld hs → IfThere MeetingFits (meet_rows hs)
rows-meet-fits [] k = tt
rows-meet-fits (h ∷ hs) k =
    then-if ReceiverFits MeetingFits (as_receiver h.1.part) (λ r. option_and_then (meet h hs r) (as_data hs)) (receiver-fits h.1.part k.0)
    (λ r x. then-if (Every HasClosedArguments) MeetingFits (as_data hs) (meet h hs r) (data-closed hs k.1) (λ ds y. meet-fits h hs r ds x y))

meet-for-fits : (made : List Step) (s : Step) (hs : List PlacedRow) → Every IsClosedHeld hs → IfThere MeetingFits (meet_for made s hs)
meet-for-fits made s hs k = then-if MeetingFits MeetingFits (meet_rows hs) (λ m. cond (right_repeat made s m) (Some m) None) (rows-meet-fits hs k) (λ m x. cond-if MeetingFits (right_repeat made s m) (Some m) x)

pub standing-closed : (b : Bag) → Every IsClosedRow b.kept → Every IsClosedRow b.offered → Every IsClosedRow (standing b)
standing-closed b h k = every-append IsClosedRow b.kept (stdout ∷ stdout_ack ∷ b.offered) h (stdout-closed, (stdout_ack-closed, k))

-- a meeting's body is closed once its bindings are put in
abbrev pub MeetingCloses : Meeting → Type 0
MeetingCloses m = IsClosed (put m.bindings m.receiver.body)

closes : (m : Meeting) → MeetingFits m → MeetingCloses m
closes m k = put-closed k.0.0 m.receiver.body m.bindings k.0.1 (each-closed m.bindings k.1)

if-up : {A : Type 0} (P Q : A → Type 0) (o : Option A) → ((x : A) → P x → Q x) → IfThere P o → IfThere Q o
if-up P Q None f h = tt
if-up P Q (Some x) f h = f x h

pub meeting-closes : (b : Bag) (made : List Step) (s : Step) → Every IsClosedRow (standing b) → IfThere MeetingCloses (meeting b made s)
unfolding meeting
meeting-closes b made s h =
    if-up MeetingFits MeetingCloses (cond (differ s.data_ids) (first_there (each (meet_for made s) (row_choices (standing b) (s.receiver ∷ s.data_ids)))) None) closes
    (cond-if MeetingFits (differ s.data_ids) (first_there (each (meet_for made s) (row_choices (standing b) (s.receiver ∷ s.data_ids))))
    (first-if MeetingFits (each (meet_for made s) (row_choices (standing b) (s.receiver ∷ s.data_ids)))
    (every-each (IfThere MeetingFits) (Every IsClosedHeld) (meet_for made s) (λ hs k. meet-for-fits made s hs k) (row_choices (standing b) (s.receiver ∷ s.data_ids)) (choices-closed (standing b) (s.receiver ∷ s.data_ids) h))))

-- of rows that meet, wherever they stand
pub rows-close : (hs : List PlacedRow) → Every (λ h. IsClosedRow h.1) hs → IfThere MeetingCloses (meet_rows hs)
rows-close hs k = if-up MeetingFits MeetingCloses (meet_rows hs) closes (rows-meet-fits hs k)

-- and they bind closed processes
pub rows-bind : (hs : List PlacedRow) → Every (λ h. IsClosedRow h.1) hs → IfThere (λ m. Every IsClosed m.bindings) (meet_rows hs)
rows-bind hs k = if-up MeetingFits (λ m. Every IsClosed m.bindings) (meet_rows hs) (λ m x. each-closed m.bindings x.1) (rows-meet-fits hs k)
