-- Each allowed step is among the candidates.
use Rattle.std.proofs.Common.{◌≡◌, ℕ, suc, Bool, true, false, not, ◌&&◌, ◌||◌, cond, List, [], ◌∷◌, ◌++◌, length, refl, ap, sym, ◌∙◌, subst, inl, inr}
use Rattle.std.specs.Prelude.{map as each, Option, Some, None, count_by, is_none, option_map, option_and_then, IsSome}
use Rattle.std.specs.Str.{bytes_eq}
use Rattle.std.proofs.lemmas.Slice.Eq.{bytes_eq-Decides}
use Rattle.std.proofs.lemmas.Bool.{eqb-true}
use Rattle.calculus.proofs.Members.{Every, Member, every-each, every-flat, every-up, member-each, member-flat}
use Rattle.calculus.specs.Tree.{Tree}
use Rattle.calculus.specs.Log.{Step}
use Rattle.calculus.specs.Rows.{Row}
use Rattle.calculus.specs.Steps.{Bag, standing, PlacedRow, Receiver, Datum, Meeting, with_id, row_choices, differ, as_receiver, as_datum, as_data, bindings_of, all_bindings, meet, meet_rows, meet_for, first_there, meeting, same_meeting, right_repeat}
use Rattle.calculus.specs.Laws.{CandidatesSuffice, DataDiffer, EndIsDecided}
use Rattle.calculus.specs.Runs.{Verdict, done, exhausted, faulted, verdict}
use Rattle.calculus.specs.Candidates.{id_lists, next_step, row_steps, candidates, none_allowed, is_done}

-- a value that an option's value gave
pub and_then-inv : {A B : Type 0} (x : Option A) (f : A → Option B) (m : B) → option_and_then f x ≡ Some m → (y : A) × (x ≡ Some y) × (f y ≡ Some m)
and_then-inv None f m e = cc
and_then-inv (Some y) f m e = (y, refl, e)

pub map-inv : {A B : Type 0} (x : Option A) (f : A → B) (m : B) → option_map f x ≡ Some m → (y : A) × (x ≡ Some y) × (f y ≡ m)
map-inv None f m e = cc
map-inv (Some y) f m e = (y, refl, cc e)

-- what a held row is: a row of the bag with this id
abbrev IsHeld : List Row → List ℕ → PlacedRow → Type 0
IsHeld b x h = Member h.1 b × (x ≡ h.1.id)

with_id-held : (x : List ℕ) (i : ℕ) (b : List Row) → Every (IsHeld b x) (with_id x i b)
with_id-held x i [] = tt
with_id-held x i (r ∷ rs) = go (every-up (IsHeld rs x) (IsHeld (r ∷ rs) x) (λ h k. (inr k.0, k.1)) (with_id x (suc i) rs) (with_id-held x (suc i) rs)) (bytes_eq x r.id) refl
  where
    go : Every (IsHeld (r ∷ rs) x) (with_id x (suc i) rs) → (t : Bool) → bytes_eq x r.id ≡ t → Every (IsHeld (r ∷ rs) x) (cond t ((i, r) ∷ with_id x (suc i) rs) (with_id x (suc i) rs))
    go up true e = ((inl refl, (bytes_eq-Decides x r.id).0 e), up)
    go up false e = up

-- the rows of a choice have these ids, and are in the bag
abbrev pub IsChoice : List Row → List (List ℕ) → List PlacedRow → Type 0
IsChoice b xs hs = (xs ≡ each (λ h. h.1.id) hs) × Every (λ h. Member h.1 b) hs

pub row_choices-hold : (b : List Row) (xs : List (List ℕ)) → Every (IsChoice b xs) (row_choices b xs)
row_choices-hold b [] = ((refl, tt), tt)
row_choices-hold b (x ∷ xs) =
    every-flat (IsChoice b (x ∷ xs)) (IsHeld b x) (λ r. each (λ rs. r ∷ rs) (row_choices b xs))
    (λ r k. every-each (IsChoice b (x ∷ xs)) (IsChoice b xs) (λ rs. r ∷ rs) (λ rs c. (cc (k.1, c.0), (k.0, c.1))) (row_choices b xs) (row_choices-hold b xs))
    (with_id x 0 b) (with_id-held x 0 b)

count_in : {A : Type 0} → Option (List A) → ℕ
count_in None = 0
count_in (Some xs) = length xs

some-length : {A : Type 0} (xs ys : List A) → Some xs ≡ Some ys → length xs ≡ length ys
unfolding count_in
some-length xs ys e = ap count_in e

as_data-length : (hs : List PlacedRow) (ds : List Datum) → as_data hs ≡ Some ds → length hs ≡ length ds
as_data-length [] ds e = some-length [] ds e
as_data-length (h ∷ hs) ds e =
    let i = and_then-inv (as_datum h.1.part) (λ d. option_and_then (λ zs. Some (d ∷ zs)) (as_data hs)) ds e in
    let j = and_then-inv (as_data hs) (λ zs. Some (i.0 ∷ zs)) ds i.2 in
    ap suc (as_data-length hs j.0 j.1) ∙ some-length (i.0 ∷ j.0) ds j.2

all_taken-length : (bs : List Tree) (ds : List Datum) (xs : List Tree) → all_bindings bs ds ≡ Some xs → length bs ≡ length ds
all_taken-length [] [] xs e = refl
all_taken-length [] (d ∷ ds) xs e = cc
all_taken-length (b ∷ bs) [] xs e = cc
all_taken-length (b ∷ bs) (d ∷ ds) xs e =
    let i = and_then-inv (bindings_of b d) (λ ys. option_and_then (λ zs. Some (ys ++ zs)) (all_bindings bs ds)) xs e in
    let j = and_then-inv (all_bindings bs ds) (λ zs. Some (i.0 ++ zs)) xs i.2 in
    ap suc (all_taken-length bs ds j.0 j.1)

-- what a meeting shows of its receiver and the number of its data
meet-shows : (h : PlacedRow) (hs : List PlacedRow) (m : Meeting) → meet_rows (h ∷ hs) ≡ Some m → (r : Receiver) × (as_receiver h.1.part ≡ Some r) × (length r.binds ≡ length hs)
meet-shows h hs m e =
    let i = and_then-inv (as_receiver h.1.part) _ m e in
    let j = and_then-inv (as_data hs) (meet h hs i.0) m i.2 in
    let k = and_then-inv (all_bindings i.0.binds j.0) _ m j.2 in
    (i.0, i.1, all_taken-length i.0.binds j.0 k.0 k.1 ∙ sym (as_data-length hs j.0 j.1))

-- the ids of rows of a bag are among the lists of as many ids
ids-among : (b : List Row) (hs : List PlacedRow) → Every (λ h. Member h.1 b) hs → Member (each (λ h. h.1.id) hs) (id_lists (length hs) b)
ids-among b [] k = inl refl
ids-among b (h ∷ hs) k =
    member-flat (λ r. each (λ xs. r.id ∷ xs) (id_lists (length hs) b)) h.1 (h.1.id ∷ each (λ g. g.1.id) hs) b k.0
    (member-each (λ xs. h.1.id ∷ xs) (each (λ g. g.1.id) hs) (id_lists (length hs) b) (ids-among b hs k.1))

-- a choice that meets has what every choice has
pub first-meets : (made : List Step) (s : Step) (Q : List PlacedRow → Type 0) (hss : List (List PlacedRow)) (m : Meeting) → Every Q hss → first_there (each (meet_for made s) hss) ≡ Some m → (hs : List PlacedRow) × Q hs × (meet_for made s hs ≡ Some m)
first-meets made s Q [] m k e = cc
first-meets made s Q (hs ∷ hss) m k e = go (first-meets made s Q hss m k.1) (meet_for made s hs) refl e
  where
    go : (first_there (each (meet_for made s) hss) ≡ Some m → (hs : List PlacedRow) × Q hs × (meet_for made s hs ≡ Some m)) → (o : Option Meeting) → meet_for made s hs ≡ o → first_there (o ∷ each (meet_for made s) hss) ≡ Some m → (hs : List PlacedRow) × Q hs × (meet_for made s hs ≡ Some m)
    go next None d f = next f
    go next (Some n) d f = (hs, k.0, d ∙ f)

pub only_true : {A : Type 0} (t : Bool) (x : Option A) (m : A) → cond t x None ≡ Some m → (t ≡ true) × (x ≡ Some m)
only_true true x m e = (refl, e)
only_true false x m e = cc

-- a step that meets names a receiver of the bag and as many rows of it as that has binds
pub record Names (b : List Row) (s : Step) : Type 0 where
  pub row : Row
  pub there : Member row b
  pub id : s.receiver ≡ row.id
  pub receiver : Receiver
  pub is : as_receiver row.part ≡ Some receiver
  pub ids : Member s.data_ids (id_lists (length receiver.binds) b)

names-of-choice : (b : List Row) (s : Step) (hs : List PlacedRow) (m : Meeting) → IsChoice b (s.receiver ∷ s.data_ids) hs → meet_rows hs ≡ Some m → Names b s
names-of-choice b s [] m k e = cc
names-of-choice b s (h ∷ hs) m k e =
    let i = meet-shows h hs m e in
    let whole : s.receiver ∷ s.data_ids ≡ h.1.id ∷ each (λ g. g.1.id) hs = k.0 in
    let first : s.receiver ≡ h.1.id = cc whole in
    let others : each (λ g. g.1.id) hs ≡ s.data_ids = cc whole in
    let among : Member s.data_ids (id_lists (length hs) b) = subst (λ xs. Member xs (id_lists (length hs) b)) others (ids-among b hs k.1.1) in
    record {
      row = h.1;
      there = k.1.0;
      id = first;
      receiver = i.0;
      is = i.1;
      ids = subst (λ n. Member s.data_ids (id_lists n b)) (sym i.2) among;
    }

pub and-first : (x y : Bool) → x && y ≡ true → x ≡ true
and-first true y e = refl
and-first false y e = cc

and-second : (x y : Bool) → x && y ≡ true → y ≡ true
and-second true y e = e
and-second false y e = cc

-- a step with the right repeat number is the next one of its receiver and data
is-next : (made : List Step) (s : Step) → s.repeat ≡ count_by (same_meeting s) made → s ≡ next_step made s.receiver s.data_ids
is-next made s e = ap (λ n. record { receiver = s.receiver; data_ids = s.data_ids; repeat = n }) e

-- how a step is made: what it names, and that its repeat number is right
pub record Shown (b : Bag) (made : List Step) (s : Step) : Type 0 where
  pub names : Names (standing b) s
  pub repeats : s.repeat ≡ count_by (same_meeting s) made

shown : (b : Bag) (made : List Step) (s : Step) (m : Meeting) → meeting b made s ≡ Some m → Shown b made s
unfolding meeting
shown b made s m e =
    let f = only_true (differ s.data_ids) _ m e in
    let c = first-meets made s (IsChoice (standing b) (s.receiver ∷ s.data_ids)) (row_choices (standing b) (s.receiver ∷ s.data_ids)) m (row_choices-hold (standing b) (s.receiver ∷ s.data_ids)) f.1 in
    let i = and_then-inv (meet_rows c.0) _ m c.2 in
    let r = only_true (right_repeat made s i.0) (Some i.0) m i.2 in
    record {
      names = names-of-choice (standing b) s c.0 i.0 c.1 i.1;
      repeats = eqb-true s.repeat (count_by (same_meeting s) made) (and-first _ _ r.0);
    }

-- each allowed step is a candidate
pub allowed-among : (b : Bag) (made : List Step) (s : Step) (m : Meeting) → meeting b made s ≡ Some m → Member s (candidates b made)
allowed-among b made s m e =
    let h = shown b made s m e in
    let n = h.names in
    let rows : List Row = standing b in
    let made_so : next_step made n.row.id s.data_ids ≡ s = ap (λ x. next_step made x s.data_ids) (sym n.id) ∙ sym (is-next made s h.repeats) in
    let here : Member s (each (next_step made n.row.id) (id_lists (length n.receiver.binds) rows)) =
    subst (λ x. Member x (each (next_step made n.row.id) (id_lists (length n.receiver.binds) rows))) made_so
    (member-each (next_step made n.row.id) s.data_ids (id_lists (length n.receiver.binds) rows) n.ids) in
    member-flat (λ r. row_steps rows made r (as_receiver r.part)) n.row s rows n.there
    (subst (λ o. Member s (row_steps rows made n.row o)) (sym n.is) here)

none-of : (b : Bag) (made : List Step) (s : Step) (ss : List Step) → Member s ss → none_allowed b made ss ≡ true → is_none (meeting b made s) ≡ true
none-of b made s [] m h = absurd m
none-of b made s (u ∷ us) (inl e) h = subst (λ x. is_none (meeting b made x) ≡ true) (sym e) (and-first _ _ h)
none-of b made s (u ∷ us) (inr m) h = none-of b made s us m (and-second _ _ h)

pub candidates_suffice : CandidatesSuffice
candidates_suffice b made h s = go (meeting b made s) refl
  where
    go : (o : Option Meeting) → meeting b made s ≡ o → meeting b made s ≡ None
    go None e = e
    go (Some m) e = cc (none-of b made s (candidates b made) (allowed-among b made s m e) h, e)

-- the data of an allowed step differ
pub data_differ : DataDiffer
unfolding meeting
data_differ a s h = go (differ s.data_ids) (first_there (each (meet_for a.made s) (row_choices (standing a.bag) (s.receiver ∷ s.data_ids)))) h
  where
    go : (d : Bool) (x : Option Meeting) → IsSome (cond d x None) → d ≡ true
    go true x h = refl
    go false x h = cc

all_none : (b : Bag) (made ss : List Step) → ((s : Step) → meeting b made s ≡ None) → none_allowed b made ss ≡ true
all_none b made [] h = refl
all_none b made (s ∷ ss) h = cc (h s, all_none b made ss h)

ended_for : (v : Verdict) (b : Bag) (made : List Step) → not (is_done v) || none_allowed b made (candidates b made) ≡ true → v ≡ done → (s : Step) → meeting b made s ≡ None
ended_for done b made h e = candidates_suffice b made h
ended_for exhausted b made h e = cc
ended_for (faulted i f) b made h e = cc

end_for : (v : Verdict) (b : Bag) (made : List Step) → (v ≡ done → (s : Step) → meeting b made s ≡ None) → not (is_done v) || none_allowed b made (candidates b made) ≡ true
end_for done b made h = all_none b made (candidates b made) (h refl)
end_for exhausted b made h = refl
end_for (faulted i f) b made h = refl

pub end_is_decided : EndIsDecided
end_is_decided p cap a = (ended_for (verdict p cap a) a.bag a.made, end_for (verdict p cap a) a.bag a.made)
