-- What a hub leaves is what its seats drew and found.
use Rattle.std.proofs.Common.{◌≡◌, ◌<◌, ◌≤◌, ◌∙◌, ◌++◌, ◌+◌, ℕ, List, [], length, map, max, Option, Some, sym, ap, subst, refl, append-nil, get_or}
use Rattle.std.specs.Prelude.{slice_get, IsSome}
use Rattle.std.specs.List.{All}
use Rattle.std.proofs.lemmas.List.{length-map}
use mathlib.Core.Option.{some}
use lib.ListN.{get_elem?}
use Rattle.hub_rule.specs.declared.slot.Slot.{Slot}
use Rattle.hub_rule.specs.declared.rule.Opened.{Opened}
use Rattle.hub_rule.specs.declared.terms.StopCause.{StopCause}
use Rattle.hub_rule.specs.declared.terms.StopCause.TheVariants.{Fault, NoMemory}
use Rattle.hub_rule.specs.Counts.{count as count_at, once_below, total, things_of, all_of, StandIn, EachOnceBelow}
use Rattle.hub_rule.specs.Stops.{cause_at, FaultCause}
use Rattle.hub_rule.specs.Meaning.{Meaning, ArePending}
use Rattle.hub_rule.specs.Works.{LiesOn, LiesAt, DesksFit}
use Rattle.hub_rule.proofs.Sums.{empty_list}
use Rattle.hub_rule.proofs.Ends.{AtEnd, shown_all, lies_all, fits_left, length_lists, things_of_lists, fault_told, stop_is, some_of, word_is, total_all_of, total_plus, charged_total, same_things, each_of, length_all_of}
use Rattle.group_locks.specs.declared.state.SeatState.{SeatState}
use Rattle.group_locks.specs.Seats.{drawn_by, hand_of, pile_of, empty_of, over_of, memory_of, faults_of, stops_of, settled_by, fresh_by, gathered, heap_of}
use Rattle.group_locks.specs.Seats.{opened_works, spent_of, limit_of, RanFrom, IsCharged, SettledWithin, EmptyWhereFound, FitsLeft}
use Rattle.group_locks.specs.Ends.{HasEnded}

module _ {A Store E X W : Type 0} (m : Meaning Store E X W) (key : Opened X W) (f : A → SeatState E X W) (ss : List A) (all : List (ℕ × E)) (words : List ℕ) (slots : List (Slot X W)) (a : AtEnd m (key.shards.value.items, key.works.value.items) key.terms all (gathered f ss) (heap_of f ss) words slots) where
  -- the works of each desk
  desks_many : length (map things_of a.desks) ≡ 32
  desks_many = length-map a.desks things_of ∙ a.many

  desks_lie : LiesOn slots (map things_of a.desks)
  desks_lie = lies_all slots a.desks a.many a.lies

  -- there is room for them
  pub desks_fit : (now : List (Slot X W)) (room : ℕ) → now ≡ slots → FitsLeft (length (opened_works key)) f ss room → DesksFit now room
  desks_fit now room same r =
      let P : List (Slot X W) → Type 0 = λ l. LiesOn l (map things_of a.desks) in
      let long : length (all_of (λ l. l) (map things_of a.desks)) ≡ total length a.desks = length_lists a.desks in
      let fits : total length a.desks ≤ room = fits_left (total length a.desks) (total (λ s. (pile_of (f s)).fetched) ss) (total (λ s. (pile_of (f s)).left) ss) (length (opened_works key)) r.0 room a.moved a.small r.1 r.2 r.3 in
      let Q : ℕ → Type 0 = λ n. n ≤ room in
      (map things_of a.desks, desks_many, subst P (sym same) desks_lie, subst Q (sym long) fits)

  -- they are what is left
  left_lies : (now : List (Slot X W)) (left : List W) → now ≡ slots → ((ls : List (List W)) → length ls ≡ 32 → LiesOn now ls → left ≡ all_of (λ l. l) ls) → left ≡ all_of (λ l. l) (map things_of a.desks)
  left_lies now left same lies = let P : List (Slot X W) → Type 0 = λ l. LiesOn l (map things_of a.desks) in lies (map things_of a.desks) desks_many (subst P (sym same) desks_lie)

  -- so many entries were drawn
  all_long : all ≡ all_of (λ s. drawn_by (f s)) ss → length all ≡ total (λ s. length (drawn_by (f s))) ss
  all_long drawn = ap {A = List (ℕ × E)} length drawn ∙ length_all_of (λ s. drawn_by (f s)) ss

  -- each of as many places has one
  pub placed_once : (places : ℕ) → all ≡ all_of (λ s. drawn_by (f s)) ss → places ≡ total (λ s. length (drawn_by (f s))) ss → EachOnceBelow places all
  placed_once places drawn is n = a.once n ∙ ap {A = ℕ} (once_below n) (sym a.long ∙ (all_long drawn ∙ sym is))

  -- the entries in order are those of the log
  in_log : (entries : List E) → length entries ≡ length all → StandIn entries all → things_of a.log ≡ entries
  in_log entries long stand = same_things entries (things_of a.log) all long a.long a.once stand a.numbers

  ran_by_log : (closed : List X) (left : List W) → length closed ≡ 64 → ((k : ℕ) (x : X) → slice_get closed k ≡ Some x → LiesAt slots k x) → left ≡ all_of (λ l. l) (map things_of a.desks)
      → RanFrom m key (things_of a.log) closed left (all_of (λ s. hand_of (f s)) ss)
  ran_by_log closed left long items lies =
      let hands : List (ℕ × W) = all_of (λ s. hand_of (f s)) ss in
      let P : List (ℕ × W) → Type 0 = λ l. ArePending m (opened_works key) a.log (all_of (λ d. d) a.desks ++ l) in
      record {
        store = a.store;
        log = a.log;
        rests = all_of (λ d. d) a.desks;
        same = refl;
        starts = (a.opens, a.starts);
        allowed = a.legal;
        closes = shown_all m _ _ _ _ _ _ _ _ a long items;
        lies = things_of_lists a.desks ∙ sym lies;
        pending = subst P (append-nil hands) a.pends;
      }

  none_left : (left : List W) → left ≡ all_of (λ l. l) (map things_of a.desks) → EmptyWhereFound f ss left
  none_left left lies =
      let hands : List (ℕ × W) = all_of (λ s. hand_of (f s)) ss in
      some_of (λ s. empty_of (f s)) ((left ≡ []) × (hands ≡ [])) ss (λ more.
      let z = a.empty more in
      let alone : length (hands ++ []) ≡ 0 = z.1 in (
        lies ∙ empty_list (all_of (λ l. l) (map things_of a.desks)) (length_lists a.desks ∙ z.0),
        empty_list hands (sym (ap {A = List (ℕ × W)} length (append-nil hands)) ∙ alone),
      ))

  -- what is charged, and the limit
  charge_paid : (charged : ℕ) → get_or words 1 0 ≡ charged → IsCharged m.price key f ss charged
  charge_paid charged is = sym is ∙ (a.paid ∙ ap {A = ℕ} (λ n. spent_of key + n) (charged_total m.price (λ s. settled_by (f s)) (λ s. fresh_by (f s)) ss))

  charge_bounded : SettledWithin m.price key f ss
  charge_bounded =
      let P : ℕ → Type 0 = λ n. spent_of key + n ≤ max (spent_of key) (limit_of key) in subst P (total_all_of (λ p. m.price p.1) (λ s. settled_by (f s)) ss) a.bounded

  charge_over : (charged : ℕ) → get_or words 1 0 ≡ charged → All (λ s. 0 < over_of (f s) → limit_of key < charged) ss
  charge_over charged is =
      let P : ℕ → Type 0 = λ n. limit_of key < n in some_of (λ s. over_of (f s)) (limit_of key < charged) ss (λ more. subst P is (a.over more))

  -- the cause of the stop
  cause_found : (cause : Option StopCause) → cause ≡ cause_at (get_or words 2 0) → All (λ s. 0 < stops_of (f s) → IsSome cause) ss
  cause_found cause is =
      some_of (λ s. stops_of (f s)) (IsSome cause) ss (λ more.
      stop_is (total (λ s. memory_of (f s)) ss) (total (λ s. faults_of (f s)) ss) (get_or words 2 0) cause is a.no_memory a.fault
      (let P : ℕ → Type 0 = λ n. 0 < n in subst P (total_plus (λ s. memory_of (f s)) (λ s. faults_of (f s)) ss) more))

  cause_memory : (cause : Option StopCause) → cause ≡ cause_at (get_or words 2 0) → All (λ s. 0 < memory_of (f s) → cause ≡ Some NoMemory) ss
  cause_memory cause is = some_of (λ s. memory_of (f s)) (cause ≡ Some NoMemory) ss (λ more. is ∙ ap {A = ℕ} cause_at (a.no_memory more))

  cause_fault : (cause : Option StopCause) → cause ≡ cause_at (get_or words 2 0) → All (λ s. 0 < faults_of (f s) → cause ≡ Some Fault) ss
  cause_fault cause is = some_of (λ s. faults_of (f s)) (cause ≡ Some Fault) ss (λ more. is ∙ ap {A = ℕ} cause_at (a.fault more))

  -- all that a hub leaves
  pub ended : (entries : List E) (closed : List X) (now : List (Slot X W)) (left : List W) (charged word : ℕ) (cause : Option StopCause) → all ≡ all_of (λ s. drawn_by (f s)) ss
      → length entries ≡ total (λ s. length (drawn_by (f s))) ss → StandIn entries all
      → length closed ≡ 64 → ((k : ℕ) (x : X) → slice_get closed k ≡ Some x → LiesAt slots k x)
      → now ≡ slots → ((ls : List (List W)) → length ls ≡ 32 → LiesOn now ls → left ≡ all_of (λ l. l) ls)
      → get_elem? words 1 ≡ some charged → get_elem? words 2 ≡ some word → cause ≡ cause_at word → HasEnded m key f ss entries closed left charged cause
  ended entries closed now left charged word cause drawn count stand many items same lies paid stopped told =
      let hands : List (ℕ × W) = all_of (λ s. hand_of (f s)) ss in
      let log : things_of a.log ≡ entries = in_log entries (count ∙ sym (all_long drawn)) stand in
      let works : left ≡ all_of (λ l. l) (map things_of a.desks) = left_lies now left same lies in
      let spent : get_or words 1 0 ≡ charged = word_is words 1 charged paid in
      let is : cause ≡ cause_at (get_or words 2 0) = told ∙ ap {A = ℕ} cause_at (sym (word_is words 2 word stopped)) in
      let P : List (ℕ × E) → Type 0 = λ l. StandIn entries l in
      let Q : List E → Type 0 = λ l. RanFrom m key l closed left hands in
      let R : List E → Type 0 = λ l. FaultCause m.faults cause l in
      record {
        count = count;
        drawn = each_of (λ n e. slice_get entries n ≡ Some e) (λ s. drawn_by (f s)) ss (subst P drawn stand);
        once = λ n. ap {A = List (ℕ × E)} (count_at n) (sym drawn) ∙ (a.once n ∙ ap {A = List E} (λ l. once_below n (length l)) log);
        shards = many;
        ran = subst Q log (ran_by_log closed left many items works);
        empty = none_left left works;
        paid = charge_paid charged spent;
        bounded = charge_bounded;
        over = charge_over charged spent;
        memory = cause_memory cause is;
        faulty = cause_fault cause is;
        stop = cause_found cause is;
        fault = subst R log (fault_told m.faults (things_of a.log) (get_or words 2 0) cause is a.cause);
      }
