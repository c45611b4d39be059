-- Small facts of numbers, each told of variables.
use Rattle.std.proofs.Common.{◌≡◌, ℕ, ◌+◌, ◌-◌, ◌<◌, ◌≤◌, ◌*◌, ◌^◌, List, [], length, ap, arith}
use Rattle.std.specs.List.{All}

-- there are words
pub some_words : (n : ℕ) → n ≡ 800 → 0 < n
some_words n is = omega arith

pub charged_word : (n m : ℕ) → n ≡ m → m ≡ 800 → 1 < n
charged_word n m same is = omega arith

pub stop_word : (n m : ℕ) → n ≡ m → m ≡ 800 → 2 < n
stop_word n m same is = omega arith

-- a seat has its parts
pub whole_part : (n : ℕ) → n ≡ 32 → 32 ≤ n
whole_part n is = omega arith

pub some_part : (n : ℕ) → n ≡ 32 → 0 < n
some_part n is = omega arith

-- one entry at most is not settled
pub last_same : (n m : ℕ) → n ≡ m → m ≤ 1 → n ≤ 1
last_same n m same last = omega arith

pub last_fewer : (f d g e : ℕ) → g ≤ f → e ≡ d → f + d ≤ 1 → g + e ≤ 1
last_fewer f d g e fewer same last = omega arith

-- what was due is fresh
pub last_paid : (f d g e all : ℕ) → g ≡ all → all ≡ f + d → e ≡ 0 → f + d ≤ 1 → g + e ≤ 1
last_paid f d g e all fresh both due last = omega arith

-- an entry more is due, where none was due or fresh
pub last_due : (f d g e more : ℕ) → g ≡ f → f ≡ 0 → e ≡ more → more ≡ d + 1 → d ≡ 0 → g + e ≤ 1
last_due f d g e more same none due sum clear = omega arith

-- where one is due none is fresh
pub none_fresh : (f d : ℕ) → d ≡ 1 → f + d ≤ 1 → f ≡ 0
none_fresh f d due last = omega arith

-- there is room in the log for one entry more
pub room_to_draw : (len parts : ℕ) → len < 2 ^ 58 → parts ≡ 32 → len < parts * 2 ^ 53
room_to_draw len parts few is = omega arith

-- one stop more was found
pub one_more : (a b c : ℕ) → a ≡ b + 1 → b ≡ c → c < a
one_more a b c more same = omega arith

-- as few entries were drawn as are listed
pub few_told : (len items told : ℕ) → len ≡ items → items ≡ told → len < 2 ^ 58 → told < 2 ^ 58
few_told len items told is same few = omega arith

-- the parts that are left for the seats from a number on
pub parts_left : (seats number parts : ℕ) → parts ≡ 32 * (seats + 1 - number) → number < seats → 32 ≤ parts
parts_left seats number parts is more = omega arith

pub some_left : (seats number : ℕ) → number < seats → 0 < seats + 1 - number
some_left seats number more = omega arith

pub one_less : (seats number : ℕ) → (seats + 1 - number) - 1 ≡ seats + 1 - (number + 1)
one_less seats number = omega arith

-- one seat more was made
pub one_made : (now before number : ℕ) → now ≡ before + 1 → before + 1 ≡ number → now + 1 ≡ number + 1
one_made now before number more is = omega arith

pub same_room : (seats before now : ℕ) → now ≡ before → seats ≤ before → seats ≤ now
same_room seats before now same fits = omega arith

-- the numbers of seats, from one on
pub from_one : (seats : ℕ) → seats ≡ seats + 1 - 1
from_one seats = omega arith

pub first_made : (len : ℕ) → len ≡ 0 → len + 1 ≡ 1
first_made len none = omega arith

pub none_made : {A : Type 0} (P : A → Type 0) (xs : List A) → xs ≡ [] → All P xs
none_made {A} P xs none k d lt = absurd (let l = ap {A = List A} length none in omega arith)

pub few_desks : (number seats : ℕ) → number < seats → seats ≤ 32 → number < 32
few_desks number seats more few = omega arith

pub fits_seat : (len number seats room : ℕ) → len + 1 ≡ number → number < seats → seats ≤ room → len < room
fits_seat len number seats room is more fits = omega arith

pub fits_last : (len number seats room : ℕ) → len + 1 ≡ number → number ≤ seats → seats ≤ room → len < room
fits_last len number seats room is last fits = omega arith

-- one seat is left where all others were cut off
pub all_cut : (number seats : ℕ) → number ≤ seats → seats ≤ number → number ≡ seats
all_cut number seats low high = omega arith

pub one_left : (seats number : ℕ) → number ≡ seats → seats + 1 - number ≡ 1
one_left seats number is = omega arith
