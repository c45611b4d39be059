-- Classes of bytes, and runs of their bytes.
use Rattle.std.specs.Prelude.{◌≡◌, ◌≤◌, ◌<◌, ◌+◌, ℕ, Bool, true, false, not, ◌&&◌, ◌||◌, ◌==◌, nat_le, nat_lt, List, length, slice_index}
use Rattle.rho_lanes.specs.declared.class.ByteClass.{ByteClass}
use Rattle.rho_lanes.specs.declared.class.ByteClass.TheVariants.{Space, Digit, Word, Plain}

-- one of these bytes or between them
abbrev pub is_between : ℕ → ℕ → ℕ → Bool
is_between least most b = nat_le least b && nat_le b most

-- '0' to '9'
abbrev pub is_digit : ℕ → Bool
is_digit b = is_between 48 57 b

-- 'A' to 'Z' or 'a' to 'z'
abbrev pub is_letter : ℕ → Bool
is_letter b = is_between 65 90 b || is_between 97 122 b

-- whether a byte is of the class: a space, a tab, a line feed or a carriage return; a digit; a letter,
-- a digit, an underscore or an apostrophe; a byte of ASCII other than the quote and the backslash
abbrev pub is_in : ByteClass → ℕ → Bool
is_in Space b = b == 32 || b == 9 || b == 10 || b == 13
is_in Digit b = is_digit b
is_in Word b = is_letter b || is_digit b || b == 95 || b == 39
is_in Plain b = nat_lt b 128 && not (b == 34) && not (b == 92)

-- so many bytes stand from the place on, and each is of the class
pub record IsRun (class : ByteClass) (bytes : List ℕ) (from n : ℕ) : Type 0 where
  pub within : from + n ≤ length bytes
  pub each : (i : ℕ) → from ≤ i → i < from + n → is_in class (slice_index bytes i) ≡ true

-- so many are a run of the class, and no run from that place is longer
pub record IsLongestRun (class : ByteClass) (bytes : List ℕ) (from n : ℕ) : Type 0 where
  pub run : IsRun class bytes from n
  pub longest : (m : ℕ) → IsRun class bytes from m → m ≤ n

-- of so many bytes from the place on the first n are a run of the class, and where that is not all
-- of them the next byte is of another
pub record IsRunOf (count : ℕ) (class : ByteClass) (bytes : List ℕ) (from n : ℕ) : Type 0 where
  pub few : n ≤ count
  pub run : IsRun class bytes from n
  pub ends : n < count → is_in class (slice_index bytes (from + n)) ≡ false
