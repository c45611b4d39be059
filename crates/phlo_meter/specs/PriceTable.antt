-- What a price text says.
use Rattle.std.specs.Prelude.{ℕ, ℤ, pos, ◌&&◌, ◌||◌, not, nat_le, Bool, List, [], ◌∷◌, filter, Option, Some, None, option_map, Result, Ok, Err, if◌then◌else◌, codes}
use Rattle.std.specs.Str.{bytes_eq, is_utf8}
use Rattle.toml.specs.Data.{Members, no_members, member, get_member, as_integer}
use Rattle.toml.specs.Parse.{parse_document}
use Rattle.calculus.specs.Order.{sorted}
use Rattle.calculus.specs.Outcome.{Prices}

-- why a text gives no prices
pub data Refusal : Type 0 where
  not_toml : Refusal
  missing : List ℕ → Refusal
  not_integer : List ℕ → Refusal
  out_of_range : List ℕ → ℤ → Refusal
  unknown : List ℕ → Refusal

-- the table that some bytes are
abbrev pub table_of : List ℕ → Option Members
table_of bytes = if is_utf8 bytes then parse_document bytes else None

-- a price from `least` to a million
abbrev pub in_range : List ℕ → ℕ → ℤ → Result ℕ Refusal
in_range key least (pos n) = if nat_le least n && nat_le n 1000000 then Ok n else Err (out_of_range key (pos n))
in_range key least z = Err (out_of_range key z)

-- what stands at a key, if it is there, as a price: an integer or not
abbrev pub read_price : List ℕ → ℕ → Option (Option ℤ) → Result ℕ Refusal
read_price key least None = Err (missing key)
read_price key least (Some None) = Err (not_integer key)
read_price key least (Some (Some z)) = in_range key least z

-- the price at a key, which is `least` or more
abbrev pub price_of : Members → List ℕ → ℕ → Result ℕ Refusal
price_of table key least = read_price key least (option_map as_integer (get_member key table))

-- whether a key is that of a price
abbrev pub is_known : List ℕ → Bool
is_known key =
    bytes_eq key (codes "comm") || bytes_eq key (codes "send") || bytes_eq key (codes "receive") || bytes_eq key (codes "name")
    || bytes_eq key (codes "case") || bytes_eq key (codes "op") || bytes_eq key (codes "byte")

-- the keys of a table
abbrev pub keys_of : Members → List (List ℕ)
keys_of no_members = []
keys_of (member k d ms) = k ∷ keys_of ms

-- the first of these, where there is one
abbrev pub first : List (List ℕ) → Option (List ℕ)
first [] = None
first (k ∷ ks) = Some k

-- the key that is least in bytes among those of no price
abbrev pub least_unknown : Members → Option (List ℕ)
least_unknown table = first (sorted (filter (λ k. not (is_known k)) (keys_of table)))

infixl 10 ◌>>=◌
-- what comes next, where there is no refusal
abbrev pub ◌>>=◌ : {A B : Type 0} → Result A Refusal → (A → Result B Refusal) → Result B Refusal
(Ok x) >>= f = f x
(Err e) >>= f = Err e

-- a table without unknown keys
abbrev pub all_known : Option (List ℕ) → Result (Unit {0}) Refusal
all_known None = Ok tt
all_known (Some k) = Err (unknown k)

-- the prices of a table, or its first refusal: key by key, and then the least unknown key
abbrev pub prices_in : Members → Result Prices Refusal
prices_in table = do
  comm ← price_of table (codes "comm") 1
  send ← price_of table (codes "send") 0
  receive ← price_of table (codes "receive") 0
  name ← price_of table (codes "name") 0
  case ← price_of table (codes "case") 0
  op ← price_of table (codes "op") 0
  byte ← price_of table (codes "byte") 0
  _ ← all_known (least_unknown table)
  Ok (record { comm = comm; send = send; receive = receive; name = name; case = case; op = op; byte = byte })

-- the table, or that there is none
abbrev pub table_or_refusal : Option Members → Result Members Refusal
table_or_refusal None = Err not_toml
table_or_refusal (Some t) = Ok t

-- the prices of a text, or its first refusal
unfoldable pub prices_of : List ℕ → Result Prices Refusal
prices_of bytes = table_or_refusal (table_of bytes) >>= prices_in
