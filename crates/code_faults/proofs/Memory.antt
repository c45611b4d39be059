-- Want of memory says nothing of the bytes.
use Rattle.std.proofs.Common.{ℕ, List}
use Rattle.std.specs.Prelude.{Bool}
use Rattle.calculus.specs.Form.{Sort, Scope}
use Rattle.code_faults.specs.declared.fault.ReadFault.TheVariants as fault
use Rattle.code_faults.specs.Refusing.{Denies, Refuses, RefusesRow, RefusesBag}

memory-denies : {bs c : List ℕ} → Denies fault.NoMemory bs c
memory-denies = record { no = λ x y m q. m }

pub memory-refuses : {b : Bool} {s : Sort} {v : Scope} {room : ℕ} {bs : List ℕ} → Refuses b s v room fault.NoMemory bs
memory-refuses = record { no = λ l t g. memory-denies }

pub memory-row : {b : Bool} {s : Sort} {v : Scope} {room least most : ℕ} {bs : List ℕ} → RefusesRow b s v room least most fault.NoMemory bs
memory-row = record { no = λ l ts g p q. memory-denies }

pub memory-bag : {s : Sort} {v : Scope} {room : ℕ} {bs : List ℕ} → RefusesBag s v room fault.NoMemory bs
memory-bag = record { no = λ l ts g. memory-denies }
