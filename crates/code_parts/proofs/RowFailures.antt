-- What a fault in one of many trees, or in their number, says of all.
use Rattle.std.proofs.Common.{◌≡◌, ℕ, ◌<◌, ◌≤◌, ◌^◌, List, [], ◌++◌, length, map, refl, sym, subst, arith}
use Rattle.std.specs.Prelude.{Bool, true, false}
use Rattle.calculus.specs.Bytes.{be32}
use Rattle.calculus.specs.Order.{up_to}
use Rattle.calculus.specs.Tree.{Tree, trees}
use Rattle.calculus.specs.Form.{Scope, Sort, term, part}
use Rattle.calculus.specs.Variables.{bound_all}
use Rattle.code_faults.specs.declared.fault.ReadFault.{ReadFault}
use Rattle.code_faults.specs.declared.fault.ReadFault.TheVariants as fault
use Rattle.code_faults.specs.Reading.{Reads}
use Rattle.code_faults.specs.Beginning.{HasPlace, Goes, BegunNumber, Follows}
use Rattle.code_faults.specs.Refusing.{Denies, RefusesNumber}
use Rattle.code_faults.specs.Places.{slot_for, Reaches, IsNoForm}
use Rattle.code_faults.specs.Blaming.{Wrong, InNumber}
use Rattle.code_faults.proofs.Rows.{Row}
use Rattle.code_faults.proofs.Bags.{Bag}
use Rattle.code_faults.proofs.Going.{row-going, number-row, number-bag, bag-low, bag-refused, bag-lower}
use Rattle.code_faults.proofs.NameRefusals.{term-refused}
use Rattle.code_faults.proofs.Blaming.{no-memory}
use Rattle.code_faults.proofs.BlamedRows.{row-blamed, number-row_blamed, number-bag_blamed}
use Rattle.code_faults.proofs.BlamedBags.{bag-blamed, bag-low_blamed, bag-lower_blamed, term_blamed}
use Rattle.code_faults.proofs.Begins.{Filler}
use Rattle.code_faults.proofs.BegunRows.{row-begun, number-begun, bag-begun, number-begun_bag}
use Rattle.code_faults.proofs.BegunForms.{term-begun}
use Rattle.code_faults.proofs.BegunMore.{bag-none_begun}
use Rattle.code_faults.proofs.Places.{goes-on, goes-at}
use Rattle.code_faults.proofs.Memory.{memory-refuses, memory-row, memory-bag}
use Rattle.code_parts.specs.Outcomes.{Fails, FailsRow, FailsBag}

-- memory is wanted
pub memory-fails : {b : Bool} {s : Sort} {v : Scope} {room : ℕ} {bs : List ℕ} → Fails b s v room bs fault.NoMemory
memory-fails = record { wrong = no-memory; refuses = memory-refuses; begun = λ t. absurd t }

pub memory-row-fails : {b : Bool} {s : Sort} {v : Scope} {room least most : ℕ} {bs : List ℕ} → FailsRow b s v room least most bs fault.NoMemory
memory-row-fails = record { wrong = no-memory; refuses = memory-row; begun = λ t. absurd t }

pub memory-bag-fails : {s : Sort} {v : Scope} {room : ℕ} {bs : List ℕ} → FailsBag s v room bs fault.NoMemory
memory-bag-fails = record { wrong = no-memory; refuses = memory-bag; begun = λ t. absurd t }

pub out-of-memory : {b : Bool} {s : Sort} {v : Scope} {room : ℕ} {e : ReadFault} {bs : List ℕ} → e ≡ fault.NoMemory → Fails b s v room bs e
out-of-memory {b = b} {s = s} {v = v} {room = room} {bs = bs} m = subst (λ (x : ReadFault). Fails b s v room bs x) (sym m) memory-fails

-- the same bytes
pub bytes-fail : {b : Bool} {s : Sort} {v : Scope} {room : ℕ} {e : ReadFault} {bs cs : List ℕ} → bs ≡ cs → Fails b s v room cs e → Fails b s v room bs e
bytes-fail {b = b} {s = s} {v = v} {room = room} {e = e} p h = subst (λ (x : List ℕ). Fails b s v room x e) (sym p) h

-- the parts of a process are its code
pub term-fails : {v : Scope} {room : ℕ} {e : ReadFault} {bs : List ℕ} → FailsBag part v room bs e → Fails true term v room bs e
term-fails h = record { wrong = term_blamed h.wrong; refuses = term-refused h.refuses; begun = λ t. goes-on (h.begun t) (λ z g. term-begun g) }

-- the number
pub row-number-fails : {b : Bool} {s : Sort} {v : Scope} {room least most : ℕ} {e : ReadFault} {bs : List ℕ} → Filler s v → least ≤ most
    → Wrong (InNumber least most) e bs → RefusesNumber least most e bs → (HasPlace e → least ≤ most → Goes e (BegunNumber least most bs)) → FailsRow b s v room least most bs e
row-number-fails k l w r g = record { wrong = number-row_blamed w; refuses = number-row r; begun = λ t. goes-on (g t l) (λ z j. number-begun j k) }

pub bag-number-fails : {s : Sort} {v : Scope} {room : ℕ} {e : ReadFault} {bs : List ℕ} → Filler s v
    → Wrong (InNumber 0 0xFFFFFFFF) e bs → RefusesNumber 0 0xFFFFFFFF e bs → (HasPlace e → 0 ≤ 0xFFFFFFFF → Goes e (BegunNumber 0 0xFFFFFFFF bs)) → FailsBag s v room bs e
bag-number-fails k w r g = record { wrong = number-bag_blamed w; refuses = number-bag r; begun = λ t. goes-on (g t (omega arith)) (λ z j. number-begun_bag j.number k j.cut) }

-- a tree among those as they stand
pub row-fails : {A : Type 0} {f : A → Tree} {b : Bool} {s : Sort} {v : Scope} {room : ℕ} {e : ReadFault} {xs : List A} {start now bs : List ℕ} (least most n : ℕ)
    → Row f s v room xs start now → (b ≡ false → bound_all (trees (map f xs)) ≡ []) → bs ≡ be32 n ++ start → least ≤ n → n ≤ most → n < 2 ^ 32 → length xs < n
    → Filler s v → Fails b s v room now e → FailsRow b s v room least most bs e
row-fails {bs = bs} least most n h q is p o m i k g = record {
  wrong = row-blamed least most n bs h is m i g.wrong;
  refuses = row-going least most n bs h is m i g.refuses;
  begun = λ t. goes-on (g.begun t) (λ z j. row-begun least most n h q is p o i k j);
}

-- among those that ascend: a tree, its order before it is read, and its order after
module _ {A : Type 0} {f : A → Tree} {s : Sort} {v : Scope} {room : ℕ} {e : ReadFault} {xs : List A} {start now last bs : List ℕ} (n : ℕ)
    (h : Bag f s v room xs start now last) (is : bs ≡ be32 n ++ start) (m : n < 2 ^ 32) (i : length xs < n) (none : IsNoForm room (slot_for s) now) where
  pub bag-fails : Reaches last now → Follows last now → Fails true s v room now e → FailsBag s v room bs e
  bag-fails up after g = record {
    wrong = bag-blamed n bs h is m i up none g.wrong;
    refuses = bag-refused n bs h is m i g.refuses;
    begun = λ t. goes-on (g.begun t) (λ z j. bag-begun {b = true} n h is i after j);
  }

  pub bag-order-fails : Filler s v → e ≡ fault.NotCanonical (length now) → ((c : List ℕ) → up_to last c ≡ true → Denies e now c) → FailsBag s v room bs e
  bag-order-fails k p d = record {
    wrong = bag-low_blamed n bs h is m i p none d;
    refuses = bag-low n bs h is m i d;
    begun = λ t. goes-at now (bag-none_begun n k h is i) p refl;
  }

  pub bag-lower-fails : {t : Tree} {next : List ℕ} → Filler s v → e ≡ fault.NotCanonical (length now) → Reads s v room t now next
      → ((d : List ℕ) → now ≡ d ++ next → up_to last d ≡ true → ⊥) → FailsBag s v room bs e
  bag-lower-fails k p r d = record {
    wrong = bag-lower_blamed n bs h is m i p none r d;
    refuses = bag-lower n bs h is m i r d;
    begun = λ t. goes-at now (bag-none_begun n k h is i) p refl;
  }
