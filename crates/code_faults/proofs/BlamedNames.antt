-- Blamed places in patterns of names: a name variable alone stands where a process variable would, but for its tag.
use Rattle.std.proofs.Common.{◌≡◌, ℕ, ◌≤◌, ◌+◌, ◌-◌, List, [], ◌∷◌, ◌++◌, length, refl, ap, sym, ◌∙◌, subst, arith, append_assoc, append-nil}
use Rattle.std.specs.Prelude.{Bool, true, false, leb}
use Rattle.std.proofs.lemmas.Bool.{leb-true}
use Rattle.calculus.specs.Tree.{par, pattern, some_process, some_name, Tree, node, Trees, none, also}
use Rattle.calculus.specs.Bytes.{be32}
use Rattle.calculus.specs.Shape.{leaf, count, label_of}
use Rattle.calculus.specs.Size.{rise}
use Rattle.calculus.specs.Order.{up_to}
use Rattle.calculus.specs.Form.{pat, name_pat, pat_part, Scope, Hold, all}
use Rattle.code_faults.specs.declared.fault.ReadFault.{ReadFault}
use Rattle.code_faults.specs.Refusing.{IsRight, HasRoom}
use Rattle.code_faults.specs.Places.{a_pat_part, field, inner, spelling, items, Stop, these, bytes_of, IsNoForm, Breaks, differs, falls, deep, within, past}
use Rattle.code_faults.specs.Blaming.{BlamesIn, Wrong, InTree}
use Rattle.code_faults.proofs.NameRefusals.{as-part, from_either, process_right, name_bytes, changed, process_code, name_code}
use Rattle.code_faults.proofs.TextRefusals.{more}
use Rattle.code_faults.proofs.Spelling.{spelling-items}
use Rattle.code_faults.proofs.Blaming.{as-same}

lowest : (c : List ℕ) → up_to [] c ≡ true
lowest [] = refl
lowest (x ∷ c) = refl

-- nothing stands in no code
no-items : {stop : Stop} {room : ℕ} {before : List ℕ} → Breaks stop room [] before → ⊥
no-items h = elim h [ ]

-- in a leaf that is a tag alone, a reader stops at that
record AtTag (stop : Stop) (before : List ℕ) (tag : ℕ) : Type 0 where
  after : List ℕ
  is : stop ≡ these after
  place : before ≡ []
  other : (x y : List ℕ) → after ++ x ≡ tag ∷ y → ⊥

at-tag : {stop : Stop} {room tag : ℕ} {before : List ℕ} → Breaks stop room (field (tag ∷ []) ∷ []) before → AtTag stop before tag
at-tag (differs after room f is h) = record { after = after; is = refl; place = refl; other = h }
at-tag (past stop room i is before h) = absurd (no-items h)

-- the patterns that are a process variable alone, and a name variable alone
abbrev process_variable : Tree
process_variable = node pattern (also (leaf some_process) none)

abbrev name_variable : Tree
name_variable = node pattern (also (leaf some_name) none)

heads : (n m : ℕ) (xs ys : List ℕ) → n ∷ xs ≡ m ∷ ys → n ≡ m
heads n m xs ys e = cc

module _ {bs : List ℕ} (n : (y : List ℕ) → bs ≡ 0 ∷ 0 ∷ 0 ∷ 1 ∷ 0x51 ∷ y → ⊥) where
  no-name : (after before : List ℕ) → bs ≡ before ++ after → before ≡ be32 1 → ((x y : List ℕ) → after ++ x ≡ 0x50 ∷ y → ⊥) → (x y : List ℕ) → after ++ x ≡ 0x51 ∷ y → ⊥
  unfolding be32
  no-name [] before are p h x y q = h (0x50 ∷ []) [] refl
  no-name (k ∷ after) before are p h x y q = n after (are ∙ ap (λ (z : List ℕ). z ++ k ∷ after) p ∙ ap (λ (z : ℕ). 0 ∷ 0 ∷ 0 ∷ 1 ∷ z ∷ after) (heads k 0x51 (after ++ x) y q))

  -- where a reader stops in the part of the one, it stops in that of the other
  named-part : {stop : Stop} {room : ℕ} {before : List ℕ} → bs ≡ (be32 1 ++ before) ++ bytes_of stop → Breaks stop room (inner a_pat_part [] (leaf some_process) ∷ []) before → Breaks stop room (inner a_pat_part [] (leaf some_name) ∷ []) before
  named-part are (falls after room slot least t is h shut) = absurd (h [] (lowest (after ++ [])))
  named-part are (deep after slot least t is h) = deep after a_pat_part [] (leaf some_name) [] h
  named-part {room = room} {before = before} are (within stop _ slot least t is _ l shut h) =
      let w = at-tag h in
      let e : bs ≡ be32 1 ++ w.after = are ∙ ap (λ (z : List ℕ). (be32 1 ++ z) ++ bytes_of stop) w.place ∙ ap (λ (z : List ℕ). z ++ bytes_of stop) (append-nil (be32 1)) ∙ ap (λ (z : Stop). be32 1 ++ bytes_of z) w.is in
      let at : Breaks (these w.after) room (inner a_pat_part [] (leaf some_name) ∷ []) [] =
      within (these w.after) room a_pat_part [] (leaf some_name) [] [] (record { reaches = λ q. absurd (omega arith); fits = λ q. absurd (omega arith) })
      (λ q. subst (λ (z : Stop). IsNoForm room a_pat_part (bytes_of z)) w.is (shut (ap length w.place)))
      (differs w.after (room - rise (label_of (leaf some_name))) (0x51 ∷ []) [] (no-name w.after (be32 1) e refl w.other)) in
      subst (λ (z : Stop). Breaks z room (inner a_pat_part [] (leaf some_name) ∷ []) before) (sym w.is) (subst (λ (z : List ℕ). Breaks (these w.after) room (inner a_pat_part [] (leaf some_name) ∷ []) z) (sym w.place) at)
  named-part are (past stop room i is before h) = absurd (no-items h)

  named : {stop : Stop} {room : ℕ} {before : List ℕ} → bs ≡ before ++ bytes_of stop → Breaks stop room (field (be32 1) ∷ inner a_pat_part [] (leaf some_process) ∷ []) before → Breaks stop room (field (be32 1) ∷ inner a_pat_part [] (leaf some_name) ∷ []) before
  named are (differs after room f is h) = differs after room (be32 1) (inner a_pat_part [] (leaf some_name) ∷ []) h
  named are (past stop room i is before h) = past stop room (field (be32 1)) (inner a_pat_part [] (leaf some_name) ∷ []) before (named-part are h)

-- a name variable alone
alone : {v : Scope} {room high : ℕ} {bs : List ℕ} (c : Bool) (stop : Stop) (before : List ℕ) → bs ≡ before ++ bytes_of stop → InTree c pat v room stop before → HasRoom v before → (c ≡ true → (y : List ℕ) → bs ≡ 0 ∷ 0 ∷ 0 ∷ 1 ∷ 0x51 ∷ y → ⊥) → IsRight c name_pat v high name_variable
    → BlamesIn stop room before name_variable
unfolding name_bytes
alone {v = v} {room = room} {bs = bs} true stop before are j l m g = record {
  wrong = λ x y q.
      let k : before ++ x ≡ name_bytes ++ y = q ∙ ap (λ (z : List ℕ). z ++ y) (spelling-items name_variable ∙ name_code) in
      let few : 5 ≤ length before → ⊥ = λ w. let r = more name_bytes before y x (omega arith) (sym k) in m refl (r.more ++ bytes_of stop) (are ∙ ap (λ (z : List ℕ). z ++ bytes_of stop) r.is ∙ append_assoc name_bytes r.more (bytes_of stop)) in
      let c = changed before x y k few in
      let w = (j.no l 0 process_variable (process_right v 0)).wrong c.more [] (c.is ∙ sym process_code ∙ sym (spelling-items process_variable) ∙ sym (append-nil (spelling (items process_variable)))) in
      record { fits = w.fits; breaks = named (m refl) are w.breaks };
}
alone false stop before are j l m g = absurd (cc (g.free refl))

pub name_wrong : {b : Bool} {v : Scope} {room : ℕ} {e : ReadFault} {bs : List ℕ} → Wrong (InTree b pat v room) e bs → (b ≡ true → (y : List ℕ) → bs ≡ 0 ∷ 0 ∷ 0 ∷ 1 ∷ 0x51 ∷ y → ⊥) → Wrong (InTree b name_pat v room) e bs
name_wrong {b = b} {v = v} {room = room} {e = e} {bs = bs} h n = as-same (InTree b pat v room) (InTree b name_pat v room) e (λ stop before are j. record { no = λ l high t g. no stop before are j l high t g }) h
  where
    plain : (stop : Stop) (before : List ℕ) → InTree b pat v room stop before → HasRoom v before → (high : ℕ) (ts : Trees) → IsRight b name_pat v high (node pattern ts) → Hold (all pat_part) v [] ts → BlamesIn stop room before (node pattern ts)
    plain stop before j l high ts g f = j.no l high (node pattern ts) (record { fits = (g.fits.0, f); low = g.low; short = g.short; free = g.free })

    no : (stop : Stop) (before : List ℕ) → bs ≡ before ++ bytes_of stop → InTree b pat v room stop before → HasRoom v before → (high : ℕ) → (t : Tree) → IsRight b name_pat v high t → BlamesIn stop room before t
    no stop before are j l high (node pattern none) g = plain stop before j l high none g tt
    no stop before are j l high (node pattern (also (node some_name none) none)) g = alone b stop before are j l n g
    no stop before are j l high (node pattern (also (node some_name (also t ts)) none)) g = absurd g.fits.1.0.1
    no stop before are j l high (node pattern (also (node m us) none)) g = plain stop before j l high (also (node m us) none) g (as-part v (node m us) none g.fits.1.0 (λ q. absurd (cc)), tt)
    no stop before are j l high (node pattern (also u (also w ws))) g = plain stop before j l high (also u (also w ws)) g (from_either (leb (count ws + 1 + 1) 1) v [] (also u (also w ws)) (λ q. omega (arith, leb-true (count ws + 1 + 1) 1 q)) g.fits.1)
    no stop before are j l high (node par ts) g = absurd g.fits.1
    no stop before are j l high (node _ ts) g = absurd g.fits.1
