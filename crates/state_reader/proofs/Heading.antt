-- The heading of a state's text.
use Rattle.std.proofs.Common.{◌≡◌, ℕ, zero, suc, ◌+◌, ◌<◌, ◌≤◌, List, [], ◌∷◌, ◌++◌, length, take, drop, get_or, min, refl, ap, sym, ◌∙◌, arith, length-append}
use Rattle.std.specs.Prelude.{Err, Result}
use Rattle.std.proofs.lemmas.List.{get_or-take, take-append-drop, length-take}
use Rattle.rho_lanes.specs.Differences.{AreParted}
use Rattle.input_faults.specs.declared.state_fault.StateFault.{StateFault}
use Rattle.input_faults.specs.declared.state_fault.StateFault.TheVariants as fault
use Rattle.state_reader.specs.Files.{heading, IsCutHeader, IsWrongHeading}

parted-at : (xs ys : List ℕ) (i : ℕ) → length xs ≡ length ys → AreParted (drop i xs) (drop i ys) → (i < length xs) × (get_or xs i 0 ≡ get_or ys i 0 → ⊥)
parted-at [] [] zero l p = absurd p
parted-at [] [] (suc i) l p = absurd p
parted-at [] (y ∷ ys) i l p = absurd (omega arith)
parted-at (x ∷ xs) [] i l p = absurd (omega arith)
parted-at (x ∷ xs) (y ∷ ys) zero l p = (omega arith, p)
parted-at (x ∷ xs) (y ∷ ys) (suc i) l p = let r = parted-at xs ys i (omega arith) p in (omega (arith, r.0), r.1)

take-less : (xs : List ℕ) (i n : ℕ) → i ≤ n → take i (take n xs) ≡ take i xs
take-less xs zero n l = refl
take-less [] (suc i) zero l = refl
take-less [] (suc i) (suc n) l = refl
take-less (x ∷ xs) (suc i) zero l = absurd (omega arith)
take-less (x ∷ xs) (suc i) (suc n) l = ap (λ zs. x ∷ zs) (take-less xs i n (omega arith))

-- where the first bytes differ from the heading, a byte of it is wrong
pub wrong-heading : (bs : List ℕ) (n at : ℕ) → n ≡ min (length bs) 9 → take at (take n bs) ≡ take at (take n heading) → AreParted (drop at (take n bs)) (drop at (take n heading)) → IsWrongHeading at bs
wrong-heading bs n at e s p =
    let nine : length heading ≡ 9 = refl in
    let a : length (take n bs) ≡ n = omega (arith, length-take n bs) in
    let b : length (take n heading) ≡ n = omega (arith, length-take n heading, nine) in
    let r = parted-at (take n bs) (take n heading) at (a ∙ sym b) p in
    let l : at < n = omega (arith, r.0) in
    record {
      low = omega arith;
      within = omega arith;
      before = sym (take-less bs at n (omega arith)) ∙ s ∙ take-less heading at n (omega arith);
      differs = λ q. r.1 (get_or-take n bs at 0 l ∙ q ∙ sym (get_or-take n heading at 0 l));
    }

all-taken : (xs : List ℕ) (k : ℕ) → length xs ≤ k → take k xs ≡ xs
all-taken [] zero h = refl
all-taken [] (suc k) h = refl
all-taken (x ∷ xs) zero h = absurd (omega arith)
all-taken (x ∷ xs) (suc k) h = ap (λ zs. x ∷ zs) (all-taken xs k (omega arith))

-- a text that ends inside its heading
pub cut-heading : (bs : List ℕ) (n : ℕ) → n ≡ min (length bs) 9 → take n bs ≡ take n heading → n < 9 → IsCutHeader bs
cut-heading bs n e s l = record {
  short = omega arith;
  same = all-taken bs 9 (omega arith) ∙ sym (all-taken bs n (omega arith)) ∙ s ∙ ap (λ k. take k heading) (omega arith);
}

-- a text that ends behind its heading and before the rows
pub cut-behind : (bs left : List ℕ) → bs ≡ heading ++ left → length left < 40 → IsCutHeader bs
cut-behind bs left e l =
    let nine : length heading ≡ 9 = refl in
    let m : length bs ≡ 9 + length left = ap length e ∙ omega (arith, length-append heading left, nine) in
    record { short = omega (arith, m, l); same = ap (take 9) e ∙ sym (all-taken heading (length bs) (omega (arith, m, nine))) }

pub place-same : {A : Type 0} {a b : ℕ} → ◌≡◌ {A = Result A StateFault} (Err (fault.NotCanonical a)) (Err (fault.NotCanonical b)) → a ≡ b
place-same e = cc

pub length-same : {A : Type 0} {a b : ℕ} → ◌≡◌ {A = Result A StateFault} (Err (fault.Short a)) (Err (fault.Short b)) → a ≡ b
length-same e = cc

-- the parts of a header
pub header-is : (bs left root others eight rest : List ℕ) → bs ≡ heading ++ left → root ≡ take 32 left → others ≡ drop 32 left → eight ≡ take 8 others → rest ≡ drop 8 others → bs ≡ heading ++ (root ++ (eight ++ rest))
header-is bs left root others eight rest e r o n f =
    let inner : others ≡ eight ++ rest = sym (take-append-drop 8 others) ∙ ap (λ z. z ++ drop 8 others) (sym n) ∙ ap (λ z. eight ++ z) (sym f) in
    e ∙ ap (λ z. heading ++ z) (sym (take-append-drop 32 left) ∙ ap (λ z. z ++ drop 32 left) (sym r) ∙ ap (λ z. root ++ z) (sym o ∙ inner))

-- what follows the heading
pub after-heading : (bs : List ℕ) (n : ℕ) → n ≡ 9 → take n bs ≡ take n heading → bs ≡ heading ++ drop n bs
after-heading bs n e s =
    let whole : take n heading ≡ heading = ap (λ k. take k heading) e in
    sym (take-append-drop n bs) ∙ ap (λ z. z ++ drop n bs) (s ∙ whole)
