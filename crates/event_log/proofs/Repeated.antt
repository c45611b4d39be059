-- Things that are read one after another, as far as a loop has come.
use Rattle.std.proofs.Common.{◌≡◌, ◌≤◌, ◌<◌, ℕ, suc, ◌+◌, ◌-◌, List, [], ◌∷◌, ◌++◌, length, inl, inr, refl, ap, sym, ◌∙◌, arith, append_assoc}
use Rattle.std.specs.Prelude.{◌⊎◌, Ok, Err}
use Rattle.event_log.specs.declared.fault.LogFault.{LogFault}
use Rattle.event_log.specs.declared.fault.LogFault.TheVariants.{Bad}
use Rattle.event_log.specs.Reading.{◌>>=◌, Read, repeated, end}

-- what is read after these
abbrev pub behind : {A : Type 0} → List A → Read (List A) → Read (List A)
behind xs (Ok b) = Ok (xs ++ b.0, b.1)
behind xs (Err e) = Err e

-- one thing, and what is read after it
abbrev pub first_and : {A : Type 0} → (List ℕ → Read (List A)) → Read A → Read (List A)
first_and next r = r >>= (λ a. next a.1 >>= (λ b. Ok (a.0 ∷ b.0, b.1)))

nothing : {A : Type 0} (xs : List A) → xs ++ [] ≡ xs
nothing [] = refl
nothing (x ∷ xs) = ap (λ l. x ∷ l) (nothing xs)

same : {A : Type 0} (r : Read (List A)) → r ≡ behind [] r
same (Ok b) = refl
same (Err e) = refl

joined : {A : Type 0} (xs : List A) (x : A) (next : List ℕ → Read (List A)) (rest : List ℕ) → behind xs (first_and next (Ok (x, rest))) ≡ behind (xs ++ x ∷ []) (next rest)
joined {A} xs x next rest = go (next rest)
  where
    go : (r : Read (List A)) → behind xs (r >>= (λ b. Ok (x ∷ b.0, b.1))) ≡ behind (xs ++ x ∷ []) r
    go (Ok b) = ap (λ l. Ok (l, b.1)) (sym (append_assoc xs (x ∷ []) b.0))
    go (Err e) = refl

end-of : {A : Type 0} (xs : List A) (rest : List ℕ) → behind xs (Ok ([], rest)) ≡ Ok (xs, rest)
end-of xs rest = let e = nothing xs in cc e

module _ {A : Type 0} (one : List ℕ → Read A) where
  -- i of k things were read, and the others come after them
  pub record SoFar (k i : ℕ) (xs : List A) (rest bytes : List ℕ) : Type 0 where
    pub is : repeated one k bytes ≡ behind xs (repeated one (k - i) rest)

  pub start : (k : ℕ) (bytes : List ℕ) → SoFar k 0 [] bytes bytes
  start k bytes = record { is = ap (λ n. repeated one n bytes) (omega arith) ∙ same (repeated one (k - 0) bytes) }

  next-one : (k i : ℕ) (xs : List A) (rest bytes : List ℕ) → i < k → SoFar k i xs rest bytes → repeated one k bytes ≡ behind xs (first_and (repeated one (k - (i + 1))) (one rest))
  next-one k i xs rest bytes h s =
      let left : k - i ≡ suc (k - (i + 1)) = omega (arith, h) in
      s.is ∙ ap (λ n. behind xs (repeated one n rest)) left

  -- one more
  pub more : (k i : ℕ) (xs : List A) (x : A) (rest after bytes : List ℕ) → i < k → SoFar k i xs rest bytes → one rest ≡ Ok (x, after) → SoFar k (i + 1) (xs ++ x ∷ []) after bytes
  more k i xs x rest after bytes h s e = record { is = next-one k i xs rest bytes h s ∙ ap (λ r. behind xs (first_and (repeated one (k - (i + 1))) r)) e ∙ joined xs x (repeated one (k - (i + 1))) after }

  -- the next one is refused
  pub stuck : (k i : ℕ) (xs : List A) (rest bytes : List ℕ) (f : LogFault) → i < k → SoFar k i xs rest bytes → one rest ≡ Err f → repeated one k bytes ≡ Err f
  stuck k i xs rest bytes f h s e = next-one k i xs rest bytes h s ∙ ap (λ r. behind xs (first_and (repeated one (k - (i + 1))) r)) e

  -- all
  pub all : (k i : ℕ) (xs : List A) (rest bytes : List ℕ) → k ≤ i → SoFar k i xs rest bytes → repeated one k bytes ≡ Ok (xs, rest)
  all k i xs rest bytes h s =
      let none : k - i ≡ 0 = omega (arith, h) in
      s.is ∙ ap (λ n. behind xs (repeated one n rest)) none ∙ end-of xs rest

  -- the next one is refused, or memory ran out
  pub stuck_or : (k i : ℕ) (xs : List A) (rest bytes : List ℕ) (f g : LogFault) → i < k → SoFar k i xs rest bytes → (f ≡ g) ⊎ (one rest ≡ Err f) → (f ≡ g) ⊎ (repeated one k bytes ≡ Err f)
  stuck_or k i xs rest bytes f g h s (inl e) = inl e
  stuck_or k i xs rest bytes f g h s (inr e) = inr (stuck k i xs rest bytes f h s e)

-- bytes are left
pub end-late : {B : Type 0} (n : ℕ) (x : B) (rest : List ℕ) → 1 ≤ length rest → end n x rest ≡ Err (Bad (n - length rest))
end-late n x [] h = absurd (omega (arith, h))
end-late n x (b ∷ rest) h = refl
