-- Bytes that more bytes make no less than others.
use Rattle.std.proofs.Common.{◌≡◌, ℕ, zero, suc, ◌<◌, ◌≤◌, List, [], ◌∷◌, ◌++◌, take, length, refl, ap, ◌∙◌, arith, inl, inr, ⊎_elim}
use Rattle.std.specs.Prelude.{Bool, true, false, ◌==◌, ◌⊎◌}
use Rattle.std.specs.Ordering.{is_le, nat_cmp, ordering_then, ordering_index}
use Rattle.std.specs.declared.cmp.Ordering.{Ordering}
use Rattle.std.specs.declared.cmp.Ordering.TheVariants.{Less, Equal, Greater}
use Rattle.calculus.specs.Order.{byte_cmp, up_to}
use Rattle.calculus.proofs.Ordered.{up_to_total}
use Rattle.code_faults.specs.Places.{Reaches}
use Rattle.code_faults.proofs.Blaming.{reaches-lowest}

either_true : (b : Bool) → (b ≡ false → b ≡ true) → b ≡ true
either_true true f = refl
either_true false f = f refl

up_to_same : (x : List ℕ) → up_to x x ≡ true
up_to_same x = either_true (up_to x x) (up_to_total x x)

-- an ordering that is not greater
pub not_greater : (o : Ordering) → (ordering_index o == 2) ≡ false → is_le o ≡ true
not_greater Less e = refl
not_greater Equal e = refl
not_greater Greater e = absurd (cc)

pub less_or_equal : (o p : Ordering) → is_le (ordering_then o p) ≡ true → (o ≡ Less) ⊎ ((o ≡ Equal) × (is_le p ≡ true))
less_or_equal Less p h = inl refl
less_or_equal Equal p h = inr (refl, h)
less_or_equal Greater p h = absurd (cc)

pub then_less : (o p : Ordering) → o ≡ Less → is_le (ordering_then o p) ≡ true
then_less o p e = ap (λ (z : Ordering). is_le (ordering_then z p)) e

pub then_equal : (o p : Ordering) → o ≡ Equal → is_le p ≡ true → is_le (ordering_then o p) ≡ true
then_equal o p e h = ap (λ (z : Ordering). is_le (ordering_then z p)) e ∙ h

one-more : (a b : ℕ) (last now : List ℕ) → (nat_cmp a b ≡ Less) ⊎ ((nat_cmp a b ≡ Equal) × Reaches last now) → Reaches (a ∷ last) (b ∷ now)
one-more a b last now h = ⊎_elim
    (λ (p : nat_cmp a b ≡ Less). record { more = []; up = then_less (nat_cmp a b) (byte_cmp last (now ++ [])) p })
    (λ (p : (nat_cmp a b ≡ Equal) × Reaches last now). record { more = p.1.more; up = then_equal (nat_cmp a b) (byte_cmp last (now ++ p.1.more)) p.0 p.1.up }) h

-- bytes that do not fall below others as far as both go
pub reaching : (k : ℕ) (last now : List ℕ) → k ≤ length last → k ≤ length now → (k < length last → k < length now → ⊥) → is_le (byte_cmp (take k last) (take k now)) ≡ true → Reaches last now
reaching zero [] now l m n g = reaches-lowest now
reaching zero (a ∷ last) [] l m n g = record { more = a ∷ last; up = up_to_same (a ∷ last) }
reaching zero (a ∷ last) (b ∷ now) l m n g = absurd (n (omega arith) (omega arith))
reaching (suc k) [] now l m n g = absurd (omega arith)
reaching (suc k) (a ∷ last) [] l m n g = absurd (omega arith)
reaching (suc k) (a ∷ last) (b ∷ now) l m n g = one-more a b last now (⊎_elim
    (λ (p : nat_cmp a b ≡ Less). inl p)
    (λ (p : (nat_cmp a b ≡ Equal) × (is_le (byte_cmp (take k last) (take k now)) ≡ true)). inr (p.0, reaching k last now (omega arith) (omega arith) (λ s t. n (omega arith) (omega arith)) p.1))
    (less_or_equal (nat_cmp a b) (byte_cmp (take k last) (take k now)) g))
