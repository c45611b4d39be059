-- In which shards rows stand.
use Rattle.std.proofs.Common.{◌≡◌, ℕ, ◌<◌, Bool, true, ◌||◌, eqb, eqb-true, List, [], ◌∷◌, map as each, refl, sym, ap, ◌∙◌, subst, inl, inr}
use Rattle.std.specs.Prelude.{◌⊎◌, is_some}
use Rattle.std.specs.List.{list_any}
use Rattle.std.specs.Int.{bit_at}
use Rattle.calculus.specs.Tree.{Tree}
use Rattle.calculus.specs.Rows.{Row, channels}
use Rattle.calculus.specs.Steps.{as_receiver}
use Rattle.calculus.specs.Storing.{shard}
use Rattle.rho_term.specs.declared.op.Op.{Op}
use Rattle.rho_term.specs.declared.term.TermBind.{TermBind}
use Rattle.rho_term.specs.Rows.{row_of_op}
use Rattle.shard_counts.specs.Bits.{AreBits}
use Rattle.events.specs.Shards.{stands_in}
use Rattle.events.proofs.ShardStanding.{rows_stand_in_shards}
use Rattle.row_shards.specs.Counted.{AreCounted, StandsInOne}
use Rattle.row_shards.proofs.SetBits.{or-none}

-- what an operation is seen as
pub as-row : (r : Row) (o p : Op) → row_of_op o ≡ r → o ≡ p → r ≡ row_of_op p
as-row r o p e f = sym e ∙ ap row_of_op f

-- tests of binds as tests of their channels
pub any-each : {A B : Type 0} (f : B → Bool) (g : A → B) (xs : List A) → list_any f (each g xs) ≡ list_any (λ x. f (g x)) xs
any-each f g [] = refl
any-each f g (x ∷ xs) = ap (λ b. f (g x) || b) (any-each f g xs)

-- the shards of a receive with these binds
pub binds-stand : (r : Row) (bs : List TermBind) → channels r.part ≡ each (λ b. b.channel) bs → (k : ℕ) → list_any (λ (b : TermBind). eqb k (shard b.channel)) bs ≡ stands_in k r
binds-stand r bs e k =
    sym (ap (λ (cs : List Tree). list_any (eqb k) (each shard cs)) e ∙ any-each (eqb k) shard (each (λ (b : TermBind). b.channel) bs) ∙ any-each (λ (c : Tree). eqb k (shard c)) (λ (b : TermBind). b.channel) bs)

-- a row of one channel stands in one shard
pub one-channel : (r : Row) (c : Tree) → channels r.part ≡ c ∷ [] → StandsInOne r
one-channel r c e j k hj hk = at j hj ∙ sym (at k hk)
  where
    at : (i : ℕ) → stands_in i r ≡ true → i ≡ shard c
    at i h = eqb-true i (shard c) (sym (or-none (eqb i (shard c))) ∙ sym (ap (λ (cs : List Tree). list_any (eqb i) (each shard cs)) e) ∙ h)

-- a row stands in one shard, of whose bits one alone is set
pub one-bit-row : (r : Row) (bits : ℕ) → AreBits (λ k. stands_in k r) bits → ((j k : ℕ) → j < 64 → k < 64 → bit_at bits j ≡ 1 → bit_at bits k ≡ 1 → j ≡ k) → StandsInOne r
one-bit-row r bits b one j k hj hk = one j k (low j hj) (low k hk) (set j hj) (set k hk)
  where
    low : (i : ℕ) → stands_in i r ≡ true → i < 64
    low i h = rows_stand_in_shards r i h

    set : (i : ℕ) → stands_in i r ≡ true → bit_at bits i ≡ 1
    set i h = eqb-true (bit_at bits i) 1 (b i (low i h) ∙ h)

-- of what is counted for a receive
pub two-or-none : (r : Row) (bits counted : ℕ) → is_some (as_receiver r.part) ≡ true → AreBits (λ k. stands_in k r) bits
    → (counted ≡ bits) ⊎ ((counted ≡ 0) × ((j k : ℕ) → j < 64 → k < 64 → bit_at bits j ≡ 1 → bit_at bits k ≡ 1 → j ≡ k)) → AreCounted r counted
two-or-none r bits counted h b (inl e) = inr (h, subst (AreBits (λ k. stands_in k r)) (sym e) b)
two-or-none r bits counted h b (inr o) = inl (o.0, one-bit-row r bits b o.1)
