-- Numbers of parts and of names, as far as 32 bits count them.
use Rattle.std.proofs.Common.{◌≡◌, ◌<◌, ℕ, ◌+◌, ◌%◌, ◌^◌, List, [], ◌∷◌, ◌++◌, length, get_or, drop, refl, sym, ap, ◌∙◌, arith, add-one, drop-cons, append_assoc}
use Rattle.std.specs.Int.{w32, to_be_bytes}
use Rattle.std.proofs.Math.Nat.{mod-eq_of_lt}
use Rattle.sha2.specs.Sha256.{sha256}
use Rattle.calculus.specs.declared.plain.Origin.{Origin}
use Rattle.calculus.specs.declared.plain.Origin.TheVariants as origins
use Rattle.calculus.specs.Bytes.{be32}
use Rattle.calculus.specs.Tree.{fresh, Tree}
use Rattle.calculus.specs.Shape.{leaf, only}
use Rattle.calculus.specs.Seeds.{digest_of, Split}
use Rattle.calculus.specs.Unfolding.{name_made, names_made}

-- four bytes count a number as far as 32 bits do
four-bytes : (n : ℕ) → be32 (n % 2 ^ 32) ≡ be32 n
unfolding be32
four-bytes n = ap (to_be_bytes w32) (mod-eq_of_lt (below n))
  where
    below : (n : ℕ) → n % 2 ^ 32 < 2 ^ 32
    below n = omega arith

pub same-part : (s : List ℕ) (n : ℕ) → digest_of (Split s (n % 2 ^ 32)) ≡ digest_of (Split s n)
same-part s n = ap (λ bs. sha256 (0x03 ∷ (s ++ bs))) (four-bytes n)

same-name : (s : List ℕ) (n : ℕ) (o : Origin) → name_made s (n % 2 ^ 32) o ≡ name_made s n o
same-name s n origins.Plain = ap (λ bs. only (leaf (fresh (sha256 (0x05 ∷ (s ++ bs)))))) (four-bytes n)
same-name s n origins.Stdout = refl
same-name s n origins.StdoutAck = refl

-- the names from number i on
next-name : (t : List ℕ) (os : List Origin) (i : ℕ) (d : Origin) → i < length os → names_made t i (drop i os) ≡ name_made t i (get_or os i d) ∷ names_made t (i + 1) (drop (i + 1) os)
next-name t os i d l = ap (names_made t i) (drop-cons os i d l) ∙ ap (λ k. name_made t i (get_or os i d) ∷ names_made t k (drop k os)) (sym (add-one i))

-- one more name
pub name-more : (t : List ℕ) (os : List Origin) (vs ws : List Tree) (x : Tree) (i n : ℕ) (d : Origin) → i < length os → n ≡ i % 2 ^ 32 → x ≡ name_made t n (get_or os i d) → ws ≡ vs ++ x ∷ [] → vs ++ names_made t i (drop i os) ≡ names_made t 0 os
    → ws ++ names_made t (i + 1) (drop (i + 1) os) ≡ names_made t 0 os
name-more t os vs ws x i n d l e q w k =
    let o = get_or os i d in
    let z : x ≡ name_made t i o = q ∙ (ap (λ m. name_made t m o) e ∙ same-name t i o) in
    ap (λ us. us ++ names_made t (i + 1) (drop (i + 1) os)) w
    ∙ (append_assoc vs (x ∷ []) (names_made t (i + 1) (drop (i + 1) os))
    ∙ (ap (λ u. vs ++ u ∷ names_made t (i + 1) (drop (i + 1) os)) z
    ∙ (ap (λ us. vs ++ us) (sym (next-name t os i d l)) ∙ k)))
