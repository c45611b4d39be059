-- Two heads of one sort: neither is a proper prefix of the other, and equal ones belong to forms that hold the same.
use Rattle.std.proofs.Common.{◌≡◌, ℕ, ◌<◌, ◌^◌, true, length, sym, ap, ◌∙◌, arith, length-append}
use Rattle.calculus.specs.Tree.{Label}
use Rattle.calculus.specs.Congruence.{is_bag}
use Rattle.calculus.specs.Code.{head}
use Rattle.calculus.specs.CodeLaws.{Splits}
use Rattle.calculus.specs.Form.{Sort, kids}
use Rattle.calculus.proofs.Prefixes.{Splits-append, Splits-length, cut}
use Rattle.calculus.proofs.Heads.{lead, tail, blank, head-parts, is_bag-blank, kids-blank}
use Rattle.calculus.proofs.Known.{IsForm, one-form, same-length}
use Rattle.calculus.proofs.Tails.{one-be32, IsFine, tails}
use Rattle.calculus.proofs.Counted.{counted, counted-blank, counted-tail}

module _ (s : Sort) (l m : Label) (n k : ℕ) (h : IsForm (kids s l 0)) (g : IsForm (kids s m 0)) where
  leads : Splits (lead l) (lead m)
  leads = Splits-length (lead l) (lead m) (same-length s l m 0 0 h g)

  pub heads : IsFine l → IsFine m → length (head l n) < 2 ^ 32 → length (head m k) < 2 ^ 32 → Splits (head l n) (head m k)
  heads a b c d =
      let p : length (tail l n) < 2 ^ 32 = omega (arith, ap length (head-parts l n), length-append (lead l) (tail l n)) in
      let q : length (tail m k) < 2 ^ 32 = omega (arith, ap length (head-parts m k), length-append (lead m) (tail m k)) in
      rw (head-parts l n, head-parts m k)
      (Splits-append (lead l) (lead m) (tail l n) (tail m k) leads (λ e. tails l m n k (one-form s l m 0 0 h g e) a b p q))

  -- the heads are equal, and the number of constituents has room in four bytes
  module _ (e : head l n ≡ head m k) (a : n < 2 ^ 32) (b : k < 2 ^ 32) where
    pieces : (lead l ≡ lead m) × (tail l n ≡ tail m k)
    pieces = cut (lead l) (lead m) (tail l n) (tail m k) leads (sym (head-parts l n) ∙ e ∙ head-parts m k)

    pub same-blank : blank l ≡ blank m
    same-blank = one-form s l m 0 0 h g pieces.0

    pub same-bag : is_bag l ≡ is_bag m
    same-bag = sym (is_bag-blank l) ∙ ap is_bag same-blank ∙ is_bag-blank m

    pub same-counted : counted l ≡ counted m
    same-counted = sym (counted-blank l) ∙ ap counted same-blank ∙ counted-blank m

    pub same-count : counted l ≡ true → n ≡ k
    same-count c = one-be32 n k a b (sym (counted-tail l n c) ∙ pieces.1 ∙ counted-tail m k (sym same-counted ∙ c))

    pub same-kids : kids s m 0 ≡ kids s l 0
    same-kids = sym (kids-blank s m 0) ∙ ap (λ x. kids s x 0) (sym same-blank) ∙ kids-blank s l 0

    pub same-tail : tail l n ≡ tail m k
    same-tail = pieces.1
