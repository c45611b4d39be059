-- Why the header of a log is refused.
use Rattle.std.proofs.Common.{◌≡◌, ◌≢◌, ◌≤◌, ◌<◌, ℕ, zero, suc, Bool, true, false, not, cond, ◌&&◌, leb, List, refl, sym, ◌∙◌, ap, arith}
use Rattle.std.specs.Prelude.{Option, Some, None, Err, IfSome}
use Rattle.std.specs.Str.{bytes_eq}
use Rattle.std.proofs.lemmas.Bool.Decides.{nat_tests}
use Rattle.calculus.specs.Tree.{Tree}
use Rattle.calculus.specs.Outcome.{Prices}
use Rattle.calculus.specs.Log.{Header, Step}
use Rattle.calculus.specs.Root.{root}
use Rattle.calculus.specs.Rows.{Row}
use Rattle.events.proofs.Counts.{same_bytes, bytes_same}
use Rattle.replays.specs.Replays.{Given, Refusal, refused, wrong_base, wrong_source, wrong_prices, wrong_limit, unless_equal, header_refusal, Answers, by_header}
use Rattle.replays.specs.Refusals.{refusal_of}
use Rattle.replays.specs.declared.fault.ReplayFault.{ReplayFault}
use Rattle.replay_answers.specs.Answers.{IsAnswered}
use Rattle.calculus.specs.Limits.{price_digest, most_limit}
use Rattle.replay_answers.specs.Bases.{asked}

refused-here : (x y : List ℕ) (r : Refusal) (next : Option Refusal) → bytes_eq x y ≡ false → unless_equal x y r next ≡ Some r
refused-here x y r next h = ap (λ b. cond b next (Some r)) h

refused-later : (x y : List ℕ) (r : Refusal) (next : Option Refusal) → x ≡ y → unless_equal x y r next ≡ next
refused-later x y r next e = ap (λ b. cond b next (Some r)) (same_bytes x y e)

module _ (rows : List Row) (base : List ℕ) (rooted : root rows ≡ base) (p : Prices) (t : Tree) (source : List ℕ) (h : Header) where
  -- what a header is refused for beside its base, beside that and its source, and beside these and its prices
  of-limit : Option Refusal
  of-limit = cond (leb 1 h.limit && leb h.limit (most_limit p)) None (Some (wrong_limit h.limit (most_limit p)))

  base-is : h.base ≡ base → h.base ≡ root rows
  base-is e = e ∙ sym rooted

  pub base_refused : bytes_eq h.base base ≡ false → header_refusal (asked rows t source p) h ≡ Some (wrong_base h.base base)
  base_refused n = refused-here h.base (root rows) (wrong_base h.base (root rows)) _ (ap (bytes_eq h.base) rooted ∙ n) ∙ ap (λ (d : List ℕ). Some (wrong_base h.base d)) rooted

  module _ (right : h.base ≡ base) where
    pub source_refused : bytes_eq h.source source ≡ false → header_refusal (asked rows t source p) h ≡ Some (wrong_source h.source source)
    source_refused n = refused-later h.base (root rows) (wrong_base h.base (root rows)) _ (base-is right) ∙ refused-here h.source source (wrong_source h.source source) _ n

    module _ (named : h.source ≡ source) where
      past-source : header_refusal (asked rows t source p) h ≡ unless_equal h.prices (price_digest p) (wrong_prices h.prices (price_digest p)) of-limit
      unfolding of-limit
      past-source = refused-later h.base (root rows) (wrong_base h.base (root rows)) _ (base-is right) ∙ refused-later h.source source (wrong_source h.source source) _ named

      pub prices_refused : bytes_eq h.prices (price_digest p) ≡ false → header_refusal (asked rows t source p) h ≡ Some (wrong_prices h.prices (price_digest p))
      prices_refused n = past-source ∙ refused-here h.prices (price_digest p) (wrong_prices h.prices (price_digest p)) _ n

      module _ (priced : h.prices ≡ price_digest p) where
        past-prices : header_refusal (asked rows t source p) h ≡ of-limit
        past-prices = past-source ∙ refused-later h.prices (price_digest p) (wrong_prices h.prices (price_digest p)) of-limit priced

        pub limit_refused : leb 1 h.limit && leb h.limit (most_limit p) ≡ false → header_refusal (asked rows t source p) h ≡ Some (wrong_limit h.limit (most_limit p))
        unfolding of-limit
        limit_refused n = past-prices ∙ ap (λ b. cond b None (Some (wrong_limit h.limit (most_limit p)))) n

        pub not_refused : leb 1 h.limit && leb h.limit (most_limit p) ≡ true → header_refusal (asked rows t source p) h ≡ None
        unfolding of-limit
        not_refused y = past-prices ∙ ap (λ b. cond b None (Some (wrong_limit h.limit (most_limit p)))) y

-- what a test of two digests says
pub they_differ : (x y : List ℕ) (b : Bool) → b ≡ not (bytes_eq x y) → b ≡ true → bytes_eq x y ≡ false
they_differ x y b e h = go (bytes_eq x y) (sym e ∙ h)
  where
    go : (c : Bool) → not c ≡ true → c ≡ false
    go true n = sym n
    go false n = refl

pub they_agree : (x y : List ℕ) (b : Bool) → b ≡ not (bytes_eq x y) → b ≡ false → x ≡ y
they_agree x y b e h = bytes_same x y (go (bytes_eq x y) (sym e ∙ h))
  where
    go : (c : Bool) → not c ≡ false → c ≡ true
    go true n = refl
    go false n = sym n

-- what the tests of a limit say
some : (n : ℕ) → n ≢ 0 → 1 ≤ n
some zero h = absurd (h refl)
some (suc n) h = omega arith

pub none_allowed : (limit most : ℕ) → limit ≡ 0 → leb 1 limit && leb limit most ≡ false
none_allowed limit most e = ap (λ n. leb 1 n && leb n most) e

above : (limit most : ℕ) → 1 ≤ limit → most < limit → leb 1 limit && leb limit most ≡ false
above limit most k h = grind (arith, nat_tests)

pub too_much : (limit most : ℕ) → limit ≢ 0 → most < limit → leb 1 limit && leb limit most ≡ false
too_much limit most k h = above limit most (some limit k) h

within : (limit most : ℕ) → 1 ≤ limit → limit ≤ most → leb 1 limit && leb limit most ≡ true
within limit most k h = grind (arith, nat_tests)

pub in_range : (limit most : ℕ) → limit ≢ 0 → limit ≤ most → leb 1 limit && leb limit most ≡ true
in_range limit most k h = within limit most (some limit k) h

-- a fault of the header is the answer
pub header-answered : (g : Given) (h : Header) (ss : List Step) (e : ReplayFault) → header_refusal g h ≡ refusal_of e → IsAnswered g h ss (Err e)
header-answered g h ss e f = go (refusal_of e) f
  where
    go : (o : Option Refusal) → header_refusal g h ≡ o → IfSome o (λ r. Answers g h ss (refused r))
    go None k = tt
    go (Some r) k = by_header k

pub none-is-not-some : (r : Refusal) → None ≡ Some r → ⊥
none-is-not-some r e = cc
