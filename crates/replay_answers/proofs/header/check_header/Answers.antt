use Rattle.std.proofs.Common.{◌≡◌, ◌∙◌, false, ◌&&◌, leb, List, ℕ, refl, sym, ap}
use Rattle.std.specs.Prelude.{Some}
use Rattle.std.specs.Str.{bytes_eq}
use Rattle.replays.specs.Replays.{wrong_prices, wrong_limit}
use Rattle.event_log.specs.View.{header_of}
use Rattle.replay_answers.proofs.Headers.{base_refused, source_refused, prices_refused, limit_refused, not_refused, they_differ, they_agree, none_allowed, too_much, in_range}
use Rattle.replay_answers.proofs.header.check_header.Goals.{then-header-eq0-via-then-header-eq0, then-header-eq0-via-else-header-eq0+then-header-most}
use Rattle.replay_answers.proofs.header.check_header.Goals as goal

pub returns-then-ne-clause-refusal : goal.returns-then-ne-clause-refusal
returns-then-ne-clause-refusal c =
    let h = c.args.header.now in
    λ rows t e. (refl, base_refused rows c.args.base.now.0 e c.args.prices.now t c.args.source.now.0 (header_of h) (they_differ h.base.0 (c.args.base.now.0) c.ne.result c.ne.ensures c.if-ne.true))

pub returns-then-ne-2-clause-refusal : goal.returns-then-ne-2-clause-refusal
returns-then-ne-2-clause-refusal c =
    let h = c.args.header.now in
    let source = c.args.source.now.0 in
    λ rows t e. (
      refl,
      source_refused rows c.args.base.now.0 e c.args.prices.now t source (header_of h) (they_agree h.base.0 (c.args.base.now.0) c.ne.result c.ne.ensures c.if-ne.false)
          (they_differ h.source.0 source c.ne-2.result c.ne-2.ensures c.if-ne-2.true),
    )

pub returns-then-ne-3-clause-refusal : goal.returns-then-ne-3-clause-refusal
returns-then-ne-3-clause-refusal c =
    let h = c.args.header.now in
    let source = c.args.source.now.0 in
    let digest : List ℕ = c.digest-given.result.0 in
    let other = they_differ h.prices.0 digest c.ne-3.result c.ne-3.ensures c.if-ne-3.true in
    λ rows t e. (
      refl,
      prices_refused rows c.args.base.now.0 e c.args.prices.now t source (header_of h) (they_agree h.base.0 (c.args.base.now.0) c.ne.result c.ne.ensures c.if-ne.false)
          (they_agree h.source.0 source c.ne-2.result c.ne-2.ensures c.if-ne-2.false) (ap (bytes_eq h.prices.0) (sym c.digest-given.ensures) ∙ other) ∙ ap (λ (d : List ℕ). Some (wrong_prices h.prices.0 d)) (sym c.digest-given.ensures),
    )

pub returns-then-header-eq0-clause-refusal : goal.returns-then-header-eq0-clause-refusal
returns-then-header-eq0-clause-refusal c =
    let p = c.args.prices.now in
    let h = c.args.header.now in
    let source = c.args.source.now.0 in
    let most = c.most_limit-most.result in
    let out : leb 1 h.limit && leb h.limit most ≡ false =
    elim c.then-header-eq0.branch [
      | then-header-eq0-via-then-header-eq0 w ↦ none_allowed h.limit most w.if-header-eq0.true
      | then-header-eq0-via-else-header-eq0+then-header-most w ↦ too_much h.limit most w.if-header-eq0.false w.if-header-most.true
    ] in
    λ rows t e. (
      refl,
      limit_refused rows c.args.base.now.0 e p t source (header_of h) (they_agree h.base.0 (c.args.base.now.0) c.ne.result c.ne.ensures c.if-ne.false)
          (they_agree h.source.0 source c.ne-2.result c.ne-2.ensures c.if-ne-2.false) (they_agree h.prices.0 c.digest-given.result.0 c.ne-3.result c.ne-3.ensures c.if-ne-3.false ∙ c.digest-given.ensures)
          (ap (λ (m : ℕ). leb 1 h.limit && leb h.limit m) (sym c.most_limit-most.ensures.limit) ∙ out) ∙ ap (λ (m : ℕ). Some (wrong_limit h.limit m)) (sym c.most_limit-most.ensures.limit),
    )

pub returns-clause-refusal : goal.returns-clause-refusal
returns-clause-refusal c =
    let p = c.args.prices.now in
    let h = c.args.header.now in
    let source = c.args.source.now.0 in
    let most = c.most_limit-most.result in
    λ rows t e. not_refused rows c.args.base.now.0 e p t source (header_of h) (they_agree h.base.0 (c.args.base.now.0) c.ne.result c.ne.ensures c.if-ne.false)
    (they_agree h.source.0 source c.ne-2.result c.ne-2.ensures c.if-ne-2.false) (they_agree h.prices.0 c.digest-given.result.0 c.ne-3.result c.ne-3.ensures c.if-ne-3.false ∙ c.digest-given.ensures)
    (ap (λ (m : ℕ). leb 1 h.limit && leb h.limit m) (sym c.most_limit-most.ensures.limit) ∙ in_range h.limit most c.if-header-eq0.false c.if-header-most.false)
