use Rattle.std.proofs.Common.{◌∙◌, ap, ◌++◌, ◌∷◌, [], sym, subst, arith, Option, List, ℕ, None, slice_index_or}
use Rattle.hub_rule.specs.Meaning.{AllFollow}
use Rattle.hub_rule.specs.Rule.{Carries}
use Rattle.hub_runs.specs.Numbers.{numbers, offer}
use Rattle.hub_runs.proofs.Draws.{follow_self, has_space, carries_on, offer_short}
use Rattle.hub_rule.specs.Counts.{things_of}
use Rattle.hub_rule.proofs.Offers.{things_numbered}
use Rattle.hub_runs.proofs.work.draw_work.Goals as goal

pub commit-requires-clause-allowed : goal.commit-requires-clause-allowed
commit-requires-clause-allowed c κs =
    let held = c.args.seat.now.state.token.me.0.held in
    let P : List ℕ → Type 0 = λ es. AllFollow numbers es held held in
    (held, subst P (sym c.requires.since) (follow_self held), has_space held (λ k. slice_index_or c.args.hand.now.rows k None) c.args.work c.in-Some.x (sym c.in-Some.ensures) (let x = c.if-x-ge18446744073709551615.false in omega arith) c.requires.carries)

pub commit-requires-clause-carries : goal.commit-requires-clause-carries
commit-requires-clause-carries c κs =
    let held = c.args.seat.now.state.token.me.0.held in
    let f' : ℕ → Option ℕ = λ k. slice_index_or c.put.new.self.rows k None in
    let P : List ℕ → Type 0 = λ es. Carries numbers (es ++ c.args.work ∷ []) held f' in
    subst P (sym c.requires.since) (carries_on held (λ k. slice_index_or c.args.hand.now.rows k None) f' c.args.work c.in-Some.x (sym c.in-Some.ensures) c.put.ensures.here c.put.ensures.others c.requires.carries)

pub returns-in_default-clause-carries : goal.returns-in_default-clause-carries
returns-in_default-clause-carries c =
    let P : List ℕ → Type 0 = λ es. Carries numbers es c.args.seat.now.state.token.me.0.held (λ k. slice_index_or c.args.hand.now.rows k None) in subst P (sym c.requires.since) c.requires.carries

pub returns-then-x-ge18446744073709551615-clause-carries : goal.returns-then-x-ge18446744073709551615-clause-carries
returns-then-x-ge18446744073709551615-clause-carries c =
    let P : List ℕ → Type 0 = λ es. Carries numbers es c.args.seat.now.state.token.me.0.held (λ k. slice_index_or c.args.hand.now.rows k None) in subst P (sym c.requires.since) c.requires.carries

pub commit-requires-clause-work : goal.commit-requires-clause-work
commit-requires-clause-work c κs = (c.requires.work.0, c.requires.work.1)

pub commit-requires-clause-few : goal.commit-requires-clause-few
commit-requires-clause-few c κs = let l = offer_short c.args.work in omega arith

pub commit-requires-clause-offers : goal.commit-requires-clause-offers
commit-requires-clause-offers c κs = c.more_works.ensures

pub returns-clause-carries : goal.returns-clause-carries
returns-clause-carries c =
    let P : List ℕ → List (ℕ × ℕ) → Type 0 = λ es hs. Carries numbers es hs (λ k. slice_index_or c.put.new.self.rows k None) in
    subst (λ es. P es c.charge.new.self.state.token.me.0.held) (sym c.charge.ensures.since) (subst (P c.commit.new.self.state.token.me.0.since) (sym c.charge.ensures.held) c.commit.ensures.carries)

pub returns-clause-drawn : goal.returns-clause-drawn
returns-clause-drawn c done =
    let o = c.commit.ensures.offered in
    (ap (λ p. p.taken) c.charge.ensures.works ∙ c.commit.ensures.taken, ap (λ p. things_of p.offered) c.charge.ensures.works ∙ (ap {A = List (ℕ × ℕ)} things_of o.1 ∙ things_numbered o.0 (offer c.args.work)))
