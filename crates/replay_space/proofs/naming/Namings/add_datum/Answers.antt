use Rattle.std.proofs.Common.{◌≡◌, ◌++◌, ◌∷◌, [], List, ℕ, get_or, take, map as each, sym, ap, subst, ◌∙◌}
use Rattle.std.proofs.lemmas.List.{get_or_default}
use Rattle.std.proofs.lemmas.Result.{IfOk-weaker}
use Rattle.calculus.specs.declared.ids.Digest.{Digest}
use Rattle.calculus.specs.Steps.{is_one_of}
use Rattle.replay_space.specs.Rigs.{AreNamed}
use Rattle.replay_space.proofs.Filed.{mapped-more}
use Rattle.replay_space.proofs.Drafting.{named-again}
use Rattle.replay_space.proofs.naming.Namings.add_datum.Goals as goal

pub returns-then-was_named-clause-named : goal.returns-then-was_named-clause-named
returns-then-was_named-clause-named c before place h =
    let taken = c.args.step.now.taken.items in
    let first = c.args.step.now.cont in
    let ids = first.0 ∷ each (λ (z : Digest). z.0) (take c.args.place taken) in
    subst (λ (more : List (List ℕ)). AreNamed before (first.0 ∷ more) c.args.self.now) (sym (mapped-more (λ (z : Digest). z.0) taken c.args.place first c.requires))
    (named-again before ids (get_or taken c.args.place first).0 c.args.self.now (sym c.was_named.ensures ∙ c.if-was_named.true) h)

pub returns-clause-named : goal.returns-clause-named
returns-clause-named c before place h =
    let taken = c.args.step.now.taken.items in
    let first = c.args.step.now.cont in
    let seen = each (λ (z : Digest). z.0) (take c.args.place taken) in
    let id : Digest = c.index.result.now in
    let same : id ≡ get_or taken c.args.place first = c.index.ensures ∙ get_or_default taken c.args.place id first c.requires in
    let more = mapped-more (λ (z : Digest). z.0) taken c.args.place id c.requires ∙ ap (λ (z : Digest). seen ++ z.0 ∷ []) (sym c.index.ensures) in
    IfOk-weaker c.add.result _ _ (λ u named. subst (λ (ids : List (List ℕ)). AreNamed before (first.0 ∷ ids) c.add.new.self) (sym more) named)
    (c.add.ensures.named before (first.0 ∷ seen) place (ap (λ (z : Digest). is_one_of z.0 (first.0 ∷ seen)) same ∙ sym c.was_named.ensures ∙ c.if-was_named.false) h)
