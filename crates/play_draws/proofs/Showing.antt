-- What was found in hand shows the entry's step.
use Rattle.std.proofs.Common.{◌≡◌, ℕ, Bool, true, false, ◌||◌, cond, List, [], ◌∷◌, map as each, refl, sym, ap, subst, ◌∙◌, inl, inr}
use Rattle.std.specs.Prelude.{Some}
use Rattle.std.specs.Str.{bytes_eq}
use Rattle.calculus.specs.Log.{Step}
use Rattle.calculus.specs.Outcome.{capped}
use Rattle.calculus.specs.Rows.{Row, stdout, stdout_ack}
use Rattle.calculus.specs.Runs.{Deploy, body_work}
use Rattle.calculus.specs.Seeds.{digest_of, Comm}
use Rattle.calculus.specs.Shape.{at}
use Rattle.calculus.specs.Steps.{line}
use Rattle.calculus.specs.Unfolding.{unfold_in, unfold_under}
use Rattle.events.specs.Found.{has_built_in_id, printed_by, step_of}
use Rattle.found_rows.specs.declared.found.Found.{Found}
use Rattle.found_rows.specs.AtHand.{MeetsAtHand}
use Rattle.found_rows.specs.Making.{step_with, times_made, printed_line}
use Rattle.events.specs.Allowed.{MakesStep}
use Rattle.hub_scenes.specs.PlayScene.{IsShownHere}
use Rattle.play_hub.specs.declared.entry.PlayEntry.{PlayEntry}
use Rattle.play_hub.specs.Values.{making_of}
use Rattle.play_draws.specs.declared.making.Ready.{Ready}
use Rattle.play_draws.specs.Making.{steps_drawn, IsReady}

module _ (deploy : Deploy) (all : List Row) (o : Row) (f : Found) (m : MeetsAtHand all o f) (took : List (ℕ × PlayEntry)) (r : Ready) (i : IsReady deploy.prices deploy.limit f took r) where
  abbrev n : ℕ
  n = r.made.step.repeat

  body : body_work deploy.prices deploy.limit i.said.0 (step_with f n) m.meeting ≡ Some i.work
  body = subst (λ b. capped deploy.limit (unfold_under (unfold_in deploy.prices i.said.0) (digest_of (Comm f.cont.0 (each (λ d. d.0) f.taken.items) n)) m.meeting.bindings b) ≡ Some i.work) m.body
      (subst (λ vs. capped deploy.limit (unfold_under (unfold_in deploy.prices i.said.0) (digest_of (Comm f.cont.0 (each (λ d. d.0) f.taken.items) n)) vs f.body) ≡ Some i.work) m.bound i.said.1)

  -- after as many steps like it as its number says it is the next one
  next-is : (made : List Step) (k : ℕ) → k ≡ times_made f made → step_with f k ≡ step_of made m.receiver m.sends
  next-is made k e = ap (λ j. step_with f j) e ∙ cc (m.cont, m.taken)

  printed : printed_line f ≡ printed_by (m.receiver ∷ m.sends) m.meeting
  printed = ap (λ z. cond (bytes_eq z stdout.id || bytes_eq z stdout_ack.id) (line (at 0 f.bound.items)) []) m.cont ∙ ap (λ vs. cond (has_built_in_id m.receiver) (line (at 0 vs)) []) m.bound

  makes : (made : List Step) → n ≡ times_made f made → MakesStep deploy all made o (making_of r.made) i.work
  makes made e = record {
    receiver = m.receiver;
    sends = m.sends;
    at_hand = m.at_hand;
    part = m.part;
    differs = λ t. m.differs t;
    found = m.meeting;
    meets = m.meets;
    step = i.step ∙ next-is made n e;
    gone = ap (λ v. each (λ d. d.0) v.items) i.seen ∙ m.gone;
    line = i.line ∙ printed;
    room = i.said.0;
    work = subst (λ s. body_work deploy.prices deploy.limit i.said.0 s m.meeting ≡ Some i.work) (sym i.step) body;
    offers = ap (λ v. v.items) i.offered ∙ i.offers;
    price = i.price;
    fault = i.fault;
  }

  pub shows-step : IsShownHere deploy all (steps_drawn took) o (Some (making_of r.made))
  unfolding makes
  shows-step = go f.lasting refl
    where
      go : (b : Bool) → f.lasting ≡ b → IsShownHere deploy all (steps_drawn took) o (Some (making_of r.made))
      go true l = inl (i.work, makes (steps_drawn took) (i.right.counted l))
      go false l = inr (i.work, makes [] (i.right.none l), sym m.lasting ∙ l)
