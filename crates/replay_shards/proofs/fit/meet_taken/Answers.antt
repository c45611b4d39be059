use Rattle.std.proofs.Common.{◌≡◌, ◌∷◌, ℕ, List, sym, ap, subst, ◌∙◌}
use Rattle.std.specs.Prelude.{◌||◌, eqb, None, Option, MatchOption}
use Rattle.calculus.specs.declared.ids.Digest.{Digest}
use Rattle.calculus.specs.Log.{Step}
use Rattle.calculus.specs.Rows.{Row}
use Rattle.events.specs.Found.{met}
use Rattle.found_rows.specs.declared.found.Found.{Found}
use Rattle.row_meeting.specs.Meeting.{IsMeeting}
use Rattle.hub_scenes.specs.Spaces.{bare}
use Rattle.replay_slots.specs.Hands.{all_shown, parts_of}
use Rattle.replay_shards.specs.Ready.{AreBut, AreNext}
use Rattle.replay_shards.specs.Taken.{bytes_of, AreFound}
use Rattle.replay_shards.proofs.Trying.{found-id}
use Rattle.replay_shards.proofs.fit.meet_taken.Goals as goal

pub returns : goal.returns
returns c ss r ds rig steps h same are =
    let shown = all_shown (parts_of c.args.attempt.now.slots.now) in
    let o = c.in_ok-found.field-0 in
    let f = c.in-Some.found in
    let told = subst (λ (z : Option Found). MatchOption z (met (c.args.receiver.now ∷ c.args.sends.now) ≡ None) (IsMeeting c.args.receiver.now c.args.sends.now)) c.in-Some.is c.in_ok-found.ensures in
    let found : IsMeeting r.row (bare ds) f = subst (λ (q : Row). IsMeeting q (bare ds) f) (sym same) (subst (λ (l : List Row). IsMeeting c.args.receiver.now l f) (sym are) told) in
    record {
      found = found;
      may = ap (λ b. eqb c.args.wanted.now.repeat 0 || b) (sym found.lasting) ∙ sym c.may_be_made.ensures ∙ c.if-not-may_be_made.false;
      all = c.in_ok-all.all.items;
      but = subst (λ (x : List ℕ). AreBut ss shown x c.in_ok-all.all.items c.but_early-next.result.items) (found-id c.args.wanted.now.cont.0 shown r h.0)
          (subst (λ (us : List Step). AreBut us shown c.args.wanted.now.cont.0 c.in_ok-all.all.items c.but_early-next.result.items) (sym steps) c.but_early-next.ensures);
      next = subst (λ (ids : List Digest). AreNext ss (bytes_of ids) (r ∷ ds) c.in_ok-all.all.items) c.as_slice.ensures.value (c.in_ok-all.ensures ss r ds rig (h.0, subst (λ (ids : List Digest). AreFound (all_shown (parts_of c.args.attempt.now.slots.now)) (bytes_of ids) ds) (sym c.as_slice-2.ensures.value) h.1));
    }
