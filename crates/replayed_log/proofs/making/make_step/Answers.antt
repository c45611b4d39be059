use Rattle.std.proofs.Common.{rules, ◌≡◌, ◌∙◌, ◌++◌, List, map as each, ap}
use Rattle.replay_hub.specs.declared.deed.Task.TheVariants.{Index}
use Rattle.replayed_log.proofs.making.make_step.Goals as goal

pub returns : goal.returns
returns g c =
    let w = c.in_ok-worked.ensures in
    let o : c.of-4.result.value ≡ c.in_ok-offers.offers = c.of-4.ensures in
    let n : c.of-5.result.value ≡ c.in_ok-next.next = c.of-5.ensures in
    record {
      work = w.work;
      said = search rules;
      same_step = search rules;
      same_channel = search rules;
      step = search rules;
      gone = search rules;
      seen = search rules;
      offers = rw o (c.in_ok-offers.ensures ∙ w.rows);
      next = search rules;
      price = search rules;
      fault = search rules;
      line = c.in_ok-line.ensures ∙ w.line;
      tasks = rw (o, n) (c.in_ok-tasks.ensures.are ∙ ap (λ (l : List _). l ++ each (λ t. Index t) c.in_ok-next.next.items) c.in_ok-arrivals.ensures);
      few = search rules;
    }
