use Rattle.std.proofs.Common.{◌≡◌, true, false, sym, ◌∙◌, ap, map, ⊎_elim}
use Rattle.events.proofs.Groups.{same, equal}
use Rattle.checkpoint.specs.Groups.{keys_in}
use Rattle.checkpoint.proofs.Adding.{open-new}
use Rattle.checkpoint.proofs.Apart.{not-there}
use Rattle.checkpoint.proofs.groups.Groups.turn.Goals as goal

pub returns-then-are_equal-clause-key : goal.returns-then-are_equal-clause-key
returns-then-are_equal-clause-key g c = sym (same _ _ (sym c.are_equal.ensures ∙ c.if-are_equal.true))

pub returns-clause-holds : goal.returns-clause-holds
returns-clause-holds g c = λ rows h p.
    let n = ⊎_elim (λ e. absurd (apart (sym (equal _ _ e) ∙ sym c.are_equal.ensures ∙ c.if-are_equal.false))) (λ n. n) p in
    record {
      codes = ap (map (λ s. s.now)) c.in_ok-close.ensures.codes ∙ sym n;
      closed = open-new c.close.new.self.closed.items c.args.key.now.0 rows n (c.in_ok-close.ensures.closed rows h);
      apart = c.in_ok-close.ensures.apart rows h;
      last = not-there rows c.args.key.now.0 (keys_in c.close.new.self.closed.items) (c.in_ok-close.ensures.apart rows h).some n;
    }
  where
    apart : true ≡ false → ⊥
    apart e = cc
