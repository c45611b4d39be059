use Rattle.std.proofs.Common.{◌≡◌, ◌+◌, ◌++◌, ◌∷◌, [], ℕ, List, length, sym, ap, ◌∙◌, arith, append-nil}
use Rattle.replay_space.specs.Rigs.{ends_from, joined}
use Rattle.replay_space.proofs.Listed.{ends-more, joined-more}
use Rattle.replay_space.proofs.lists.Lists.end_list.Goals as goal

pub returns : goal.returns
returns c ls l h =
    let end : c.len-end.result ≡ 0 + length (joined ls ++ l) = omega (arith, c.len-end.ensures, ap (λ (u : List ℕ). length u) h.values) in
    record {
      ends = c.in_ok-push.ensures.items ∙ ap (λ (u : List ℕ). u ++ c.len-end.result ∷ []) h.ends ∙ ap (λ n. ends_from 0 ls ++ n ∷ []) end ∙ sym (ends-more 0 ls l);
      values = h.values ∙ sym (joined-more ls l) ∙ sym (append-nil (joined (ls ++ l ∷ [])));
    }
