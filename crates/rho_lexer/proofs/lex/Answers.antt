use Rattle.std.proofs.Common.{◌≡◌, ◌+◌, ◌-◌, [], ◌∷◌, ◌++◌, length, take, drop, sym, ◌∙◌, ap, subst, arith}
use Rattle.std.proofs.lemmas.List.{map-append}
use Rattle.tokens.specs.Reading.{HasTokens}
use Rattle.tokens.specs.Token.{source, end_of_text, spanned}
use Rattle.tokens.proofs.OneReading.{same_outcome}
use Rattle.tokens.proofs.Order.{tokens_in_order}
use Rattle.tokens.proofs.Within.{token_within}
use Rattle.rho_lexer.specs.Meaning.{IsFault, kind_token, spanned_token, spanned_tokens}
use Rattle.rho_lexer.proofs.Lexing.{over_gaps, over_a_token, whole_text, refused_at, gap_some, gap_none, gap_within, is_there, fault_excludes, only_fault, fault_exit}
use Rattle.rho_lexer.proofs.lex.Goals as goal

pub returns-in_err-len-clause-fault : goal.returns-in_err-len-clause-fault
returns-in_err-len-clause-fault c = fault_exit _ _ c.from_residual.result c.in_err-len.field-0.0 c.from_residual.ensures.1
    (refused_at c.args.text.now c.loop-at.at (spanned_tokens c.loop-at.tokens.items) c.in_err-len.field-0.0 c.loop-at.invariant.so_far c.in_err-len.ensures)

pub returns-in_err-len-clause-only_tokens : goal.returns-in_err-len-clause-only_tokens
returns-in_err-len-clause-only_tokens c tokens h = fault_exit _ _ c.from_residual.result c.in_err-len.field-0.0 c.from_residual.ensures.1
    (fault_excludes c.args.text.now c.in_err-len.field-0.0 (refused_at c.args.text.now c.loop-at.at (spanned_tokens c.loop-at.tokens.items) c.in_err-len.field-0.0 c.loop-at.invariant.so_far c.in_err-len.ensures) tokens h)

pub returns-in_err-len-clause-only_fault : goal.returns-in_err-len-clause-only_fault
returns-in_err-len-clause-only_fault c r h = fault_exit _ _ c.from_residual.result c.in_err-len.field-0.0 c.from_residual.ensures.1
    (only_fault c.args.text.now c.in_err-len.field-0.0 (refused_at c.args.text.now c.loop-at.at (spanned_tokens c.loop-at.tokens.items) c.in_err-len.field-0.0 c.loop-at.invariant.so_far c.in_err-len.ensures) r h)

pub returns-in_err-kind-in-None-clause-fault : goal.returns-in_err-kind-in-None-clause-fault
returns-in_err-kind-in-None-clause-fault c = fault_exit _ _ c.from_residual-in_err-kind-in-None.result c.in_err-kind-in-None.field-0.0 c.from_residual-in_err-kind-in-None.ensures.1
    (refused_at c.args.text.now c.loop-at.at (spanned_tokens c.loop-at.tokens.items) c.in_err-kind-in-None.field-0.0 c.loop-at.invariant.so_far
    (let none = gap_none c.loop-at.at (take (length c.args.text.now - c.loop-at.at) (drop c.loop-at.at c.args.text.now)) c.in_ok-len.field-0 c.in_ok-len.ensures c.in-None.is in subst (λ s. IsFault s c.in_err-kind-in-None.field-0.0) (sym none) c.in_err-kind-in-None.ensures))

pub returns-in_err-kind-in-None-clause-only_tokens : goal.returns-in_err-kind-in-None-clause-only_tokens
returns-in_err-kind-in-None-clause-only_tokens c tokens h = fault_exit _ _ c.from_residual-in_err-kind-in-None.result c.in_err-kind-in-None.field-0.0 c.from_residual-in_err-kind-in-None.ensures.1
    (fault_excludes c.args.text.now c.in_err-kind-in-None.field-0.0 (refused_at c.args.text.now c.loop-at.at (spanned_tokens c.loop-at.tokens.items) c.in_err-kind-in-None.field-0.0 c.loop-at.invariant.so_far
    (let none = gap_none c.loop-at.at (take (length c.args.text.now - c.loop-at.at) (drop c.loop-at.at c.args.text.now)) c.in_ok-len.field-0 c.in_ok-len.ensures c.in-None.is in subst (λ s. IsFault s c.in_err-kind-in-None.field-0.0) (sym none) c.in_err-kind-in-None.ensures)) tokens h)

pub returns-in_err-kind-in-None-clause-only_fault : goal.returns-in_err-kind-in-None-clause-only_fault
returns-in_err-kind-in-None-clause-only_fault c r h = fault_exit _ _ c.from_residual-in_err-kind-in-None.result c.in_err-kind-in-None.field-0.0 c.from_residual-in_err-kind-in-None.ensures.1
    (only_fault c.args.text.now c.in_err-kind-in-None.field-0.0 (refused_at c.args.text.now c.loop-at.at (spanned_tokens c.loop-at.tokens.items) c.in_err-kind-in-None.field-0.0 c.loop-at.invariant.so_far
    (let none = gap_none c.loop-at.at (take (length c.args.text.now - c.loop-at.at) (drop c.loop-at.at c.args.text.now)) c.in_ok-len.field-0 c.in_ok-len.ensures c.in-None.is in subst (λ s. IsFault s c.in_err-kind-in-None.field-0.0) (sym none) c.in_err-kind-in-None.ensures)) r h)

pub overflow_add-at : goal.overflow_add-at
overflow_add-at c = let there = is_there c.args.text.now c.loop-at.at c.in-Some.len c.loop-at.invariant.within (gap_within c.loop-at.at (take (length c.args.text.now - c.loop-at.at) (drop c.loop-at.at c.args.text.now)) c.in_ok-len.field-0 c.in-Some.len c.in_ok-len.ensures c.in-Some.is) in omega arith

pub loop-at-smaller-in-Some : goal.loop-at-smaller-in-Some
loop-at-smaller-in-Some c = let there = is_there c.args.text.now c.loop-at.at c.in-Some.len c.loop-at.invariant.within (gap_within c.loop-at.at (take (length c.args.text.now - c.loop-at.at) (drop c.loop-at.at c.args.text.now)) c.in_ok-len.field-0 c.in-Some.len c.in_ok-len.ensures c.in-Some.is) in omega arith

pub loop-at-preserved-in-Some : goal.loop-at-preserved-in-Some
loop-at-preserved-in-Some c = record {
  within = (is_there c.args.text.now c.loop-at.at c.in-Some.len c.loop-at.invariant.within (gap_within c.loop-at.at (take (length c.args.text.now - c.loop-at.at) (drop c.loop-at.at c.args.text.now)) c.in_ok-len.field-0 c.in-Some.len c.in_ok-len.ensures c.in-Some.is)).1;
  so_far = over_gaps c.args.text.now c.loop-at.at c.in-Some.len (spanned_tokens c.loop-at.tokens.items) c.loop-at.invariant.so_far
      (gap_some c.loop-at.at (take (length c.args.text.now - c.loop-at.at) (drop c.loop-at.at c.args.text.now)) c.in_ok-len.field-0 c.in-Some.len c.in_ok-len.ensures c.in-Some.is);
}

pub overflow_add-end : goal.overflow_add-end
overflow_add-end c =
    let there = is_there c.args.text.now c.loop-at.at c.in_ok-kind-in-None.len c.loop-at.invariant.within
    (token_within source c.loop-at.at (take (length c.args.text.now - c.loop-at.at) (drop c.loop-at.at c.args.text.now)) (kind_token c.in_ok-kind-in-None.kind) c.in_ok-kind-in-None.len c.in_ok-kind-in-None.ensures) in omega arith

pub loop-at-smaller : goal.loop-at-smaller
loop-at-smaller c =
    let there = is_there c.args.text.now c.loop-at.at c.in_ok-kind-in-None.len c.loop-at.invariant.within
    (token_within source c.loop-at.at (take (length c.args.text.now - c.loop-at.at) (drop c.loop-at.at c.args.text.now)) (kind_token c.in_ok-kind-in-None.kind) c.in_ok-kind-in-None.len c.in_ok-kind-in-None.ensures) in omega arith

pub loop-at-preserved : goal.loop-at-preserved
loop-at-preserved c =
    let there = is_there c.args.text.now c.loop-at.at c.in_ok-kind-in-None.len c.loop-at.invariant.within
    (token_within source c.loop-at.at (take (length c.args.text.now - c.loop-at.at) (drop c.loop-at.at c.args.text.now)) (kind_token c.in_ok-kind-in-None.kind) c.in_ok-kind-in-None.len c.in_ok-kind-in-None.ensures) in
    let none = gap_none c.loop-at.at (take (length c.args.text.now - c.loop-at.at) (drop c.loop-at.at c.args.text.now)) c.in_ok-len.field-0 c.in_ok-len.ensures c.in-None.is in
    let more : spanned_tokens c.push.new.self.items ≡ spanned_tokens c.loop-at.tokens.items ++ spanned (kind_token c.in_ok-kind-in-None.kind) c.loop-at.at (c.loop-at.at + c.in_ok-kind-in-None.len) ∷ [] =
    ap spanned_tokens c.in_ok-push-in-None.ensures.items ∙ map-append spanned_token c.loop-at.tokens.items _ in
    record {
      within = there.1;
      so_far = rw more (over_a_token c.args.text.now c.loop-at.at c.in_ok-kind-in-None.len (kind_token c.in_ok-kind-in-None.kind) (spanned_tokens c.loop-at.tokens.items)
          c.loop-at.invariant.so_far (none ∙ c.in_ok-kind-in-None.ensures));
    }

pub returns-clause-tokens : goal.returns-clause-tokens
returns-clause-tokens c =
    let more : spanned_tokens c.push-2.new.self.items ≡ spanned_tokens c.loop-at.tokens.items ++ spanned end_of_text c.loop-at.at c.loop-at.at ∷ [] =
    ap spanned_tokens c.in_ok-push.ensures.items ∙ map-append spanned_token c.loop-at.tokens.items _ in
    let found : HasTokens source c.args.text.now (spanned_tokens c.push-2.new.self.items) =
    rw more (whole_text c.args.text.now c.loop-at.at (spanned_tokens c.loop-at.tokens.items) (omega (arith, c.loop-at.invariant.within)) c.loop-at.invariant.so_far) in
    found

pub returns-clause-order : goal.returns-clause-order
returns-clause-order c =
    let more : spanned_tokens c.push-2.new.self.items ≡ spanned_tokens c.loop-at.tokens.items ++ spanned end_of_text c.loop-at.at c.loop-at.at ∷ [] =
    ap spanned_tokens c.in_ok-push.ensures.items ∙ map-append spanned_token c.loop-at.tokens.items _ in
    let found : HasTokens source c.args.text.now (spanned_tokens c.push-2.new.self.items) =
    rw more (whole_text c.args.text.now c.loop-at.at (spanned_tokens c.loop-at.tokens.items) (omega (arith, c.loop-at.invariant.within)) c.loop-at.invariant.so_far) in
    tokens_in_order source c.args.text.now (spanned_tokens c.push-2.new.self.items) found

pub returns-clause-only_tokens : goal.returns-clause-only_tokens
returns-clause-only_tokens c tokens h =
    let more : spanned_tokens c.push-2.new.self.items ≡ spanned_tokens c.loop-at.tokens.items ++ spanned end_of_text c.loop-at.at c.loop-at.at ∷ [] =
    ap spanned_tokens c.in_ok-push.ensures.items ∙ map-append spanned_token c.loop-at.tokens.items _ in
    let found : HasTokens source c.args.text.now (spanned_tokens c.push-2.new.self.items) =
    rw more (whole_text c.args.text.now c.loop-at.at (spanned_tokens c.loop-at.tokens.items) (omega (arith, c.loop-at.invariant.within)) c.loop-at.invariant.so_far) in
    let same = same_outcome found h in cc

pub returns-clause-only_fault : goal.returns-clause-only_fault
returns-clause-only_fault c r h =
    let more : spanned_tokens c.push-2.new.self.items ≡ spanned_tokens c.loop-at.tokens.items ++ spanned end_of_text c.loop-at.at c.loop-at.at ∷ [] =
    ap spanned_tokens c.in_ok-push.ensures.items ∙ map-append spanned_token c.loop-at.tokens.items _ in
    let found : HasTokens source c.args.text.now (spanned_tokens c.push-2.new.self.items) =
    rw more (whole_text c.args.text.now c.loop-at.at (spanned_tokens c.loop-at.tokens.items) (omega (arith, c.loop-at.invariant.within)) c.loop-at.invariant.so_far) in
    let same = same_outcome found h in cc
