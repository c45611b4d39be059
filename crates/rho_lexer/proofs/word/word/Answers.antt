use Rattle.std.proofs.Common.{◌≡◌, ◌<◌, ◌+◌, length, take, sym, ◌∙◌, true, false, arith}
use Rattle.tokens.specs.Tables.{keys, is_among}
use Rattle.rho_lexer.proofs.Ascii.{key_is_ascii, word_is_ascii}
use Rattle.rho_lexer.proofs.Words.{reads_longer_key, reads_word_or_key}
use Rattle.rho_lexer.proofs.word.word.Goals.{else-len-text-via-then-len-text+else-is_key, else-len-text-via-else-len-text}
use Rattle.rho_lexer.proofs.word.word.Goals as goal

pub owned-requires : goal.owned-requires
owned-requires c = key_is_ascii (take (c.word_run-len.result + 1) c.args.text.now) (sym c.is_key.ensures ∙ c.if-is_key.true)

pub returns-then-is_key : goal.returns-then-is_key
returns-then-is_key c at = reads_longer_key at c.args.text.now c.word_run-len.result _ c.word_run-len.ensures c.requires c.if-len-text.true
    (sym c.is_key.ensures ∙ c.if-is_key.true) c.in_ok-name.ensures

pub owned-requires-2 : goal.owned-requires-2
owned-requires-2 c = word_is_ascii c.args.text.now c.word_run-len.result c.word_run-len.ensures

pub returns-then-is_key-2 : goal.returns-then-is_key-2
returns-then-is_key-2 c at =
    let shorter : c.word_run-len.result < length c.args.text.now → is_among keys (take (c.word_run-len.result + 1) c.args.text.now) ≡ false =
    elim c.else-len-text.branch [
      | else-len-text-via-then-len-text+else-is_key w ↦ λ l. sym w.is_key.ensures ∙ w.if-is_key.false
      | else-len-text-via-else-len-text w ↦ λ l. absurd (omega arith)
    ] in
    reads_word_or_key at c.args.text.now c.word_run-len.result _ true c.word_run-len.ensures c.requires shorter
    (sym c.is_key-2.ensures ∙ c.if-is_key-2.true) c.in_ok-name-2.ensures

pub returns-else-is_key-2 : goal.returns-else-is_key-2
returns-else-is_key-2 c at =
    let shorter : c.word_run-len.result < length c.args.text.now → is_among keys (take (c.word_run-len.result + 1) c.args.text.now) ≡ false =
    elim c.else-len-text.branch [
      | else-len-text-via-then-len-text+else-is_key w ↦ λ l. sym w.is_key.ensures ∙ w.if-is_key.false
      | else-len-text-via-else-len-text w ↦ λ l. absurd (omega arith)
    ] in
    reads_word_or_key at c.args.text.now c.word_run-len.result _ false c.word_run-len.ensures c.requires shorter
    (sym c.is_key-2.ensures ∙ c.if-is_key-2.false) c.in_ok-name-2.ensures
