use Rattle.std.proofs.Common.{take, sym, arith}
use Rattle.std.proofs.lemmas.List.{length-take-le}
use Rattle.rho_lexer.proofs.Ascii.{sign_is_ascii}
use Rattle.rho_lexer.proofs.Signs.{reads_sign, reads_none, longest_sign}
use Rattle.rho_lexer.proofs.word.sign.Goals as goal

pub returns-then-len-eq0 : goal.returns-then-len-eq0
returns-then-len-eq0 c = reads_none c.args.at c.args.text.now c.sign_len-len.result
    (record { some = c.requires.some; digit = c.requires.digit; quote = c.requires.quote; back_quote = c.requires.back_quote; word = c.requires.word })
    c.sign_len-len.ensures c.if-len-eq0.true

pub slice_bounds-owned-end : goal.slice_bounds-owned-end
slice_bounds-owned-end c =
    let most = longest_sign c.args.text.now c.sign_len-len.result c.sign_len-len.ensures in
    sym (length-take-le c.sign_len-len.result c.args.text.now most.within)

pub owned-requires : goal.owned-requires
owned-requires c =
    let most = longest_sign c.args.text.now c.sign_len-len.result c.sign_len-len.ensures in
    sign_is_ascii (take c.sign_len-len.result c.args.text.now) (most.passes (omega arith))

pub returns : goal.returns
returns c = reads_sign c.args.at c.args.text.now c.sign_len-len.result _
    (record { some = c.requires.some; digit = c.requires.digit; quote = c.requires.quote; back_quote = c.requires.back_quote; word = c.requires.word })
    c.sign_len-len.ensures (omega arith) c.in_ok-name.ensures
