use Rattle.std.proofs.Common.{◌≡◌, ◌<◌, ◌^◌, length, pos, ap, sym, ◌∙◌, rules, arith, w64}
use Rattle.std.proofs.lemmas.Int.{to_z_pos}
use Rattle.std.proofs.lemmas.Str.{chars_from_encodes}
use Rattle.std.specs.Str.{chars}
use Rattle.calculus.specs.declared.plain.Ground.TheVariants.{Int}
use Rattle.value_ops.proofs.Characters.{characters-counted}
use Rattle.value_ops.proofs.texts.text_length.Goals as goal

pub returns : goal.returns
returns c =
    let n : c.count.result ≡ length (chars c.args.text.now) = search (rules, chars_from_encodes) in
    let small : c.count.result < 2 ^ 63 = search rules in
    ap Int (to_z_pos w64 c.count.result small ∙ ap pos (n ∙ sym (characters-counted c.args.text.now c.utf8.text)))
