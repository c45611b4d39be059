use Rattle.std.proofs.Common.{◌≡◌, false, [], ◌∷◌, refl, sym, ap, ◌∙◌, rules, string_bytes}
use Rattle.std.specs.Str.{bytes_eq}
use Rattle.std.proofs.lemmas.Bool.Decides.{same_from_decides, Decides-at}
use Rattle.std.proofs.lemmas.Slice.Eq.{bytes_eq-Decides}
use Rattle.grammar.specs.Terminals.{mark_bytes, key_marks, sign_marks, mark_among, sees}
use Rattle.token_cursor.specs.Meaning.{kind_terminal}
use Rattle.token_cursor.proofs.Marks.{key_decides, sign_decides, no_key, no_sign}
use Rattle.token_cursor.proofs.mark.is_mark.Goals as goal

pub returns-then-is_key : goal.returns-then-is_key
returns-then-is_key c =
    let m = c.args.mark in
    let bs = string_bytes c.in-Key.found in
    let e : c.eq.result ≡ bytes_eq bs (mark_bytes m) = search (rules) in
    let s : c.eq.result ≡ sees m (mark_among key_marks bs ∷ []) = same_from_decides _ _ (Decides-at _ _ e (bytes_eq-Decides bs (mark_bytes m))) (key_decides m (sym c.is_key.ensures ∙ c.if-is_key.true) bs) in
    s ∙ ap (λ k. sees m (kind_terminal k ∷ [])) (sym c.in-Key.is)

pub returns-else-is_key : goal.returns-else-is_key
returns-else-is_key c =
    let m = c.args.mark in
    let bs = string_bytes c.in-Key.found in
    let e : sees m (mark_among key_marks bs ∷ []) ≡ false = no_key m (sym c.is_key.ensures ∙ c.if-is_key.false) bs _ refl in
    c.if-is_key.false ∙ (sym e ∙ ap (λ k. sees m (kind_terminal k ∷ [])) (sym c.in-Key.is))

pub returns-then-is_sign : goal.returns-then-is_sign
returns-then-is_sign c =
    let m = c.args.mark in
    let bs = string_bytes c.in-Sign.found in
    let e : c.eq-then-is_sign.result ≡ bytes_eq bs (mark_bytes m) = search (rules) in
    let s : c.eq-then-is_sign.result ≡ sees m (mark_among sign_marks bs ∷ []) = same_from_decides _ _ (Decides-at _ _ e (bytes_eq-Decides bs (mark_bytes m))) (sign_decides m (sym c.is_sign.ensures ∙ c.if-is_sign.true) bs) in
    s ∙ ap (λ k. sees m (kind_terminal k ∷ [])) (sym c.in-Sign.is)

pub returns-else-is_sign : goal.returns-else-is_sign
returns-else-is_sign c =
    let m = c.args.mark in
    let bs = string_bytes c.in-Sign.found in
    let e : sees m (mark_among sign_marks bs ∷ []) ≡ false = no_sign m (sym c.is_sign.ensures ∙ c.if-is_sign.false) bs _ refl in
    c.if-is_sign.false ∙ (sym e ∙ ap (λ k. sees m (kind_terminal k ∷ [])) (sym c.in-Sign.is))
