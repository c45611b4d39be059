-- In the tokens of a text the end stands last and nowhere else.
use Rattle.std.proofs.Common.{◌≡◌, ◌∙◌, ℕ, Bool, true, false, not, ◌&&◌, nat_eq, List, [], ◌∷◌, ◌++◌, refl, sym, ap}
use Rattle.std.specs.Prelude.{if◌then◌else◌}
use Rattle.std.specs.Str.{bytes_eq}
use Rattle.tokens.specs.Token as tokens
use Rattle.tokens.specs.Token.{source}
use Rattle.tokens.specs.Reading.{AreInOrder}
use Rattle.tokens.specs.Spelling.{HasForm}
use Rattle.grammar.specs.declared.mark.Mark.{Mark}
use Rattle.grammar.specs.declared.mark.Mark.TheVariants as marks
use Rattle.grammar.specs.Terminals.{code, mark_bytes, key_marks, sign_marks, Terminal, mark, mark_among, terminal, sees}
use Rattle.rho_lexer.specs.Meaning.{kind_token, spanned_tokens}
use Rattle.rho_lexer.specs.declared.token.Token.{Token}
use Rattle.token_cursor.specs.Meaning.{view}

-- whether these marks are all others than the end
abbrev all_other : List Mark → Bool
all_other [] = true
all_other (m ∷ ms) = not (nat_eq (code m) 60) && all_other ms

both : (a b : Bool) → (not a && b) ≡ true → (a ≡ false) × (b ≡ true)
both true b h = absurd (cc)
both false b h = (refl, h)

either_way : (b : Bool) (m : Mark) (t : Terminal) (us : List Terminal) → nat_eq (code m) 60 ≡ false → sees marks.End (t ∷ us) ≡ false → sees marks.End ((if b then mark m else t) ∷ us) ≡ false
either_way true m t us h k = h
either_way false m t us h k = k

no_mark : (ms : List Mark) (bytes : List ℕ) (us : List Terminal) → all_other ms ≡ true → sees marks.End (mark_among ms bytes ∷ us) ≡ false
no_mark [] bytes us h = refl
no_mark (m ∷ ms) bytes us h =
    let k = both (nat_eq (code m) 60) (all_other ms) h in
    either_way (bytes_eq (mark_bytes m) bytes) m (mark_among ms bytes) us k.0 (no_mark ms bytes us k.1)

no_end : (t : tokens.Token) (us : List Terminal) → HasForm t → sees marks.End (terminal source t ∷ us) ≡ false
no_end (tokens.word bytes) us h = refl
no_end (tokens.key bytes) us h = no_mark key_marks bytes us refl
no_end (tokens.sign bytes) us h = no_mark sign_marks bytes us refl
no_end (tokens.integer n) us h = refl
no_end (tokens.string bytes) us h = refl
no_end (tokens.uri bytes) us h = refl
no_end (tokens.fresh_name digits) us h = refl
no_end (tokens.byte_array digits) us h = refl
no_end tokens.end_of_text us h = absurd h

tail_of : {A : Type 0} (x y : A) (xs ys : List A) → (x ∷ xs) ≡ (y ∷ ys) → xs ≡ ys
tail_of x y xs ys e = cc

last_one : (x : Terminal) (pre us : List Terminal) → (x ∷ []) ≡ pre ++ us → sees marks.End us ≡ true → us ≡ x ∷ []
last_one x [] us e s = sym e
last_one x (y ∷ pre) [] e s = absurd (let no : false ≡ true = s in cc)
last_one x (y ∷ []) (u ∷ us) e s = absurd (let no : [] ≡ u ∷ us = tail_of x y [] (u ∷ us) e in cc)
last_one x (y ∷ z ∷ pre) (u ∷ us) e s = absurd (let no : [] ≡ z ∷ (pre ++ (u ∷ us)) = tail_of x y [] (z ∷ (pre ++ (u ∷ us))) e in cc)

-- what begins with the end is the end alone
pub end_is_last : (ts : List Token) (at size : ℕ) (pre us : List Terminal) → AreInOrder at size (spanned_tokens ts) → view ts ≡ pre ++ us → sees marks.End us ≡ true → us ≡ mark marks.End ∷ []
end_is_last [] at size pre us o e s = absurd o
end_is_last (t ∷ []) at size pre us o e s =
    let k : kind_token t.kind ≡ tokens.end_of_text = ap (λ x. x.token) o.1 in
    last_one (terminal source (kind_token t.kind)) pre us e s ∙ ap (λ x. terminal source x ∷ []) k
end_is_last (t ∷ u ∷ ts) at size [] us o e s =
    let f : sees marks.End (view (t ∷ u ∷ ts)) ≡ false = no_end (kind_token t.kind) (view (u ∷ ts)) o.2 in
    absurd (let no : false ≡ true = sym f ∙ (ap (sees marks.End) e ∙ s) in cc)
end_is_last (t ∷ u ∷ ts) at size (x ∷ pre) us o e s = end_is_last (u ∷ ts) t.end size pre us o.3 (tail_of (terminal source (kind_token t.kind)) x (view (u ∷ ts)) (pre ++ us) e) s
