-- A key or a sign has the terminal of its text, and no other text has it.
use Rattle.std.proofs.Common.{◌≡◌, ◌⊎◌, inl, inr, ℕ, Bool, true, false, ◌&&◌, List, [], ◌∷◌, refl, sym, ap, ◌∙◌, nat_eq, rules, Decides}
use Rattle.std.specs.List.{list_all}
use Rattle.std.specs.Str.{bytes_eq}
use Rattle.std.proofs.lemmas.Bool.{false≢true}
use Rattle.std.proofs.lemmas.Slice.Eq.{bytes_eq-Decides}
use Rattle.grammar.specs.declared.mark.Mark.{Mark}
use Rattle.grammar.specs.declared.mark.Mark.TheVariants as marks
use Rattle.grammar.specs.Terminals.{code, Terminal, text, number, mark, stranger, mark_bytes, key_marks, sign_marks, mark_among, sees}
use Rattle.grammar.proofs.Marks.{same_code}
use Rattle.token_cursor.specs.Meaning.{is_key, is_sign}

-- a key is had back from its text
own_key : (m : Mark) → is_key m ≡ true → mark_among key_marks (mark_bytes m) ≡ mark m
own_key marks.Nil e = refl
own_key marks.New e = refl
own_key marks.In e = refl
own_key marks.For e = refl
own_key marks.Contract e = refl
own_key marks.Match e = refl
own_key marks.If e = refl
own_key marks.Else e = refl
own_key marks.True e = refl
own_key marks.False e = refl
own_key marks.Not e = refl
own_key marks.And e = refl
own_key marks.Or e = refl
own_key marks.Set e = refl
own_key marks.Bool e = refl
own_key marks.Int e = refl
own_key marks.String e = refl
own_key marks.Uri e = refl
own_key marks.ByteArray e = refl
own_key marks.Bundle e = refl
own_key marks.BundleNeither e = refl
own_key marks.BundleWrite e = refl
own_key marks.BundleRead e = refl
own_key marks.Ellipsis e = absurd (false≢true e)
own_key marks.PeekArrow e = absurd (false≢true e)
own_key marks.DoubleBang e = absurd (false≢true e)
own_key marks.Unequal e = absurd (false≢true e)
own_key marks.Arrow e = absurd (false≢true e)
own_key marks.LessEqual e = absurd (false≢true e)
own_key marks.GreaterEqual e = absurd (false≢true e)
own_key marks.Equal e = absurd (false≢true e)
own_key marks.FatArrow e = absurd (false≢true e)
own_key marks.DoublePlus e = absurd (false≢true e)
own_key marks.DoubleMinus e = absurd (false≢true e)
own_key marks.Both e = absurd (false≢true e)
own_key marks.Either e = absurd (false≢true e)
own_key marks.Bar e = absurd (false≢true e)
own_key marks.Bang e = absurd (false≢true e)
own_key marks.Open e = absurd (false≢true e)
own_key marks.Close e = absurd (false≢true e)
own_key marks.OpenBrace e = absurd (false≢true e)
own_key marks.CloseBrace e = absurd (false≢true e)
own_key marks.OpenSquare e = absurd (false≢true e)
own_key marks.CloseSquare e = absurd (false≢true e)
own_key marks.Comma e = absurd (false≢true e)
own_key marks.Semicolon e = absurd (false≢true e)
own_key marks.Ampersand e = absurd (false≢true e)
own_key marks.Colon e = absurd (false≢true e)
own_key marks.Dot e = absurd (false≢true e)
own_key marks.At e = absurd (false≢true e)
own_key marks.Star e = absurd (false≢true e)
own_key marks.Less e = absurd (false≢true e)
own_key marks.Greater e = absurd (false≢true e)
own_key marks.Assign e = absurd (false≢true e)
own_key marks.Plus e = absurd (false≢true e)
own_key marks.Minus e = absurd (false≢true e)
own_key marks.Slash e = absurd (false≢true e)
own_key marks.Percent e = absurd (false≢true e)
own_key marks.Tilde e = absurd (false≢true e)
own_key marks.Underscore e = absurd (false≢true e)
own_key marks.End e = absurd (false≢true e)

-- a sign is had back from its text
own_sign : (m : Mark) → is_sign m ≡ true → mark_among sign_marks (mark_bytes m) ≡ mark m
own_sign marks.Nil e = absurd (false≢true e)
own_sign marks.New e = absurd (false≢true e)
own_sign marks.In e = absurd (false≢true e)
own_sign marks.For e = absurd (false≢true e)
own_sign marks.Contract e = absurd (false≢true e)
own_sign marks.Match e = absurd (false≢true e)
own_sign marks.If e = absurd (false≢true e)
own_sign marks.Else e = absurd (false≢true e)
own_sign marks.True e = absurd (false≢true e)
own_sign marks.False e = absurd (false≢true e)
own_sign marks.Not e = absurd (false≢true e)
own_sign marks.And e = absurd (false≢true e)
own_sign marks.Or e = absurd (false≢true e)
own_sign marks.Set e = absurd (false≢true e)
own_sign marks.Bool e = absurd (false≢true e)
own_sign marks.Int e = absurd (false≢true e)
own_sign marks.String e = absurd (false≢true e)
own_sign marks.Uri e = absurd (false≢true e)
own_sign marks.ByteArray e = absurd (false≢true e)
own_sign marks.Bundle e = absurd (false≢true e)
own_sign marks.BundleNeither e = absurd (false≢true e)
own_sign marks.BundleWrite e = absurd (false≢true e)
own_sign marks.BundleRead e = absurd (false≢true e)
own_sign marks.Ellipsis e = refl
own_sign marks.PeekArrow e = refl
own_sign marks.DoubleBang e = refl
own_sign marks.Unequal e = refl
own_sign marks.Arrow e = refl
own_sign marks.LessEqual e = refl
own_sign marks.GreaterEqual e = refl
own_sign marks.Equal e = refl
own_sign marks.FatArrow e = refl
own_sign marks.DoublePlus e = refl
own_sign marks.DoubleMinus e = refl
own_sign marks.Both e = refl
own_sign marks.Either e = refl
own_sign marks.Bar e = refl
own_sign marks.Bang e = refl
own_sign marks.Open e = refl
own_sign marks.Close e = refl
own_sign marks.OpenBrace e = refl
own_sign marks.CloseBrace e = refl
own_sign marks.OpenSquare e = refl
own_sign marks.CloseSquare e = refl
own_sign marks.Comma e = refl
own_sign marks.Semicolon e = refl
own_sign marks.Ampersand e = refl
own_sign marks.Colon e = refl
own_sign marks.Dot e = refl
own_sign marks.At e = refl
own_sign marks.Star e = refl
own_sign marks.Less e = refl
own_sign marks.Greater e = refl
own_sign marks.Assign e = refl
own_sign marks.Plus e = refl
own_sign marks.Minus e = refl
own_sign marks.Slash e = refl
own_sign marks.Percent e = refl
own_sign marks.Tilde e = refl
own_sign marks.Underscore e = refl
own_sign marks.End e = absurd (false≢true e)

both : (x y : Bool) → (x && y) ≡ true → (x ≡ true) × (y ≡ true)
both true y e = (refl, e)
both false y e = absurd (false≢true e)

-- a mark that is found in a table stands there, and has the text
told : (p : Mark → Bool) (ms : List Mark) → list_all p ms ≡ true → (bs : List ℕ) (k : Mark) → mark_among ms bs ≡ mark k → (p k ≡ true) × (mark_bytes k ≡ bs)
told p [] e bs k h = absurd (cc (h))
told p (m ∷ ms) e bs k h = pick (λ g. told p ms (both (p m) (list_all p ms) e).1 bs k g) (bytes_eq (mark_bytes m) bs) refl
  where
    pick : (mark_among ms bs ≡ mark k → (p k ≡ true) × (mark_bytes k ≡ bs)) → (b : Bool) → bytes_eq (mark_bytes m) bs ≡ b → (p k ≡ true) × (mark_bytes k ≡ bs)
    pick later true q =
        let f : mark m ≡ mark k = let g : mark_among (m ∷ ms) bs ≡ mark m = rw q refl in sym g ∙ h in
        let i : m ≡ k = cc (f) in
        (ap p (sym i) ∙ (both (p m) (list_all p ms) e).0, ap mark_bytes (sym i) ∙ (bytes_eq-Decides (mark_bytes m) bs).0 q)
    pick later false q = later (let g : mark_among (m ∷ ms) bs ≡ mark_among ms bs = rw q refl in sym g ∙ h)

self : (n : ℕ) → nat_eq n n ≡ true
self n = search (rules)

pub seen : (m : Mark) (t : Terminal) → sees m (t ∷ []) ≡ true → t ≡ mark m
seen m (text k w) e = absurd (false≢true e)
seen m (number n) e = absurd (false≢true e)
seen m (mark k) e = ap mark (same_code k m e)
seen m stranger e = absurd (false≢true e)

-- a token is a key exactly where it has the key's text
pub key_decides : (m : Mark) → is_key m ≡ true → (bs : List ℕ) → Decides (sees m (mark_among key_marks bs ∷ [])) (bs ≡ mark_bytes m)
key_decides m e bs = (
  λ s. sym (told is_key key_marks refl bs m (seen m (mark_among key_marks bs) s)).1,
  λ q. let f : mark_among key_marks bs ≡ mark m = ap (mark_among key_marks) q ∙ own_key m e in ap (λ t. sees m (t ∷ [])) f ∙ self (code m),
)

-- a token is a sign exactly where it has the sign's text
pub sign_decides : (m : Mark) → is_sign m ≡ true → (bs : List ℕ) → Decides (sees m (mark_among sign_marks bs ∷ [])) (bs ≡ mark_bytes m)
sign_decides m e bs = (
  λ s. sym (told is_sign sign_marks refl bs m (seen m (mark_among sign_marks bs) s)).1,
  λ q. let f : mark_among sign_marks bs ≡ mark m = ap (mark_among sign_marks) q ∙ own_sign m e in ap (λ t. sees m (t ∷ [])) f ∙ self (code m),
)

-- no other mark is a key or a sign
pub no_key : (m : Mark) → is_key m ≡ false → (bs : List ℕ) → (b : Bool) → sees m (mark_among key_marks bs ∷ []) ≡ b → b ≡ false
no_key m e bs false s = refl
no_key m e bs true s = absurd (false≢true (sym e ∙ (told is_key key_marks refl bs m (seen m (mark_among key_marks bs) s)).0))

pub no_sign : (m : Mark) → is_sign m ≡ false → (bs : List ℕ) → (b : Bool) → sees m (mark_among sign_marks bs ∷ []) ≡ b → b ≡ false
no_sign m e bs false s = refl
no_sign m e bs true s = absurd (false≢true (sym e ∙ (told is_sign sign_marks refl bs m (seen m (mark_among sign_marks bs) s)).0))

-- a key or a sign is neither a text nor a number
pub plain : (ms : List Mark) (bs : List ℕ) → (mark_among ms bs ≡ stranger) ⊎ ((k : Mark) × (mark_among ms bs ≡ mark k))
plain [] bs = inl refl
plain (m ∷ ms) bs = pick (plain ms bs) (bytes_eq (mark_bytes m) bs) refl
  where
    pick : (mark_among ms bs ≡ stranger) ⊎ ((k : Mark) × (mark_among ms bs ≡ mark k)) → (b : Bool) → bytes_eq (mark_bytes m) bs ≡ b → (mark_among (m ∷ ms) bs ≡ stranger) ⊎ ((k : Mark) × (mark_among (m ∷ ms) bs ≡ mark k))
    pick later true q = inr (m, rw q refl)
    pick later false q = rw q later
