-- Which production is chosen depends on the next two terminals alone.
use Rattle.std.proofs.Common.{◌≡◌, ℕ, zero, suc, List, [], ◌∷◌, ◌++◌, Bool, true, false, nat_eq, sym, refl, ap, ◌∙◌, subst}
use Rattle.std.specs.Prelude.{⊤, cond, not}
use Rattle.grammar.specs.declared.dialect.Dialect.{Dialect}
use Rattle.grammar.specs.declared.mark.Mark.{Mark}
use Rattle.grammar.specs.declared.mark.Mark.TheVariants as marks
use Rattle.grammar.specs.Choice.{choose, sees_text, sees_bang, sees_number}
use Rattle.grammar.specs.Descent.{sees_integer, shows}
use Rattle.grammar.specs.Grammar.{rule}
use Rattle.grammar.specs.Productions.{Prod}
use Rattle.grammar.specs.Rules.{Sort, Rule, sign, holds, at, last}
use Rattle.grammar.specs.Terminals.{Holding, a_word, a_string, a_uri, a_fresh_name, a_byte_array, Terminal, text, number, mark, stranger, code, sees}
use Rattle.grammar.proofs.Marks.{same_code}

-- both lists begin with one terminal
abbrev pub SameHead : List Terminal → List Terminal → Type 0
SameHead (x ∷ ts) (y ∷ us) = x ≡ y
SameHead (x ∷ ts) [] = ⊥
SameHead [] us = ⊥

-- a list that isn't empty
abbrev pub Some : List Terminal → Type 0
Some [] = ⊥
Some (x ∷ xs) = ⊤

pub heads : (pre us zs : List Terminal) → SameHead us zs → SameHead (pre ++ us) (pre ++ zs)
heads [] us zs h = h
heads (x ∷ pre) us zs h = refl

pub more : (p q : List Terminal) → Some p → Some (p ++ q)
more [] q h = absurd h
more (x ∷ p) q h = tt

-- a test of the next terminal alone
abbrev pub IsNear : (List Terminal → Bool) → Type 0
IsNear f = (x : Terminal) (us zs : List Terminal) → f (x ∷ us) ≡ f (x ∷ zs)

pub alike : (f : List Terminal → Bool) → IsNear f → (us zs : List Terminal) → SameHead us zs → f us ≡ f zs
alike f n [] zs h = absurd h
alike f n (x ∷ us) [] h = absurd h
alike f n (x ∷ us) (y ∷ zs) h = n x us zs ∙ ap (λ t. f (t ∷ zs)) h

pub near_sees : (m : Mark) → IsNear (sees m)
near_sees m (mark k) us zs = refl
near_sees m (text k w) us zs = refl
near_sees m (number n) us zs = refl
near_sees m stranger us zs = refl

pub near_text : (k : Holding) → IsNear (sees_text k)
near_text k (mark m) us zs = refl
near_text k (text j w) us zs = refl
near_text k (number n) us zs = refl
near_text k stranger us zs = refl

pub near_integer : (most : ℕ) → IsNear (sees_integer most)
near_integer k (mark m) us zs = refl
near_integer k (text j w) us zs = refl
near_integer k (number n) us zs = refl
near_integer k stranger us zs = refl

pub near_shows : (test : Terminal → Bool) → IsNear (shows test)
near_shows test x us zs = refl

near_bang : IsNear sees_bang
near_bang (mark m) us zs = refl
near_bang (text j w) us zs = refl
near_bang (number n) us zs = refl
near_bang stranger us zs = refl

near_number : IsNear sees_number
near_number (mark m) us zs = refl
near_number (text j w) us zs = refl
near_number (number n) us zs = refl
near_number stranger us zs = refl

-- the sorts that take a word, `_` or `-` that stands first, at which a production is chosen by the terminal behind it
abbrev TakesWord : Sort → Type 0
TakesWord Sort.Two = ⊤
TakesWord Sort.Or = ⊤
TakesWord Sort.And = ⊤
TakesWord Sort.Eq = ⊤
TakesWord Sort.Cmp = ⊤
TakesWord Sort.Sum = ⊤
TakesWord Sort.Mul = ⊤
TakesWord Sort.Pre = ⊤
TakesWord Sort.Meth = ⊤
TakesWord Sort.Drop = ⊤
TakesWord Sort.Atom = ⊤
TakesWord Sort.POne = ⊤
TakesWord Sort.PAlt = ⊤
TakesWord Sort.PAnd = ⊤
TakesWord Sort.PNot = ⊤
TakesWord Sort.PAtom = ⊤
TakesWord _ = ⊥

abbrev TakesAny : Sort → Type 0
TakesAny Sort.POne = ⊤
TakesAny Sort.PAlt = ⊤
TakesAny Sort.PAnd = ⊤
TakesAny Sort.PNot = ⊤
TakesAny Sort.PAtom = ⊤
TakesAny _ = ⊥

abbrev TakesMinus : Sort → Type 0
TakesMinus Sort.Pre = ⊤
TakesMinus Sort.Meth = ⊤
TakesMinus Sort.Drop = ⊤
TakesMinus Sort.Atom = ⊤
TakesMinus (Sort.Ground side) = ⊤
TakesMinus _ = ⊥

-- the sort takes this terminal, if it stands first
abbrev pub TakenBy : Terminal → Sort → Type 0
TakenBy (text a_word w) s = TakesWord s
TakenBy (mark marks.Underscore) s = TakesAny s
TakenBy (mark marks.Minus) s = TakesMinus s
TakenBy _ s = ⊥

-- at each other sort the next terminal alone decides
abbrev LooksOnce : Sort → Type 0
LooksOnce Sort.Two = ⊥
LooksOnce Sort.POne = ⊥
LooksOnce Sort.Pre = ⊥
LooksOnce _ = ⊤

once_mark : (s : Sort) (k : Mark) (us zs : List Terminal) → LooksOnce s → choose s (mark k ∷ us) ≡ choose s (mark k ∷ zs)
once_mark Sort.Two k us zs h = absurd h
once_mark Sort.POne k us zs h = absurd h
once_mark Sort.Pre k us zs h = absurd h
once_mark (Sort.BindsTail j m zero bs n) k us zs h = refl
once_mark (Sort.BindsTail j m (suc left) bs n) k us zs h = refl
once_mark _ k us zs h = refl

once_text : (s : Sort) (j : Holding) (w : List ℕ) (us zs : List Terminal) → LooksOnce s → choose s (text j w ∷ us) ≡ choose s (text j w ∷ zs)
once_text Sort.Two j w us zs h = absurd h
once_text Sort.POne j w us zs h = absurd h
once_text Sort.Pre j w us zs h = absurd h
once_text (Sort.BindsTail i m zero bs n) j w us zs h = refl
once_text (Sort.BindsTail i m (suc left) bs n) j w us zs h = refl
once_text _ j w us zs h = refl

once_number : (s : Sort) (n : ℕ) (us zs : List Terminal) → choose s (number n ∷ us) ≡ choose s (number n ∷ zs)
once_number (Sort.BindsTail i m zero bs n) j us zs = refl
once_number (Sort.BindsTail i m (suc left) bs n) j us zs = refl
once_number _ n us zs = refl

once_stranger : (s : Sort) (us zs : List Terminal) → choose s (stranger ∷ us) ≡ choose s (stranger ∷ zs)
once_stranger (Sort.BindsTail i m zero bs n) us zs = refl
once_stranger (Sort.BindsTail i m (suc left) bs n) us zs = refl
once_stranger _ us zs = refl

once : (s : Sort) (x : Terminal) (us zs : List Terminal) → LooksOnce s → choose s (x ∷ us) ≡ choose s (x ∷ zs)
once s (mark k) us zs h = once_mark s k us zs h
once s (text j w) us zs h = once_text s j w us zs h
once s (number n) us zs h = once_number s n us zs
once s stranger us zs h = once_stranger s us zs

-- two terminals are looked at
two_bang : (s : Sort) (x : Terminal) (us zs : List Terminal) → sees_bang us ≡ sees_bang zs → sees_number us ≡ sees_number zs → choose s (x ∷ us) ≡ choose s (x ∷ zs)
two_bang Sort.Two (mark k) us zs e g = refl
two_bang Sort.Two (text a_word w) us zs e g = rw e refl
two_bang Sort.Two (text a_string w) us zs e g = refl
two_bang Sort.Two (text a_uri w) us zs e g = refl
two_bang Sort.Two (text a_fresh_name w) us zs e g = refl
two_bang Sort.Two (text a_byte_array w) us zs e g = refl
two_bang Sort.POne (mark k) us zs e g = rw e refl
two_bang Sort.POne (text j w) us zs e g = rw e refl
two_bang Sort.Pre (mark k) us zs e g = rw g refl
two_bang Sort.Pre (text j w) us zs e g = refl
two_bang s (number n) us zs e g = once_number s n us zs
two_bang s stranger us zs e g = once_stranger s us zs
two_bang s x us zs e g = once s x us zs tt

two_look : (s : Sort) (x : Terminal) (us zs : List Terminal) → SameHead us zs → choose s (x ∷ us) ≡ choose s (x ∷ zs)
two_look s x us zs h = two_bang s x us zs (alike sees_bang near_bang us zs h) (alike sees_number near_number us zs h)

-- a mark that a sort doesn't take
untaken : (s : Sort) (k m : Mark) → (TakenBy (mark k) s → ⊥) → TakenBy (mark m) s → nat_eq (code k) (code m) ≡ false
untaken s k m h t = elim (nat_eq (code k) (code m)) as (λ b. nat_eq (code k) (code m) ≡ b → b ≡ false) [
  | true ↦ λ e. absurd (h (subst (λ (x : Mark). TakenBy (mark x) s) (sym (same_code k m e)) t))
  | false ↦ λ e. refl
] refl

-- where the sort doesn't take the terminal, the next terminal alone decides
one_look : (s : Sort) (x : Terminal) (us zs : List Terminal) → (TakenBy x s → ⊥) → choose s (x ∷ us) ≡ choose s (x ∷ zs)
one_look Sort.Two (mark k) us zs h = refl
one_look Sort.Two (text a_word w) us zs h = absurd (h tt)
one_look Sort.Two (text a_string w) us zs h = refl
one_look Sort.Two (text a_uri w) us zs h = refl
one_look Sort.Two (text a_fresh_name w) us zs h = refl
one_look Sort.Two (text a_byte_array w) us zs h = refl
one_look Sort.POne (mark k) us zs h = let e = untaken Sort.POne k marks.Underscore h tt in rw e refl
one_look Sort.POne (text a_word w) us zs h = absurd (h tt)
one_look Sort.POne (text a_string w) us zs h = refl
one_look Sort.POne (text a_uri w) us zs h = refl
one_look Sort.POne (text a_fresh_name w) us zs h = refl
one_look Sort.POne (text a_byte_array w) us zs h = refl
one_look Sort.Pre (mark k) us zs h = let e = untaken Sort.Pre k marks.Minus h tt in rw e refl
one_look Sort.Pre (text j w) us zs h = refl
one_look s (number n) us zs h = once_number s n us zs
one_look s stranger us zs h = once_stranger s us zs
one_look s x us zs h = once s x us zs tt

-- what stands behind a terminal that was gone past decides nothing
pub chosen : (s : Sort) (pre us zs : List Terminal) → SameHead us zs
    → ((x : Terminal) (ts : List Terminal) → pre ++ us ≡ x ∷ ts → TakenBy x s → Some pre) → choose s (pre ++ us) ≡ choose s (pre ++ zs)
chosen s [] [] zs h k = absurd h
chosen s [] (x ∷ us) [] h k = absurd h
chosen s [] (x ∷ us) (y ∷ zs) h k = one_look s x us zs (k x us refl) ∙ ap (λ t. choose s (t ∷ zs)) h
chosen s (x ∷ pre) us zs h k = two_look s x (pre ++ us) (pre ++ zs) (heads pre us zs h)

-- a rule takes the terminal that stands first
abbrev pub Takes : Terminal → Rule → Type 0
Takes t (sign m r) = sees m (t ∷ []) ≡ true
Takes t (holds k f) = sees_text k (t ∷ []) ≡ true
Takes t (at s f) = TakenBy t s
Takes t (last s) = TakenBy t s
Takes t _ = ⊥

takes_two : (d : Dialect) (w : List ℕ) (b : Bool) → Takes (text a_word w) (rule d (cond b Prod.two_word Prod.two_or))
takes_two d w true = refl
takes_two d w false = tt

takes_pone : (d : Dialect) (w : List ℕ) (b : Bool) → Takes (text a_word w) (rule d (cond b Prod.pone_word Prod.pone_alt))
takes_pone d w true = refl
takes_pone d w false = tt

takes_any : (d : Dialect) (b : Bool) → Takes (mark marks.Underscore) (rule d (cond b Prod.pone_any Prod.pone_alt))
takes_any d true = refl
takes_any d false = tt

takes_pre : (d : Dialect) (b : Bool) → Takes (mark marks.Minus) (rule d (cond b Prod.pre_minus Prod.pre_meth))
takes_pre d true = refl
takes_pre d false = tt

takes_word : (d : Dialect) (s : Sort) (w : List ℕ) (us : List Terminal) → TakesWord s → Takes (text a_word w) (rule d (choose s (text a_word w ∷ us)))
takes_word d Sort.Two w us h = takes_two d w (sees_bang us)
takes_word d Sort.Or w us h = tt
takes_word d Sort.And w us h = tt
takes_word d Sort.Eq w us h = tt
takes_word d Sort.Cmp w us h = tt
takes_word d Sort.Sum w us h = tt
takes_word d Sort.Mul w us h = tt
takes_word d Sort.Pre w us h = tt
takes_word d Sort.Meth w us h = tt
takes_word d Sort.Drop w us h = tt
takes_word d Sort.Atom w us h = refl
takes_word d Sort.POne w us h = takes_pone d w (sees_bang us)
takes_word d Sort.PAlt w us h = tt
takes_word d Sort.PAnd w us h = tt
takes_word d Sort.PNot w us h = tt
takes_word d Sort.PAtom w us h = refl
takes_word d _ w us h = absurd h

takes_underscore : (d : Dialect) (s : Sort) (us : List Terminal) → TakesAny s → Takes (mark marks.Underscore) (rule d (choose s (mark marks.Underscore ∷ us)))
takes_underscore d Sort.POne us h = takes_any d (sees_bang us)
takes_underscore d Sort.PAlt us h = tt
takes_underscore d Sort.PAnd us h = tt
takes_underscore d Sort.PNot us h = tt
takes_underscore d Sort.PAtom us h = refl
takes_underscore d _ us h = absurd h

takes_minus : (d : Dialect) (s : Sort) (us : List Terminal) → TakesMinus s → Takes (mark marks.Minus) (rule d (choose s (mark marks.Minus ∷ us)))
takes_minus d Sort.Pre us h = takes_pre d (not (sees_number us))
takes_minus d Sort.Meth us h = tt
takes_minus d Sort.Drop us h = tt
takes_minus d Sort.Atom us h = tt
takes_minus d (Sort.Ground side) us h = refl
takes_minus d _ us h = absurd h

-- what takes a terminal goes on with what takes it
pub takes_rule : (d : Dialect) (s : Sort) (t : Terminal) (us : List Terminal) → TakenBy t s → Takes t (rule d (choose s (t ∷ us)))
takes_rule d s (text a_word w) us h = takes_word d s w us h
takes_rule d s (mark marks.Underscore) us h = takes_underscore d s us h
takes_rule d s (mark marks.Minus) us h = takes_minus d s us h
takes_rule d s _ us h = absurd h
