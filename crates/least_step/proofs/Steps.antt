-- Steps of the loops over rows and binds.
use Rattle.std.proofs.Common.{◌≡◌, ◌<◌, ◌≤◌, ℕ, ◌+◌, Bool, true, false, List, [], ◌∷◌, ◌++◌, length, map as each, get_or, slice_index_or, take, drop, All, refl, ap, sym, ◌∙◌, subst, append_assoc}
use Rattle.std.specs.Borrow.{Bor}
use Rattle.std.specs.List.{filter, remove}
use Rattle.std.specs.Prelude.{Option, Some, None, IsSome, is_some, MatchOption, Result, Ok, Err, IfOk, IsPermutation}
use Rattle.std.specs.declared.alloc.AllocError.{AllocError}
use Rattle.std.specs.declared.alloc.Global.{Global}
use Rattle.std.specs.declared.vec.Vec.{Vec}
use Rattle.std.proofs.lemmas.List.{take-append-drop, map-append}
use Rattle.std.proofs.lemmas.List.Elements.{All-push}
use Rattle.calculus.specs.declared.ids.Digest.{Digest}
use Rattle.calculus.specs.Code.{code}
use Rattle.calculus.specs.Form.{a_bind}
use Rattle.calculus.specs.Log.{Step}
use Rattle.calculus.specs.Rows.{Row, stdout, stdout_ack}
use Rattle.calculus.specs.Steps.{Bag, differ}
use Rattle.events.specs.Events.{first_ids}
use Rattle.events.specs.Found.{Among}
use Rattle.rho_term.specs.declared.op.Op.{Op}
use Rattle.rho_term.specs.Parts.{bind_tree}
use Rattle.rho_term.specs.Rows.{row_of_op}
use Rattle.match_targets.specs.Targets.{Ready}
use Rattle.rho_term.specs.declared.term.TermBind.{TermBind}
use Rattle.row_search.specs.Choices.{takes}
use Rattle.row_search.proofs.Looping.{take-is, drop-is, take-whole}
use Rattle.least_step.specs.declared.least.LeastStep.{LeastStep}
use Rattle.least_step.specs.Orders.{ids_of, referred, AreAscending}
use Rattle.least_step.specs.Choosing.{AreLeastTaken, IsLeastTaken, TakesNone}
use Rattle.least_step.specs.Meeting.{IsLeastMeeting, IsLeastWith, MeetsNone, NoneMeets}
use Rattle.least_step.specs.Least.{AllowsNone, HasRows, IsLeast, NothingIsUsedUp}
use Rattle.least_step.specs.Filed.{filed, is_on, AreFiled, HasPlaceAt}
use Rattle.least_step.proofs.Allowed.{answers}
use Rattle.least_step.proofs.Filing.{Entries}
use Rattle.least_step.proofs.Choosing.{first-least, among-all, of-filed, stands-there}
use Rattle.least_step.proofs.Meeting.{first-meeting}

-- one more row in a list of references
pub one-more : (xs : List (Bor Row)) (b : Bor Row) → each referred (xs ++ b ∷ []) ≡ each referred xs ++ b.now ∷ []
one-more xs b = map-append referred xs (b ∷ [])

pub refer-more : (xs : List (Bor Row)) (b : Bor Row) (base rs : List Row) (i : ℕ) → i < length rs → b.now ≡ get_or rs i b.now → each referred xs ≡ base ++ take i rs → each referred (xs ++ b ∷ []) ≡ base ++ take (i + 1) rs
refer-more xs b base rs i h e k = one-more xs b ∙ ap (λ l. l ++ b.now ∷ []) k ∙ append_assoc base (take i rs) (b.now ∷ []) ∙ ap (λ l. base ++ l) (sym (take-is rs i b.now h e))

-- references, taken apart at a place
module _ (xs : List (Bor Row)) (i : ℕ) (b : Bor Row) (h : i < length xs) (e : b ≡ get_or xs i b) where
  pub rows-so-far : each referred (take (i + 1) xs) ≡ each referred (take i xs) ++ b.now ∷ []
  rows-so-far = ap (each referred) (take-is xs i b h e) ∙ one-more (take i xs) b

  pub rows-apart : each referred xs ≡ each referred (take i xs) ++ b.now ∷ each referred (drop (i + 1) xs)
  rows-apart = ap (each referred) (apart xs i b h e) ∙ map-append referred (take i xs) (b ∷ drop (i + 1) xs)
    where
      apart : (ys : List (Bor Row)) (j : ℕ) (c : Bor Row) → j < length ys → c ≡ get_or ys j c → ys ≡ take j ys ++ c ∷ drop (j + 1) ys
      apart ys j c k g = sym (take-append-drop j ys) ∙ ap (λ l. take j ys ++ l) (drop-is ys j c k g)

  pub not-taken : (t : TermBind) → takes t b.now ≡ None → All (λ r. takes t r ≡ None) (each referred (take i xs)) → All (λ r. takes t r ≡ None) (each referred (take (i + 1) xs))
  not-taken t n a = subst (All (λ r. takes t r ≡ None)) (sym rows-so-far) (All-push (λ r. takes t r ≡ None) (each referred (take i xs)) b.now a n)

  pub taken-here : (t : TermBind) (id : Digest) → AreAscending (each referred xs) → All (λ r. takes t r ≡ None) (each referred (take i xs)) → IsSome (takes t b.now) → id.0 ≡ b.now.id → IsLeastTaken (each referred xs) t id
  taken-here t id a n s g =
      subst (λ (l : List Row). IsLeastTaken l t id) (sym rows-apart) (first-least t (each referred (take i xs)) b.now (each referred (drop (i + 1) xs)) id (subst AreAscending rows-apart a) n s g)

  pub none-met : MeetsNone (each referred xs) b.now → All (MeetsNone (each referred xs)) (each referred (take i xs)) → All (MeetsNone (each referred xs)) (each referred (take (i + 1) xs))
  none-met n a = subst (All (MeetsNone (each referred xs))) (sym rows-so-far) (All-push (MeetsNone (each referred xs)) (each referred (take i xs)) b.now a n)

  pub met-here : (f : LeastStep) → AreAscending (each referred xs) → All (MeetsNone (each referred xs)) (each referred (take i xs)) → IsLeastWith (each referred xs) b.now f → IsLeastMeeting (each referred xs) f
  met-here f a n l =
      subst (λ (rs : List Row). IsLeastMeeting rs f) (sym rows-apart)
      (first-meeting (each referred (take i xs)) b.now (each referred (drop (i + 1) xs)) f (subst AreAscending rows-apart a)
      (subst (λ (rs : List Row). All (MeetsNone rs) (each referred (take i xs))) rows-apart n) (subst (λ (rs : List Row). IsLeastWith rs b.now f) rows-apart l))

-- none of the rows is taken
pub none-taken : (xs : List (Bor Row)) (i : ℕ) (t : TermBind) → length xs ≤ i → All (λ r. takes t r ≡ None) (each referred (take i xs)) → TakesNone (each referred xs) t
none-taken xs i t h a r k = among-all (λ q. takes t q ≡ None) r (each referred xs) (subst (λ (l : List (Bor Row)). All (λ r. takes t r ≡ None) (each referred l)) (take-whole xs i h) a) k

-- one more bind
pub bind-more : (rows : List Row) (bs : List TermBind) (ds : List Digest) (b : TermBind) (d : Digest) → AreLeastTaken rows bs ds → IsLeastTaken rows b d → AreLeastTaken rows (bs ++ b ∷ []) (ds ++ d ∷ [])
bind-more rows [] [] b d h l = (l, tt)
bind-more rows [] (e ∷ ds) b d h l = absurd h
bind-more rows (a ∷ bs) [] b d h l = absurd h
bind-more rows (a ∷ bs) (e ∷ ds) b d h l = (h.0, bind-more rows bs ds b d h.1 l)

-- what a test of an option says
pub is-there : {A : Type 0} (x : Option A) (v : Bool) → v ≡ is_some x → v ≡ true → IsSome x
is-there x v e h = sym e ∙ h

pub is-none : {A : Type 0} (x : Option A) (v : Bool) → v ≡ is_some x → v ≡ false → x ≡ None
is-none None v e h = refl
is-none (Some y) v e h = cc

-- what was found, or not, as it was told
pub told : {A : Type 0} (P : Type 0) (Q : A → Type 0) (x : Option A) → MatchOption x P Q → is_some x ≡ false → P
told P Q None m h = m
told P Q (Some y) m h = cc

-- what a call makes sure of where it succeeds, with what follows from it
pub if-ok : {A E : Type 0} (P Q : A → Type 0) (x : Result A E) → ((y : A) → P y → Q y) → IfOk x P → IfOk x Q
if-ok P Q (Ok y) f h = f y h
if-ok P Q (Err e) f h = tt

-- the first and the rest of operations that are these rows
pub first-row : (ops : List Op) (x : Row) (ys : List Row) → each row_of_op ops ≡ x ∷ ys → (o : Op) → o ≡ slice_index_or ops 0 o → row_of_op o ≡ x
first-row [] x ys e o g = cc
first-row (p ∷ ops) x ys e o g = let one : row_of_op p ≡ x = cc e in ap row_of_op g ∙ one

pub rest-rows : (ops : List Op) (x : Row) (ys : List Row) → each row_of_op ops ≡ x ∷ ys → (rest : List Op) → rest ≡ remove ops 0 → each row_of_op rest ≡ ys
rest-rows [] x ys e rest g = cc
rest-rows (p ∷ ops) x ys e rest g = let one : each row_of_op ops ≡ ys = cc e in ap (each row_of_op) g ∙ one

-- what is found under the code of a bind's channel is found among all rows
pub least-found : (b : TermBind) (ready : Ready a_bind (bind_tree b)) (rows : List Row) (es : Entries) → AreFiled rows es → (key : Vec ℕ Global) → HasPlaceAt key.items es → key.items ≡ code b.channel → (xs : List Row) → xs ≡ filed key.items es
    → (o : Option Digest) → MatchOption o (TakesNone xs b) (IsLeastTaken xs b) → MatchOption o (TakesNone rows b) (IsLeastTaken rows b)
least-found b ready rows es k key p f xs e o m = of-filed b ready rows k.ready xs o (e ∙ k.under key p ∙ ap (λ (l : List ℕ). filter (is_on l) rows) f) m

-- all of a list of references
pub whole-rows : (xs : List (Bor Row)) (i : ℕ) → length xs ≤ i → each referred (take i xs) ≡ each referred xs
whole-rows xs i h = ap (each referred) (take-whole xs i h)

module _ (xs : List (Bor Row)) (i : ℕ) (b : Bor Row) (h : i < length xs) (e : b ≡ get_or xs i b) where
  -- a row at a place is there
  pub among-at : Among b.now (each referred xs)
  among-at = subst (Among b.now) (sym (rows-apart xs i b h e)) (stands-there (each referred (take i xs)) b.now (each referred (drop (i + 1) xs)))

  -- the first that meets others is the least
  pub met-found : (o : Option LeastStep) → is_some o ≡ true → AreAscending (each referred xs) → All (MeetsNone (each referred xs)) (each referred (take i xs)) → MatchOption o (MeetsNone (each referred xs) b.now) (IsLeastWith (each referred xs) b.now)
      → MatchOption o (NoneMeets (each referred xs)) (IsLeastMeeting (each referred xs))
  met-found None s a n m = cc
  met-found (Some f) s a n m = met-here xs i b h e f a n m

-- the least rows that meet among all make the least step that is allowed
pub finally : (b : Bag) (made : List Step) (rows others : List Row) → others ≡ stdout ∷ stdout_ack ∷ [] → (all xs : List Row) → xs ≡ all → IsPermutation (rows ++ others) all → (differ (ids_of (rows ++ others)) ≡ true → AreAscending all)
    → (x : Result (Option LeastStep) AllocError) → (AreAscending xs → IfOk x (λ o. MatchOption o (NoneMeets xs) (IsLeastMeeting xs))) → HasRows b rows → differ (first_ids rows) ≡ true → NothingIsUsedUp b made
    → IfOk x (λ o. MatchOption o (AllowsNone b made) (IsLeast b made))
finally b made rows others e all xs g moved ascending x found has apart unused =
    let order : AreAscending all = ascending (subst (λ (l : List Row). differ (ids_of (rows ++ l)) ≡ true) (sym e) apart) in
    if-ok (λ o. MatchOption o (NoneMeets xs) (IsLeastMeeting xs)) (λ o. MatchOption o (AllowsNone b made) (IsLeast b made)) x
    (λ o m. answers b made rows all has (subst (λ (l : List Row). IsPermutation (rows ++ l) all) e moved) apart o unused (subst (λ (l : List Row). MatchOption o (NoneMeets l) (IsLeastMeeting l)) g m))
    (found (subst AreAscending (sym g) order))
