-- Sends that are filed by the codes of their channels, one row after another.
use Rattle.std.proofs.Common.{◌≡◌, ℕ, Bool, true, false, cond, List, [], ◌∷◌, ◌++◌, map as each, All, refl, ap, sym, ◌∙◌, subst, append-nil}
use Rattle.std.specs.Borrow.{Bor}
use Rattle.std.specs.Prelude.{Option, Some, None, is_some, Result, Ok, Err, IfOk}
use Rattle.std.specs.List.{filter}
use Rattle.std.specs.Map.{lookup}
use Rattle.std.specs.Ordering.{is_eq}
use Rattle.std.specs.Str.{bytes_eq}
use Rattle.std.specs.declared.alloc.Global.{Global}
use Rattle.std.specs.declared.vec.Vec.{Vec}
use Rattle.std.proofs.lemmas.Map.Text.{is_eq-slice_cmp}
use Rattle.std.proofs.lemmas.List.Elements.{All-nil, All-cons, All-head, All-tail, All-map, All-push}
use Rattle.calculus.specs.declared.plain.Kind.{Kind}
use Rattle.calculus.specs.declared.ids.Digest.{Digest}
use Rattle.calculus.specs.Code.{code}
use Rattle.calculus.specs.Form.{term}
use Rattle.calculus.specs.Shape.{held, many}
use Rattle.calculus.specs.Tree.{Tree, row}
use Rattle.rho_term.specs.declared.op.Op.TheVariants as op
use Rattle.rho_term.specs.declared.term.TermBind.{TermBind}
use Rattle.rho_term.specs.Rows.{row_of_op}
use Rattle.match_targets.specs.Targets.{Ready}
use Rattle.calculus.specs.Order.{byte_cmp}
use Rattle.calculus.specs.Rows.{channels, Row}
use Rattle.calculus.specs.Steps.{Datum, as_datum}
use Rattle.calculus.proofs.Counting.{bytes_equal}
use Rattle.events.proofs.Counts.{same_bytes}
use Rattle.least_step.specs.Orders.{referred}
use Rattle.space_row.proofs.Codes.{channels-receive}
use Rattle.least_step.specs.Filed.{is_on, rows_in, filed, AreAwaited, AreFiled, HasPlace, HasPlaceAt, HasReadyChannel, IsAwaited, IsPutUnder}

-- a map from codes to sends
abbrev pub Entries : Type 0
Entries = List (Vec ℕ Global × Vec (Bor Row) Global)

-- what is found in it
abbrev pub found : List ℕ → Entries → Option (Vec (Bor Row) Global)
found key es = lookup (λ (k : Vec ℕ Global). is_eq (byte_cmp key k.items)) es

filter-push : {A : Type 0} (f : A → Bool) (xs : List A) (x : A) → filter f (xs ++ x ∷ []) ≡ filter f xs ++ cond (f x) (x ∷ []) []
filter-push f [] x = go (f x)
  where
    go : (b : Bool) → cond b (x ∷ []) [] ≡ cond b (x ∷ []) []
    go b = refl
filter-push f (y ∷ ys) x = go (f y) (filter-push f ys x)
  where
    go : (b : Bool) → filter f (ys ++ x ∷ []) ≡ filter f ys ++ cond (f x) (x ∷ []) [] → cond b (y ∷ filter f (ys ++ x ∷ [])) (filter f (ys ++ x ∷ [])) ≡ cond b (y ∷ filter f ys) (filter f ys) ++ cond (f x) (x ∷ []) []
    go true e = ap (λ l. y ∷ l) e
    go false e = e

module _ (before : List Row) (r : Row) (s : HasReadyChannel r) (es : Entries) (k : AreFiled before es) where
  more-ready : All HasReadyChannel (before ++ r ∷ [])
  more-ready = All-push HasReadyChannel before r k.ready s

  -- what is no send is filed nowhere
  pub no-send : ((key : List ℕ) → is_on key r ≡ false) → AreFiled (before ++ r ∷ []) es
  no-send n = record {
    ready = more-ready;
    under = λ key p. k.under key p ∙ (sym (append-nil (filter (is_on key.items) before)) ∙ (ap (λ (b : Bool). filter (is_on key.items) before ++ cond b (r ∷ []) []) (sym (n key.items)) ∙ sym (filter-push (is_on key.items) before r)));
  }

  -- a send is filed after those on its channel
  pub one-send : (key : List ℕ) → ((x : List ℕ) → is_on x r ≡ bytes_eq x key) → (ds : Entries) → IsPutUnder key r es ds → AreFiled (before ++ r ∷ []) ds
  one-send key on ds u = record { ready = more-ready; under = λ x p. go x (u.old x p) (is_eq (byte_cmp key x.items)) refl }
    where
      other : (x : List ℕ) → is_eq (byte_cmp key x) ≡ false → (w : Bool) → bytes_eq x key ≡ w → w ≡ false
      other x e true h = let f : is_eq (byte_cmp key x) ≡ true = is_eq-slice_cmp key x ∙ same_bytes key x (sym (bytes_equal x key h)) in cc
      other x e false h = refl

      go : (x : Vec ℕ Global) → HasPlaceAt x.items es → (v : Bool) → is_eq (byte_cmp key x.items) ≡ v → filed x.items ds ≡ filter (is_on x.items) (before ++ r ∷ [])
      go x p true e =
          let same : key ≡ x.items = bytes_equal key x.items (sym (is_eq-slice_cmp key x.items) ∙ e) in
          let hit : is_on x.items r ≡ true = on x.items ∙ same_bytes x.items key (sym same) in
          u.under x p ∙ ap (λ (w : Bool). cond w (filed x.items es ++ r ∷ []) (filed x.items es)) e ∙ ap (λ l. l ++ r ∷ []) (k.under x p)
          ∙ ap (λ (w : Bool). filter (is_on x.items) before ++ cond w (r ∷ []) []) (sym hit) ∙ sym (filter-push (is_on x.items) before r)
      go x p false e =
          let miss : is_on x.items r ≡ false = on x.items ∙ other x.items e (bytes_eq x.items key) refl in
          u.under x p ∙ ap (λ (w : Bool). cond w (filed x.items es ++ r ∷ []) (filed x.items es)) e ∙ k.under x p ∙ sym (append-nil (filter (is_on x.items) before))
          ∙ ap (λ (w : Bool). filter (is_on x.items) before ++ cond w (r ∷ []) []) (sym miss) ∙ sym (filter-push (is_on x.items) before r)

-- rows under a code are taken out, and put back with one more
pub put-back : (key : Vec ℕ Global) (slice : List ℕ) → slice ≡ key.items → (r : Row) (es mid ds : Entries) (old rows : Vec (Bor Row) Global) → found slice es ≡ Some old → each referred rows.items ≡ each referred old.items ++ r ∷ []
    → ((x : Vec ℕ Global) → found x.items mid ≡ cond (is_eq (byte_cmp slice x.items)) None (found x.items es))
    → ((x : Vec ℕ Global) → found x.items ds ≡ cond (is_eq (byte_cmp key.items x.items)) (Some rows) (found x.items mid)) → IsPutUnder key.items r es ds
put-back key slice same r es mid ds old rows e t m u = record {
  kept = λ x p. kept x p (is_eq (byte_cmp key.items x.items)) refl;
  old = λ x p. back x p (is_eq (byte_cmp key.items x.items)) refl;
  under = λ x p. under x (is_eq (byte_cmp key.items x.items)) refl;
}
  where
    here : (x : Vec ℕ Global) → is_eq (byte_cmp key.items x.items) ≡ true → found x.items ds ≡ Some rows
    here x h = u x ∙ ap (λ (w : Bool). cond w (Some rows) (found x.items mid)) h

    before : (x : Vec ℕ Global) → is_eq (byte_cmp key.items x.items) ≡ true → found x.items es ≡ Some old
    before x h =
        let one : key.items ≡ x.items = bytes_equal key.items x.items (sym (is_eq-slice_cmp key.items x.items) ∙ h) in
        ap (λ (l : List ℕ). found l es) (sym (same ∙ one)) ∙ e

    there : (x : Vec ℕ Global) → is_eq (byte_cmp key.items x.items) ≡ false → found x.items ds ≡ found x.items es
    there x h =
        u x ∙ ap (λ (w : Bool). cond w (Some rows) (found x.items mid)) h ∙ m x ∙ ap (λ (l : List ℕ). cond (is_eq (byte_cmp l x.items)) None (found x.items es)) same ∙ ap (λ (w : Bool). cond w None (found x.items es)) h

    kept : (x : Vec ℕ Global) → HasPlaceAt x.items es → (b : Bool) → is_eq (byte_cmp key.items x.items) ≡ b → HasPlaceAt x.items ds
    kept x p true h = ap is_some (here x h)
    kept x p false h = ap is_some (there x h) ∙ p

    back : (x : Vec ℕ Global) → HasPlaceAt x.items ds → (b : Bool) → is_eq (byte_cmp key.items x.items) ≡ b → HasPlaceAt x.items es
    back x p true h = ap is_some (before x h)
    back x p false h = ap is_some (sym (there x h)) ∙ p

    under : (x : Vec ℕ Global) (b : Bool) → is_eq (byte_cmp key.items x.items) ≡ b → filed x.items ds ≡ cond (is_eq (byte_cmp key.items x.items)) (filed x.items es ++ r ∷ []) (filed x.items es)
    under x true h = ap rows_in (here x h) ∙ t ∙ ap (λ (w : Option (Vec (Bor Row) Global)). rows_in w ++ r ∷ []) (sym (before x h)) ∙ ap (λ (w : Bool). cond w (filed x.items es ++ r ∷ []) (filed x.items es)) (sym h)
    under x false h = ap rows_in (there x h) ∙ ap (λ (w : Bool). cond w (filed x.items es ++ r ∷ []) (filed x.items es)) (sym h)

-- nothing is put under a code without a place
pub none-put : (key : Vec ℕ Global) (slice : List ℕ) → slice ≡ key.items → (r : Row) (es ds : Entries) → found slice es ≡ None
    → ((x : Vec ℕ Global) → found x.items ds ≡ cond (is_eq (byte_cmp slice x.items)) None (found x.items es)) → IsPutUnder key.items r es ds
none-put key slice same r es ds e m = record {
  kept = λ x p. ap is_some (there x) ∙ p;
  old = λ x p. ap is_some (sym (there x)) ∙ p;
  under = λ x p. under x p (is_eq (byte_cmp key.items x.items)) refl;
}
  where
    before : (x : Vec ℕ Global) → is_eq (byte_cmp slice x.items) ≡ true → found x.items es ≡ None
    before x h =
        let one : slice ≡ x.items = bytes_equal slice x.items (sym (is_eq-slice_cmp slice x.items) ∙ h) in
        ap (λ (l : List ℕ). found l es) (sym one) ∙ e

    there-so : (x : Vec ℕ Global) (b : Bool) → is_eq (byte_cmp slice x.items) ≡ b → found x.items ds ≡ found x.items es
    there-so x true h = m x ∙ ap (λ (w : Bool). cond w None (found x.items es)) h ∙ sym (before x h)
    there-so x false h = m x ∙ ap (λ (w : Bool). cond w None (found x.items es)) h

    there : (x : Vec ℕ Global) → found x.items ds ≡ found x.items es
    there x = there-so x (is_eq (byte_cmp slice x.items)) refl

    under : (x : Vec ℕ Global) → HasPlaceAt x.items es → (b : Bool) → is_eq (byte_cmp key.items x.items) ≡ b → filed x.items ds ≡ cond (is_eq (byte_cmp key.items x.items)) (filed x.items es ++ r ∷ []) (filed x.items es)
    under x p true h =
        let none : found x.items es ≡ None = before x (ap (λ (l : List ℕ). is_eq (byte_cmp l x.items)) same ∙ h) in
        let some : is_some (found x.items es) ≡ true = p in
        cc
    under x p false h = ap rows_in (there x) ∙ ap (λ (w : Bool). cond w (filed x.items es ++ r ∷ []) (filed x.items es)) (sym h)

-- a place is made under a code, while nothing is filed
module _ (key : Vec ℕ Global) (es ds : Entries) (rows : Vec (Bor Row) Global) (bare : rows.items ≡ []) (u : (x : Vec ℕ Global) → found x.items ds ≡ cond (is_eq (byte_cmp key.items x.items)) (Some rows) (found x.items es)) where
  here : (x : Vec ℕ Global) → is_eq (byte_cmp key.items x.items) ≡ true → found x.items ds ≡ Some rows
  here x h = u x ∙ ap (λ (w : Bool). cond w (Some rows) (found x.items es)) h

  there : (x : Vec ℕ Global) → is_eq (byte_cmp key.items x.items) ≡ false → found x.items ds ≡ found x.items es
  there x h = u x ∙ ap (λ (w : Bool). cond w (Some rows) (found x.items es)) h

  pub place-made : (c : Tree) → key.items ≡ code c → HasPlace c ds
  place-made c e x f = ap is_some (here x (is_eq-slice_cmp key.items x.items ∙ same_bytes key.items x.items (e ∙ sym f)))

  pub places-kept : (c : Tree) → HasPlace c es → HasPlace c ds
  places-kept c p x f = go (is_eq (byte_cmp key.items x.items)) refl
    where
      go : (b : Bool) → is_eq (byte_cmp key.items x.items) ≡ b → HasPlaceAt x.items ds
      go true h = ap is_some (here x h)
      go false h = ap is_some (there x h) ∙ p x f

  pub still-bare : AreFiled [] es → AreFiled [] ds
  still-bare k = record { ready = k.ready; under = λ x p. go x p (is_eq (byte_cmp key.items x.items)) refl }
    where
      go : (x : Vec ℕ Global) → HasPlaceAt x.items ds → (b : Bool) → is_eq (byte_cmp key.items x.items) ≡ b → filed x.items ds ≡ []
      go x p true h = ap rows_in (here x h) ∙ ap (each referred) bare
      go x p false h = ap rows_in (there x h) ∙ k.under x (ap is_some (sym (there x h)) ∙ p)

-- nothing is filed in an empty map
pub none-filed-yet : (es : Entries) → es ≡ [] → AreFiled [] es
none-filed-yet es e = record { ready = All-nil HasReadyChannel; under = λ x p. ap (filed x.items) e }

-- places that a row makes stay
pub awaited-kept : (r : Row) (es ds : Entries) → ((c : Tree) → HasPlace c es → HasPlace c ds) → IsAwaited r es → IsAwaited r ds
awaited-kept r es ds f a n = all-so (channels r.part) (a n)
  where
    all-so : (cs : List Tree) → All (λ c. HasPlace c es) cs → All (λ c. HasPlace c ds) cs
    all-so [] h = All-nil (λ c. HasPlace c ds)
    all-so (c ∷ cs) h = All-cons (λ c. HasPlace c ds) c cs (f c (All-head (λ c. HasPlace c es) c cs h)) (all-so cs (All-tail (λ c. HasPlace c es) c cs h))

pub all-kept : (rs : List Row) (es ds : Entries) → ((c : Tree) → HasPlace c es → HasPlace c ds) → AreAwaited rs es → AreAwaited rs ds
all-kept [] es ds f a = All-nil (λ r. IsAwaited r ds)
all-kept (r ∷ rs) es ds f a =
    All-cons (λ r. IsAwaited r ds) r rs (awaited-kept r es ds f (All-head (λ r. IsAwaited r es) r rs a)) (all-kept rs es ds f (All-tail (λ r. IsAwaited r es) r rs a))

-- places for binds stay
pub binds-kept : (bs : List TermBind) (es ds : Entries) → ((c : Tree) → HasPlace c es → HasPlace c ds) → All (λ b. HasPlace b.channel es) bs → All (λ b. HasPlace b.channel ds) bs
binds-kept [] es ds f a = All-nil (λ b. HasPlace b.channel ds)
binds-kept (b ∷ bs) es ds f a =
    All-cons (λ b. HasPlace b.channel ds) b bs (f b.channel (All-head (λ b. HasPlace b.channel es) b bs a)) (binds-kept bs es ds f (All-tail (λ b. HasPlace b.channel es) b bs a))

-- places stay where a row is put under a code
pub put-kept : (key : List ℕ) (r : Row) (es ds : Entries) → IsPutUnder key r es ds → (c : Tree) → HasPlace c es → HasPlace c ds
put-kept key r es ds u c p x e = u.kept x (p x e)

-- what a send is filed under
pub send-on : (r : Row) (id : Digest) (c : Tree) (xs : Vec Tree Global) (q : Bool) → r ≡ row_of_op (op.Produce id c xs q) → (x : List ℕ) → is_on x r ≡ bytes_eq x (code c)
send-on r id c xs q e x = ap (is_on x) e

pub send-ready : (r : Row) (id : Digest) (c : Tree) (xs : Vec Tree Global) (q : Bool) → r ≡ row_of_op (op.Produce id c xs q) → Ready term c → HasReadyChannel r
send-ready r id c xs q e h d g =
    let it : Datum = record { persistent = q; channel = c; args = held (many row xs.items) } in
    let same : Some it ≡ Some d = sym (ap (λ (y : Row). as_datum y.part) e) ∙ g in
    let one : it ≡ d = cc same in
    subst (Ready term) (ap (λ (y : Datum). y.channel) one) h

-- a receive is filed nowhere
pub receive-on : (r : Row) (id : Digest) (k : Kind) (bs : Vec TermBind Global) (body : Tree) → r ≡ row_of_op (op.Consume id k bs body) → (x : List ℕ) → is_on x r ≡ false
receive-on r id k bs body e x = ap (is_on x) e

pub receive-ready : (r : Row) (id : Digest) (k : Kind) (bs : Vec TermBind Global) (body : Tree) → r ≡ row_of_op (op.Consume id k bs body) → HasReadyChannel r
receive-ready r id k bs body e d g = let none : as_datum r.part ≡ None = ap (λ (y : Row). as_datum y.part) e in cc (none, g)

-- a send waits on no channel
pub send-awaits : (r : Row) (id : Digest) (c : Tree) (xs : Vec Tree Global) (q : Bool) → r ≡ row_of_op (op.Produce id c xs q) → (es : Entries) → IsAwaited r es
send-awaits r id c xs q e es n =
    let it : Datum = record { persistent = q; channel = c; args = held (many row xs.items) } in
    let some : as_datum r.part ≡ Some it = ap (λ (y : Row). as_datum y.part) e in
    cc (some, n)

-- what a receiver waits on: the channels of its binds
module _ (r : Row) (id : Digest) (k : Kind) (bs : Vec TermBind Global) (body : Tree) (e : r ≡ row_of_op (op.Consume id k bs body)) (es : Entries) where
  its-channels : channels r.part ≡ each (λ b. b.channel) bs.items
  its-channels = ap (λ (y : Row). channels y.part) e ∙ channels-receive id k bs body

  pub receive-awaits : All (λ b. HasPlace b.channel es) bs.items → IsAwaited r es
  receive-awaits a n = subst (λ (cs : List Tree). All (λ c. HasPlace c es) cs) (sym its-channels) (All-map (λ c. HasPlace c es) (λ (b : TermBind). b.channel) bs.items a)

  pub binds-awaited : IsAwaited r es → All (λ b. HasPlace b.channel es) bs.items
  binds-awaited a = each-bind bs.items (subst (λ (cs : List Tree). All (λ c. HasPlace c es) cs) its-channels (a (ap (λ (y : Row). as_datum y.part) e)))
    where
      each-bind : (xs : List TermBind) → All (λ c. HasPlace c es) (each (λ (x : TermBind). x.channel) xs) → All (λ b. HasPlace b.channel es) xs
      each-bind [] h = All-nil (λ b. HasPlace b.channel es)
      each-bind (b ∷ xs) h =
          All-cons (λ b. HasPlace b.channel es) b xs (All-head (λ c. HasPlace c es) b.channel (each (λ (x : TermBind). x.channel) xs) h) (each-bind xs (All-tail (λ c. HasPlace c es) b.channel (each (λ (x : TermBind). x.channel) xs) h))

-- what a call makes sure of where it succeeds, with what follows from it
pub when-ok : {A E : Type 0} (P Q : Type 0) (x : Result A E) → (P → Q) → IfOk x (λ _. P) → IfOk x (λ _. Q)
when-ok P Q (Ok y) f h = f h
when-ok P Q (Err e) f h = tt
