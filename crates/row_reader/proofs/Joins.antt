-- Binds of a row, whose channels ascend in their codes.
use Rattle.std.proofs.Common.{◌≡◌, ℕ, zero, suc, ◌<◌, ◌≤◌, ◌-◌, ◌+◌, ◌^◌, List, [], ◌∷◌, ◌++◌, map, length, refl, ap, sym, ◌∙◌, subst, arith, append_assoc, append-nil, length-append, inl, inr, ⊎_elim}
use Rattle.std.specs.Prelude.{true, false, replicate}
use Rattle.std.proofs.lemmas.Bool.{cases_Bool}
use Rattle.std.proofs.lemmas.List.{map-append}
use Rattle.calculus.specs.Bytes.{be32, joined}
use Rattle.calculus.specs.Code.{code, codes}
use Rattle.calculus.specs.Form.{term, a_bind, a_rest, name_pat, row_of, Scope, Fits, Hold, all}
use Rattle.calculus.specs.Order.{up_to, IsAscending}
use Rattle.calculus.specs.Shape.{at, count, held, leaf, three as three_kids}
use Rattle.calculus.specs.Size.{height, heights}
use Rattle.calculus.specs.Tree.{par, row, bind, rest, Tree, node, Trees, none, also, trees}
use Rattle.calculus.specs.declared.plain.TermRest.TheVariants as rests
use Rattle.calculus.proofs.FromFits.{codes_split}
use Rattle.calculus.proofs.Ordered.{up_to_total}
use Rattle.calculus.proofs.Prefixes.{cut}
use Rattle.calculus.proofs.Splitting.{kids-short, length-codes}
use Rattle.calculus.proofs.ListCodes.{length-map}
use Rattle.rho_term.specs.Parts.{bind_tree}
use Rattle.rho_term.specs.declared.term.TermBind.{TermBind}
use Rattle.code_faults.specs.declared.fault.ReadFault.{ReadFault}
use Rattle.code_faults.specs.declared.fault.ReadFault.TheVariants as fault
use Rattle.code_faults.specs.Beginning.{Begun, BegunNumber, BegunRow, Cuts, Follows, Goes, HasPlace, IsAt}
use Rattle.code_faults.specs.Reading.{Reads}
use Rattle.code_faults.specs.Refusing.{AreRight, Denies, HasRoom, IsRight, Refuses, RefusesNumber}
use Rattle.row_reader.specs.RowCodes.{BegunJoin, channel_codes, RefusesJoin, WhereCut}
use Rattle.code_faults.proofs.Begins.{first-cut, read-cut, none-cut, Good, good-append, good-fill, good-more, some-bind}
use Rattle.code_faults.proofs.BegunRows.{below, count-list, length-fill, row-cut}
use Rattle.code_faults.proofs.Denying.{first-denied, less-left, number-next, read-next}
use Rattle.code_faults.proofs.Going.{each-code, go}
use Rattle.code_faults.proofs.Kids.{count-right, first-right, no_false, rest-right, three}
use Rattle.code_faults.proofs.Rows.{ascending-more, last-more, last_of, Row}

up_to-same : (c : List ℕ) → up_to c c ≡ true
up_to-same c = ⊎_elim (λ t. t) (λ f. up_to_total c c f) (cases_Bool (up_to c c))

-- the channel of a bind
abbrev pub channel : Tree → Tree
channel b = at 0 (held b)

channels-more : (ts : List Tree) (t : Tree) → channel_codes (trees (ts ++ t ∷ [])) ≡ channel_codes (trees ts) ++ code (channel t) ∷ []
channels-more [] t = refl
channels-more (u ∷ us) t = ap (λ (cs : List (List ℕ)). code (channel u) ∷ cs) (channels-more us t)

channels-append : (ts us : List Tree) → channel_codes (trees (ts ++ us)) ≡ channel_codes (trees ts) ++ channel_codes (trees us)
channels-append [] us = refl
channels-append (t ∷ ts) us = ap (λ (cs : List (List ℕ)). code (channel t) ∷ cs) (channels-append ts us)

channels-fill : (n : ℕ) (t : Tree) → channel_codes (trees (replicate n t)) ≡ replicate n (code (channel t))
channels-fill zero t = refl
channels-fill (suc n) t = ap (λ (cs : List (List ℕ)). code (channel t) ∷ cs) (channels-fill n t)

-- binds that were read, whose channels ascend, and the code of the last of these channels
pub record Join {A : Type 0} (f : A → Tree) (xs : List A) (last : List ℕ) : Type 0 where
  pub up : IsAscending (channel_codes (trees (map f xs)))
  pub ends : last ≡ last_of (channel_codes (trees (map f xs)))

pub join-start : {A : Type 0} {f : A → Tree} {xs : List A} → xs ≡ [] → Join f xs []
join-start {f = f} {xs = xs} e = subst (λ ys. Join f ys []) (sym e) (record { up = tt; ends = refl })

pub join-push : {A : Type 0} {f : A → Tree} {xs ys : List A} (x : A) {last next : List ℕ} → ys ≡ xs ++ x ∷ [] → Join f xs last → next ≡ code (channel (f x)) → up_to last next ≡ true → Join f ys next
join-push {f = f} {xs = xs} {ys = ys} x {last = last} {next = next} e h k u =
    let cs = channel_codes (trees (map f xs)) in
    let c = code (channel (f x)) in
    let is : channel_codes (trees (map f ys)) ≡ cs ++ c ∷ [] = ap (λ zs. channel_codes (trees (map f zs))) e ∙ ap (λ (ts : List Tree). channel_codes (trees ts)) (map-append f xs (x ∷ [])) ∙ channels-more (map f xs) (f x) in
    let low : up_to (last_of cs) c ≡ true = subst (λ (y : List ℕ). up_to (last_of cs) y ≡ true) k (subst (λ (y : List ℕ). up_to y next ≡ true) h.ends u) in
    record {
      up = subst IsAscending (sym is) (ascending-more cs c h.up low);
      ends = k ∙ sym (last-more cs c) ∙ ap last_of (sym is);
    }

-- what a bind holds
pub record Bound (v : Scope) (room : ℕ) (t : Tree) : Type 0 where
  pub right : IsRight true term v room (channel t)
  pub more : List ℕ
  pub is : code t ≡ code (channel t) ++ more

pub bind-parts : {v : Scope} {room : ℕ} (t : Tree) → IsRight true a_bind v room t → Bound v room t
bind-parts {v = v} {room = room} (node bind ts) g =
    let p = three term (row_of name_pat) a_rest v room ts g.fits.1 (omega (arith, g.low)) (kids-short bind ts g.short) in
    subst (λ (us : Trees). Bound v room (node bind us)) (sym p.is) (record { right = p.one; more = code p.second ++ (code p.third ++ []); is = refl })
bind-parts (node par ts) g = absurd g.fits.1
bind-parts (node _ ts) g = absurd g.fits.1

-- a bind is denied where its channel is
pub bind-denied : {v : Scope} {room : ℕ} {e : ReadFault} {bs : List ℕ} (t : Tree) → IsRight true a_bind v room t → Denies e bs (code (channel t)) → Denies e bs (code t)
bind-denied {e = e} {bs = bs} t g h = let p = bind-parts t g in subst (λ (z : List ℕ). Denies e bs z) (sym p.is) (first-denied p.more h)

-- binds with one code have channels with one code
pub same-channel : {v : Scope} {room more : ℕ} (t u : Tree) → IsRight true a_bind v room t → IsRight true a_bind v more u → code t ≡ code u → code (channel t) ≡ code (channel u)
same-channel {v = v} t u g h e =
    let p = bind-parts t g in
    let q = bind-parts u h in
    (cut (code (channel t)) (code (channel u)) p.more q.more (codes_split term v v (channel t) (channel u) p.right.fits q.right.fits p.right.short q.right.short) (sym p.is ∙ e ∙ q.is)).0

heads : {A : Type 0} {a b : A} {xs ys : List A} → a ∷ xs ≡ b ∷ ys → (a ≡ b) × (xs ≡ ys)
heads e = (cc, cc)

-- of binds the first of which are those that were read, the next one's channel does not fall below the last of theirs
at-place : {A : Type 0} (f : A → Tree) {v : Scope} {room : ℕ} (more : ℕ) (xs : List A) (ts : Trees) (t : Tree) (ds : List (List ℕ))
    → Hold (all a_bind) v [] (trees (map f xs)) → heights (trees (map f xs)) ≤ more → AreRight true a_bind v room ts → IsRight true a_bind v room t
    → codes ts ≡ map (λ y. code (f y)) xs ++ code t ∷ ds → IsAscending (channel_codes ts)
    → up_to (last_of (channel_codes (trees (map f xs)))) (code (channel t)) ≡ true
at-place f more [] ts t ds h l g k e a = below (code (channel t))
at-place f more (x ∷ []) none t ds h l g k e a = absurd (cc)
at-place f more (x ∷ []) (also u none) t ds h l g k e a = absurd (let p = (heads e).1 in cc)
at-place f {v = v} {room = room} more (x ∷ []) (also u (also w ws)) t ds h l g k e a =
    let p : code u ≡ code (f x) = (heads e).0 in
    let q : code w ≡ code t = (heads (heads e).1).0 in
    let ru : IsRight true a_bind v room u = first-right u (also w ws) g in
    let rw_ : IsRight true a_bind v room w = first-right w ws (rest-right u (also w ws) g) in
    let rx : IsRight true a_bind v more (f x) = record { fits = h.0; low = omega (arith, l); short = subst (λ (z : List ℕ). length z < 2 ^ 32) p ru.short; free = λ z. absurd (no_false z) } in
    subst (λ (z : List ℕ). up_to z (code (channel t)) ≡ true) (same-channel u (f x) ru rx p)
    (subst (λ (z : List ℕ). up_to (code (channel u)) z ≡ true) (same-channel w t rw_ k q) a.0)
at-place f more (x ∷ y ∷ xs) none t ds h l g k e a = absurd (cc)
at-place f more (x ∷ y ∷ xs) (also u us) t ds h l g k e a = at-place f more (y ∷ xs) us t ds h.1 (omega (arith, l)) (rest-right u us g) k (heads e).1 a.1

-- a number, some binds, and then one is refused whose channel does not fall below the last of theirs
join-going : {A : Type 0} {f : A → Tree} {v : Scope} {room : ℕ} {e : ReadFault} {xs : List A} {start now last : List ℕ} (n : ℕ) (bs : List ℕ)
    → Row f a_bind v room xs start now → Join f xs last → bs ≡ be32 n ++ start → n < 2 ^ 32 → length xs < n
    → ((t : Tree) → IsRight true a_bind v room t → HasRoom v now → up_to last (code (channel t)) ≡ true → Denies e now (code t)) → RefusesJoin v room e bs
join-going {f = f} {v = v} {room = room} {e = e} {xs = xs} {last = last} n bs h j is m i r = record { no = there }
  where
    there : HasRoom v bs → (ts : Trees) → AreRight true a_bind v room ts → 1 ≤ count ts → count ts ≤ 16 → IsAscending (channel_codes ts) → Denies e bs (be32 (count ts) ++ joined (codes ts))
    there l ts g p q a = number-next (count ts) (joined (codes ts)) is m (count-right ts g)
        (λ w. go xs h (less-left (be32 n) is l) (codes ts) (each-code ts g) (omega (arith, length-codes ts, w))
        (λ t ds u k o. first-denied (joined ds) (r t k o (subst (λ (z : List ℕ). up_to z (code (channel t)) ≡ true) (sym j.ends) (at-place f room xs ts t ds h.fits h.low g k u a)))))

pub number-join : {v : Scope} {room : ℕ} {e : ReadFault} {bs : List ℕ} → RefusesNumber 1 16 e bs → RefusesJoin v room e bs
number-join h = record { no = λ l ts g p q a. first-denied (joined (codes ts)) (h.no (count ts) p q (count-right ts g)) }

-- bytes fall below the code of the last channel
pub join-low : {A : Type 0} {f : A → Tree} {v : Scope} {room : ℕ} {e : ReadFault} {xs : List A} {start now last : List ℕ} (n : ℕ) (bs : List ℕ)
    → Row f a_bind v room xs start now → Join f xs last → bs ≡ be32 n ++ start → n < 2 ^ 32 → length xs < n → ((c : List ℕ) → up_to last c ≡ true → Denies e now c) → RefusesJoin v room e bs
join-low n bs h j is m i r = join-going n bs h j is m i (λ t k l u. bind-denied t k (r (code (channel t)) u))

-- a bind is refused
pub join-refused : {A : Type 0} {f : A → Tree} {v : Scope} {room : ℕ} {e : ReadFault} {xs : List A} {start now last : List ℕ} (n : ℕ) (bs : List ℕ)
    → Row f a_bind v room xs start now → Join f xs last → bs ≡ be32 n ++ start → n < 2 ^ 32 → length xs < n → Refuses true a_bind v room e now → RefusesJoin v room e bs
join-refused n bs h j is m i r = join-going n bs h j is m i (λ t k l u. r.no l t k)

-- a channel falls below the one before it
pub join-lower : {A : Type 0} {f : A → Tree} {v : Scope} {room : ℕ} {e : ReadFault} {xs : List A} {start now last next : List ℕ} {c : Tree} (n : ℕ) (bs : List ℕ)
    → Row f a_bind v room xs start now → Join f xs last → bs ≡ be32 n ++ start → n < 2 ^ 32 → length xs < n
    → Reads term v room c now next → ((d : List ℕ) → now ≡ d ++ next → up_to last d ≡ true → ⊥) → RefusesJoin v room e bs
join-lower {e = e} {now = now} {last = last} {c = c} n bs h j is m i g r =
    join-going n bs h j is m i
    (λ t k l u. bind-denied t k
    (subst (λ (z : List ℕ). Denies e now z) (append-nil (code (channel t)))
    (read-next (channel t) [] g l (bind-parts t k).right (λ q. absurd (r (code c) g.is (subst (λ (z : List ℕ). up_to last z ≡ true) (sym q) u))))))

pub memory-join : {v : Scope} {room : ℕ} {bs : List ℕ} → RefusesJoin v room fault.NoMemory bs
memory-join = record { no = λ l ts g p q a. record { no = λ x y m w. absurd m } }

-- what holds where bytes end
pub cut-where : (e : ReadFault) {P : List ℕ → Type 0} {X : Type 0} → (HasPlace e → Goes e P) → (P [] → X) → WhereCut e X
cut-where (fault.Short at) {P = P} g f = let h = g tt in f (subst P h.place h.begun)
cut-where (fault.NotCanonical at) g f = tt
cut-where (fault.TooDeep at) g f = tt
cut-where (fault.Unnamed at) g f = tt
cut-where fault.NoMemory g f = tt

pub cut-here : (e : ReadFault) {bs : List ℕ} {X : Type 0} → IsAt e bs → (bs ≡ [] → X) → WhereCut e X
cut-here (fault.Short at) p f = f p
cut-here (fault.NotCanonical at) p f = tt
cut-here (fault.TooDeep at) p f = tt
cut-here (fault.Unnamed at) p f = tt
cut-here fault.NoMemory p f = tt

pub cut-told : (X : Type 0) (e : ReadFault) {k : ℕ} → e ≡ fault.NotCanonical k → WhereCut e X
cut-told X e p = subst (λ (x : ReadFault). WhereCut x X) (sym p) tt

pub cut-on : (e : ReadFault) {X Y : Type 0} → WhereCut e X → (X → Y) → WhereCut e Y
cut-on (fault.Short at) h f = f h
cut-on (fault.NotCanonical at) h f = tt
cut-on (fault.TooDeep at) h f = tt
cut-on (fault.Unnamed at) h f = tt
cut-on fault.NoMemory h f = tt

ascending-fill : (n : ℕ) (cs : List (List ℕ)) (c : List ℕ) → IsAscending cs → up_to (last_of cs) c ≡ true → IsAscending (cs ++ replicate n c)
ascending-fill zero cs c h u = subst IsAscending (sym (append-nil cs)) h
ascending-fill (suc n) cs c h u =
    subst IsAscending (append_assoc cs (c ∷ []) (replicate n c))
    (ascending-fill n (cs ++ c ∷ []) c (ascending-more cs c h u) (subst (λ (z : List ℕ). up_to z c ≡ true) (sym (last-more cs c)) (up_to-same c)))

-- a bind that goes on with those that were read, and is cut
join-begun_by : {A : Type 0} {f : A → Tree} {v : Scope} {room : ℕ} {xs : List A} {start now last bs : List ℕ} (n : ℕ) (t : Tree)
    → Row f a_bind v room xs start now → Join f xs last → bs ≡ be32 n ++ start → length xs < n → n ≤ 16
    → Fits a_bind v t → height t ≤ room → up_to last (code (channel t)) ≡ true → Cuts now (code t) [] → BegunJoin v room bs
join-begun_by {f = f} {v = v} {room = room} {xs = xs} {last = last} n t h j is l o fits low u g =
    let others = replicate (n - length xs - 1) t in
    let ts = map f xs ++ t ∷ others in
    let few : length xs + (1 + length others) ≡ n = omega (arith, length-fill (n - length xs - 1) t, l) in
    let good : Good true a_bind v room ts = good-append (map f xs) (record { fits = h.fits; low = h.low; free = λ q. absurd (no_false q) })
    (good-more t fits low (λ q. absurd (no_false q)) (good-fill (n - length xs - 1) t fits low (λ q. absurd (no_false q)))) in
    let cs = channel_codes (trees (map f xs)) in
    let up : IsAscending (cs ++ replicate (suc (n - length xs - 1)) (code (channel t))) = ascending-fill (suc (n - length xs - 1)) cs (code (channel t)) j.up (subst (λ (z : List ℕ). up_to z (code (channel t)) ≡ true) j.ends u) in
    let m : count (trees ts) ≡ n = omega (arith, count-list ts, length-append (map f xs) (t ∷ others), length-map f xs, few) in
    record {
      trees = trees ts;
      fits = good.fits;
      low = good.low;
      enough = omega (arith, m, l);
      few = omega (arith, m, o);
      up = subst IsAscending (sym (channels-append (map f xs) (t ∷ others) ∙ ap (λ (ds : List (List ℕ)). cs ++ code (channel t) ∷ ds) (channels-fill (n - length xs - 1) t))) up;
      cut = row-cut n t others h is few g;
    }

-- the number is cut
pub number-join_begun : {v : Scope} {room : ℕ} {bs : List ℕ} → BegunNumber 1 16 bs [] → BegunJoin v room bs
number-join_begun {v = v} {room = room} {bs = bs} h =
    let k = some-bind v in
    let ts = replicate h.number k.tree in
    let good : Good false a_bind v room ts = good-fill h.number k.tree k.fits (omega (arith, k.low)) (λ z. k.free) in
    let m : count (trees ts) ≡ h.number = omega (arith, count-list ts, length-fill h.number k.tree) in
    let c = code (channel k.tree) in
    record {
      trees = trees ts;
      fits = good.fits;
      low = good.low;
      enough = omega (arith, m, h.enough);
      few = omega (arith, m, h.few);
      up = subst IsAscending (sym (channels-fill h.number k.tree)) (ascending-fill h.number [] c tt (below c));
      cut = subst (λ (z : ℕ). Cuts bs (be32 z ++ joined (codes (trees ts))) []) (sym m) (first-cut (joined (codes (trees ts))) h.cut);
    }

-- a bind of this channel and these patterns
abbrev bind-of : Tree → Tree → Tree
bind-of c r = three_kids bind c r (leaf (rest rests.No))

-- the last of the channels that were read
record LastChannel (v : Scope) (room : ℕ) (last : List ℕ) : Type 0 where
  pub tree : Tree
  pub fits : Fits term v tree
  pub low : height tree ≤ room
  pub is : last ≡ code tree

-- the channel of a bind is a process
channel-fits : (v : Scope) (t : Tree) → Fits a_bind v t → Fits term v (channel t)
channel-fits v (node bind none) h = absurd h.1
channel-fits v (node bind (also c none)) h = absurd h.1.1
channel-fits v (node bind (also c (also r rs))) h = h.1.0
channel-fits v (node par ts) h = absurd h.1
channel-fits v (node _ ts) h = absurd h.1

channel-low : (t : Tree) → height (channel t) ≤ height t
channel-low (node l none) = omega arith
channel-low (node l (also c cs)) = omega arith

last-channel : (v : Scope) (room : ℕ) (ts : List Tree) → Hold (all a_bind) v [] (trees ts) → heights (trees ts) ≤ room → 0 < length (last_of (channel_codes (trees ts))) → LastChannel v room (last_of (channel_codes (trees ts)))
last-channel v room [] h l p = absurd (omega arith)
last-channel v room (t ∷ []) h l p = record { tree = channel t; fits = channel-fits v t h.0; low = omega (arith, l, channel-low t); is = refl }
last-channel v room (t ∷ u ∷ ts) h l p = last-channel v room (u ∷ ts) h.1 (omega (arith, l)) p

module _ {A : Type 0} {f : A → Tree} {v : Scope} {room : ℕ} {xs : List A} {start now last bs : List ℕ} (n : ℕ)
    (h : Row f a_bind v room xs start now) (j : Join f xs last) (is : bs ≡ be32 n ++ start) (l : length xs < n) (o : n ≤ 16) where
  -- a channel is cut, and its bytes do not fall below the last of those before it
  pub join-channel_begun : Follows last now → Begun true term v room now [] → BegunJoin v room bs
  join-channel_begun (inl c) g =
      let some : 0 < length last = omega (arith, ap length c.goes, length-append c.before c.more, c.some) in
      let e = last-channel v room (map f xs) h.fits h.low (subst (λ (z : List ℕ). 0 < length z) j.ends some) in
      let same : last ≡ code e.tree = j.ends ∙ e.is in
      join-begun_by n (bind-of e.tree (node row none)) h j is l o (tt, (e.fits, ((tt, tt), ((tt, tt), tt)))) (omega (arith, e.low))
      (subst (λ (z : List ℕ). up_to last z ≡ true) same (up_to-same last)) (first-cut _ (subst (λ (z : List ℕ). Cuts now z []) same c))
  join-channel_begun (inr u) g =
      let whole : g.cut.before ≡ now = sym (append-nil g.cut.before) ∙ g.cut.is in
      let goes : now ++ g.cut.more ≡ code g.tree = ap (λ (z : List ℕ). z ++ g.cut.more) (sym whole) ∙ g.cut.goes in
      join-begun_by n (bind-of g.tree (node row none)) h j is l o (tt, (g.fits, ((tt, tt), ((tt, tt), tt)))) (omega (arith, g.low))
      (subst (λ (z : List ℕ). up_to last z ≡ true) goes (u g.cut.more)) (first-cut _ g.cut)

  -- the patterns behind a channel are cut
  pub join-patterns_begun : {least most : ℕ} {c : Tree} {next code_ : List ℕ} → Reads term v room c now next → code_ ≡ code c → up_to last code_ ≡ true → BegunRow true name_pat v room least most next [] → BegunJoin v room bs
  join-patterns_begun {c = c} r e u g =
      join-begun_by n (bind-of c (node row g.trees)) h j is l o (tt, (r.fits, ((tt, g.fits), ((tt, tt), tt)))) (omega (arith, r.low, g.low))
      (subst (λ (z : List ℕ). up_to last z ≡ true) e u) (read-cut r (first-cut _ g.cut))

  -- the remainder is cut
  pub join-rest_begun : {c p : Tree} {next code_ left : List ℕ} → Reads term v room c now next → code_ ≡ code c → up_to last code_ ≡ true → Reads (row_of name_pat) v room p next left → left ≡ [] → BegunJoin v room bs
  join-rest_begun {c = c} {p = p} r e u d z =
      join-begun_by n (bind-of c p) h j is l o (tt, (r.fits, (d.fits, ((tt, tt), tt)))) (omega (arith, r.low, d.low))
      (subst (λ (w : List ℕ). up_to last w ≡ true) e u) (subst (λ (w : List ℕ). Cuts now (code (bind-of c p)) w) z (read-cut r (read-cut d (none-cut _ (omega arith)))))

-- the codes of the channels of binds, as they are kept
pub join-codes : (bs : List TermBind) → channel_codes (trees (map bind_tree bs)) ≡ map (λ (b : TermBind). code b.channel) bs
join-codes [] = refl
join-codes (b ∷ bs) = ap (λ (cs : List (List ℕ)). code b.channel ∷ cs) (join-codes bs)
