-- What a closed process offers is closed.
use Rattle.std.proofs.Common.{◌≡◌, ℕ, zero, suc, Bool, true, false, cond, ltb, List, [], ◌∷◌, ◌++◌, length, reverse, map as each, refl, sym, ap, ◌∙◌, subst, arith}
use Rattle.std.specs.Prelude.{⊤}
use Rattle.std.proofs.lemmas.List.{length-map}
use Rattle.calculus.proofs.Members.{Every, every-append}
use Rattle.calculus.specs.declared.fault.FaultKind.TheVariants as fault
use Rattle.calculus.specs.declared.plain.Kind.{Kind}
use Rattle.calculus.specs.declared.plain.Origin.{Origin}
use Rattle.calculus.specs.declared.plain.Origin.TheVariants as origins
use Rattle.calculus.specs.Tree.{Label, par, row, list, tuple, set, dict, send, receive, bind, new, match, case, bundle, unary, binary, method, Tree, node, Trees, none, also, trees}
use Rattle.calculus.specs.Shape.{held, listed, at, many, two}
use Rattle.calculus.specs.Size.{height}
use Rattle.calculus.specs.Code.{code}
use Rattle.calculus.specs.Variables.{bound, bound_all, binders}
use Rattle.calculus.specs.Normal.{ascending}
use Rattle.calculus.specs.Form.{term, part, a_bind, a_case, pat, all, Scope, Fits, Hold, IsClosed}
use Rattle.calculus.specs.Outcome.{Prices, Answer, gives, fails, unknown, Outcome, pure, after, in_order, within_limits}
use Rattle.calculus.specs.Substitution.{put}
use Rattle.calculus.specs.Seeds.{digest_of, Split, Body}
use Rattle.calculus.specs.Values.{value, values}
use Rattle.calculus.specs.Matching.{Bindings, first_of_all, all_matches}
use Rattle.calculus.specs.Rows.{Row, row_length}
use Rattle.calculus.specs.Unfolding.{Product, a_row, a_fresh, Channel, opened, row_limits, send_offered, receive_offered, sorted_receive, on_channel, on_channels, all_readable, has_twins, names_made, fresh_names, unfold_within, fitting, cases_tried, unfold_part, parts_unfolded, unfold_in}
use Rattle.calculus.proofs.Changed.{no_variables}
use Rattle.calculus.proofs.Placing.{listed-trees, trees-listed}
use Rattle.calculus.proofs.Results.{Gives, after-gives}
use Rattle.process_laws.proofs.Values.{EachGives, EachOf, in-order-gives, IsOperand, term-value, part-value, term-values}
use Rattle.process_laws.proofs.Lists.{ascending-every}
use Rattle.process_laws.proofs.UnfoldingPatterns.{a_pat}
use Rattle.process_laws.proofs.Fitting.{fits-tidy}
use Rattle.process_laws.proofs.Closing.{FirstIsClosed, first-closed, put-closed, names-closed}
use Rattle.process_laws.proofs.Ordering.{IsBind, every-bind, hold-binds, sorted_receives_are_closed}

-- a closed row, or a fresh name
abbrev pub IsClosedThing : Product → Type 0
IsClosedThing (a_row r) = Fits part [] r.part
IsClosedThing (a_fresh x) = ⊤

-- work that offers such things alone
abbrev pub OffersClosed : Outcome (List Product) → Type 0
OffersClosed o = Gives (Every IsClosedThing) o.answer

chosen : (b : Bool) (x y : Answer (List Product)) → Gives (Every IsClosedThing) x → Gives (Every IsClosedThing) y → Gives (Every IsClosedThing) (cond b x y)
chosen true x y h k = h
chosen false x y h k = k

limits : (r : Row) → Fits part [] r.part → Gives (Every IsClosedThing) (row_limits r)
limits r h =
    chosen (ltb 400 (height r.part)) (fails fault.TooDeep) (cond (ltb 1048576 (row_length r)) (fails fault.TooBig) (gives (a_row r ∷ []))) tt
    (chosen (ltb 1048576 (row_length r)) (fails fault.TooBig) (gives (a_row r ∷ [])) tt (h, tt))

any-gives : {A : Type 0} (a : Answer A) → Gives (λ x. ⊤) a
any-gives (gives x) = tt
any-gives (fails f) = tt
any-gives unknown = tt

opened-closed : (t : Tree) → IsClosed t → IsClosed (opened t).name
opened-closed (node par (also (node (bundle r) (also t none)) none)) h = opened-closed t h.1.0.1.0
opened-closed t h = h

hold-terms : (vs : List Tree) → Every IsOperand vs → Hold (all term) [] [] (trees vs)
hold-terms [] h = tt
hold-terms (v ∷ vs) h = (h.0.0, hold-terms vs h.1)

send-gives : (p : Prices) (s : List ℕ) (q : Bool) (c : Channel) (vs : List Tree) → IsClosed c.name → Every IsOperand vs → OffersClosed (send_offered p s q c vs)
send-gives p s q c vs h k =
    let r : Row = record { id = s; part = two (send q) c.name (many row vs) } in
    chosen c.writable (row_limits r) (fails fault.NotWritable) (limits r (tt, (h, ((tt, hold-terms vs k), tt)))) tt

-- binds on other closed channels bind the same
abbrev HasClosedName : Channel → Type 0
HasClosedName c = IsClosed c.name

bind-on : (c : Channel) (b : Tree) → HasClosedName c → IsBind b → IsBind (on_channel c b) × (bound (on_channel c b) ≡ bound b)
bind-on c (node bind (also d (also q (also r none)))) n h =
    ((tt, (n, (h.1.1.0, (h.1.1.1.0, tt)))), ap (λ vs. vs ++ (bound q ++ (bound r ++ []))) (no_variables [] c.name n ∙ sym (no_variables [] d h.1.0)))
bind-on c (node bind none) n h = absurd h.1
bind-on c (node bind (also d none)) n h = absurd h.1.1
bind-on c (node bind (also d (also q none))) n h = absurd h.1.1.1
bind-on c (node bind (also d (also q (also r (also x xs))))) n h = absurd h.1.1.1.1
bind-on c (node _ ts) n h = absurd h.1

binds-on : (cs : List Channel) (bs : List Tree) → Every HasClosedName cs → Every IsBind bs → length cs ≡ length bs → Every IsBind (on_channels cs bs) × (bound_all (trees (on_channels cs bs)) ≡ bound_all (trees bs)) × (length (on_channels cs bs) ≡ length bs)
binds-on [] [] n h e = (tt, refl, refl)
binds-on [] (b ∷ bs) n h e = cc
binds-on (c ∷ cs) [] n h e = cc
binds-on (c ∷ cs) (b ∷ bs) n h e =
    let x = bind-on c b n.0 h.0 in
    let y = binds-on cs bs n.1 h.1 (cc (e)) in
    ((x.0, y.0), ap (λ vs. vs ++ bound_all (trees (on_channels cs bs))) x.1 ∙ ap (λ vs. bound b ++ vs) y.1, ap suc y.2)

receive-closed : (k : Kind) (cs : List Channel) (bs : List Tree) (body : Tree) → Every HasClosedName cs → length cs ≡ length bs → Fits part [] (two (receive k) (many row bs) body) → Fits part [] (sorted_receive k (on_channels cs bs) body)
receive-closed k cs bs body n e h =
    let m = binds-on cs bs n (every-bind bs h.1.0.1) e in
    let l : length (listed (trees (on_channels cs bs))) ≡ length (listed (trees bs)) = ap length (listed-trees (on_channels cs bs)) ∙ m.2 ∙ sym (ap length (listed-trees bs)) in
    let s : reverse (bound_all (also (many row bs) (also body none))) ++ [] ≡ reverse (bound_all (also (many row (on_channels cs bs)) (also body none))) ++ [] = ap (λ vs. reverse (vs ++ (bound body ++ [])) ++ []) (sym m.1) in
    sorted_receives_are_closed k (on_channels cs bs) body
    ((omega (arith, h.0.0, l), omega (arith, h.0.1, l)), ((tt, hold-binds (on_channels cs bs) m.0), (subst (λ (x : Scope). Fits term x body) s h.1.1.0, tt)))

channel-closed : (b : Tree) → IsBind b → IsClosed (at 0 (held b))
channel-closed (node bind none) h = absurd h.1
channel-closed (node bind (also d none)) h = absurd h.1.1
channel-closed (node bind (also d (also q qs))) h = h.1.0
channel-closed (node _ ts) h = absurd h.1

named : (vs : List Tree) → Every IsOperand vs → Every HasClosedName (each opened vs)
named [] h = tt
named (v ∷ vs) h = (opened-closed v h.0.0, named vs h.1)

fresh-things : (s : List ℕ) (k : ℕ) (os : List Origin) → Every IsClosedThing (fresh_names s k os)
fresh-things s k [] = tt
fresh-things s k (origins.Plain ∷ os) = (tt, fresh-things s (suc k) os)
fresh-things s k (origins.Stdout ∷ os) = fresh-things s (suc k) os
fresh-things s k (origins.StdoutAck ∷ os) = fresh-things s (suc k) os

module _ (p : Prices) where
  -- the values of binds' channels
  channels-give : (bs : List Tree) → Every IsBind bs → EachGives IsOperand (each (λ b. value p (at 0 (held b))) bs)
  channels-give [] h = tt
  channels-give (b ∷ bs) h = (term-value p (at 0 (held b)) (channel-closed b h.0), channels-give bs h.1)

  module _ (room : ℕ) (ih : (t : Tree) (s : List ℕ) → IsClosed t → OffersClosed (unfold_in p room t s)) where
    pub within-offers : (u : Tree) (s : List ℕ) → IsClosed u → OffersClosed (unfold_within (unfold_in p room) s (within_limits u))
    within-offers u s w = go (ltb 400 (height u)) (ltb 1048576 (length (code u)))
      where
        go : (a b : Bool) → OffersClosed (unfold_within (unfold_in p room) s (cond a (fails fault.TooDeep) (cond b (fails fault.TooBig) (gives u))))
        go true b = tt
        go false true = tt
        go false false = ih u s w

    fitting-offers : (v : Scope) (s : List ℕ) (ms : List Bindings) (body : Tree) (next : Outcome (List Product)) → FirstIsClosed ms → Fits term v body → OffersClosed next → OffersClosed (fitting (unfold_in p room) s (first_of_all ms) body next)
    fitting-offers v s [] body next b f k = k
    fitting-offers v s (c ∷ ms) body next b f k = within-offers (put c body) s (put-closed v body c f b)

    cases-offer : (cs : Trees) → Hold (all a_case) [] [] cs → (v : Tree) → IsClosed v → (s : List ℕ) → OffersClosed (cases_tried p (unfold_in p room) s v (listed cs))
    cases-offer none h v g s = tt
    cases-offer (also (node case (also q (also b none))) cs) h v g s =
        fitting-offers (reverse (binders case (also q (also b none))) ++ []) s (all_matches q v) b (cases_tried p (unfold_in p room) s v (listed cs)) (first-closed q v (fits-tidy pat a_pat [] q tt h.0.1.0) g) h.0.1.1.0 (cases-offer cs h.1 v g s)
    cases-offer (also (node case none) cs) h v g s = absurd h.0.1
    cases-offer (also (node case (also q none)) cs) h v g s = absurd h.0.1.1
    cases-offer (also (node case (also q (also b (also x xs)))) cs) h v g s = absurd h.0.1.1.1
    cases-offer (also (node _ ts) cs) h v g s = absurd h.0.1

    again-offers : (o : Outcome Tree) (s : List ℕ) → Gives IsClosed o.answer → OffersClosed (after o (λ v. unfold_in p room v s))
    again-offers o s h = after-gives IsClosed (Every IsClosedThing) o (λ v. unfold_in p room v s) h (λ v k. ih v s k)

    silent-offers : (o : Outcome Tree) → OffersClosed (after o (λ v. pure []))
    silent-offers o = after-gives (λ v. ⊤) (Every IsClosedThing) o (λ v. pure []) (any-gives o.answer) (λ v y. tt)

    part-offers : (l : Label) (ts : Trees) → Fits part [] (node l ts) → (s : List ℕ) → OffersClosed (unfold_part p (unfold_in p room) s (node l ts))
    part-offers (receive k) (also (node row bs) (also body none)) h s =
        after-gives (EachOf IsOperand (length channels)) (Every IsClosedThing) (in_order channels) (λ vs. receive_offered p s k (each opened vs) (listed bs) body)
        (in-order-gives IsOperand channels (channels-give (listed bs) (listed-binds bs h.1.0.1)))
        (λ vs y. received (each opened vs) (named vs y.0) (length-map vs opened ∙ y.1 ∙ length-map (listed bs) (λ b. value p (at 0 (held b)))))
      where
        channels : List (Outcome Tree)
        channels = each (λ b. value p (at 0 (held b))) (listed bs)

        listed-binds : (bs : Trees) → Hold (all a_bind) [] [] bs → Every IsBind (listed bs)
        listed-binds none h = tt
        listed-binds (also b bs) h = (h.0, listed-binds bs h.1)

        whole : Fits part [] (two (receive k) (many row (listed bs)) body)
        whole = subst (λ (x : Trees). Fits part [] (two (receive k) (node row x) body)) (sym (trees-listed bs)) h

        received : (cs : List Channel) → Every HasClosedName cs → length cs ≡ length (listed bs) → OffersClosed (receive_offered p s k cs (listed bs) body)
        received cs n e =
            let r : Row = record { id = s; part = sorted_receive k (on_channels cs (listed bs)) body } in
            chosen (all_readable cs) (cond (has_twins (each (λ c. c.name) cs)) (fails fault.SameChannel) (row_limits r)) (fails fault.NotReadable)
            (chosen (has_twins (each (λ c. c.name) cs)) (fails fault.SameChannel) (row_limits r) tt (limits r (receive-closed k cs (listed bs) body n e whole))) tt
    part-offers (receive k) none h s = absurd h.1
    part-offers (receive k) (also b none) h s = absurd h.1.1
    part-offers (receive k) (also b (also body (also c cs))) h s = absurd h.1.1.1
    part-offers (receive k) (also (node _ bs) (also body none)) h s = absurd h.1.0.1
    part-offers (new os) (also body none) h s =
        after-gives (Every IsClosedThing) (Every IsClosedThing) (unfold_in p room (put (names_made s 0 os) body) (digest_of (Body s))) (λ ts. pure (fresh_names s 0 os ++ ts))
        (ih (put (names_made s 0 os) body) (digest_of (Body s)) (put-closed (reverse (binders (new os) (also body none)) ++ []) body (names_made s 0 os) h.1.0 (names-closed s 0 os)))
        (λ ts y. every-append IsClosedThing (fresh_names s 0 os) ts (fresh-things s 0 os) y)
    part-offers (new os) none h s = absurd h.1
    part-offers (new os) (also body (also c cs)) h s = absurd h.1.1
    part-offers match (also t (also (node row cs) none)) h s =
        after-gives IsOperand (Every IsClosedThing) (value p t) (λ v. cases_tried p (unfold_in p room) (digest_of (Body s)) v (listed cs)) (term-value p t h.1.0) (λ v k. cases-offer cs h.1.1.0.1 v k.0 (digest_of (Body s)))
    part-offers match none h s = absurd h.1
    part-offers match (also t none) h s = absurd h.1.1
    part-offers match (also t (also (node _ cs) none)) h s = absurd h.1.1.0.1
    part-offers match (also t (also c (also d ds))) h s = absurd h.1.1.1
    part-offers (bundle r) (also t none) h s = ih t (digest_of (Body s)) h.1.0
    part-offers (bundle r) none h s = absurd h.1
    part-offers (bundle r) (also t (also u us)) h s = absurd h.1.1
    part-offers (send q) (also c (also (node row xs) none)) h s =
        after-gives IsOperand (Every IsClosedThing) (value p c) (λ v. after (in_order (values p xs)) (λ vs. send_offered p s q (opened v) vs)) (term-value p c h.1.0)
        (λ v y. after-gives (EachOf IsOperand (length (values p xs))) (Every IsClosedThing) (in_order (values p xs)) (λ vs. send_offered p s q (opened v) vs) (in-order-gives IsOperand (values p xs) (term-values p [] xs h.1.1.0.1)) (λ vs z. send-gives p s q (opened v) vs (opened-closed v y.0) z.0))
    part-offers (send q) none h s = absurd h.1
    part-offers (send q) (also c none) h s = absurd h.1.1
    part-offers (send q) (also c (also (node _ xs) none)) h s = absurd h.1.1.0.1
    part-offers (send q) (also c (also y (also z zs))) h s = absurd h.1.1.1
    part-offers (unary o) ts h s = again-offers (value p (node (unary o) ts)) (digest_of (Body s)) (part-value p (node (unary o) ts) h)
    part-offers (binary o) ts h s = again-offers (value p (node (binary o) ts)) (digest_of (Body s)) (part-value p (node (binary o) ts) h)
    part-offers (method o) ts h s = again-offers (value p (node (method o) ts)) (digest_of (Body s)) (part-value p (node (method o) ts) h)
    part-offers list ts h s = silent-offers (value p (node list ts))
    part-offers tuple ts h s = silent-offers (value p (node tuple ts))
    part-offers set ts h s = silent-offers (value p (node set ts))
    part-offers dict ts h s = silent-offers (value p (node dict ts))
    part-offers _ ts h s = tt

    parts-offer : (ts : List Tree) → Every (λ t. Fits part [] t) ts → (s : List ℕ) (i : ℕ) → OffersClosed (parts_unfolded p (unfold_in p room) s i ts)
    parts-offer [] g s i = tt
    parts-offer (node l us ∷ ts) g s i =
        after-gives (Every IsClosedThing) (Every IsClosedThing) (unfold_part p (unfold_in p room) (digest_of (Split s i)) (node l us)) (λ rs. after (parts_unfolded p (unfold_in p room) s (suc i) ts) (λ qs. pure (rs ++ qs))) (part-offers l us g.0 (digest_of (Split s i)))
        (λ rs y. after-gives (Every IsClosedThing) (Every IsClosedThing) (parts_unfolded p (unfold_in p room) s (suc i) ts) (λ qs. pure (rs ++ qs)) (parts-offer ts g.1 s (suc i)) (λ qs z. every-append IsClosedThing rs qs y z))

  each-part : (ts : Trees) → Hold (all part) [] [] ts → Every (λ t. Fits part [] t) (listed ts)
  each-part none h = tt
  each-part (also t ts) h = (h.0, each-part ts h.1)

  process-parts : (t : Tree) → IsClosed t → Every (λ t. Fits part [] t) (ascending (held t))
  process-parts (node par ts) h = ascending-every (λ t. Fits part [] t) (listed ts) (each-part ts h.1)
  process-parts (node _ ts) h = absurd h.1

  -- whatever the room, what is offered is closed
  pub unfold-offers : (room : ℕ) (t : Tree) (s : List ℕ) → IsClosed t → OffersClosed (unfold_in p room t s)
  unfolding unfold_in
  unfold-offers zero t s h = tt
  unfold-offers (suc room) t s h = parts-offer room (unfold-offers room) (ascending (held t)) (process-parts t h) s 0
