-- Congruent closed processes unfold alike in each room.
use Rattle.std.proofs.Common.{◌≡◌, ℕ, zero, suc, ◌+◌, ◌*◌, ◌<◌, Bool, List, [], ◌∷◌, ◌++◌, length, reverse, map as each, refl, subst, arith}
use Rattle.std.specs.Prelude.{⊤}
use Rattle.std.specs.List.{AllZip}
use Rattle.calculus.proofs.Members.{Every}
use Rattle.calculus.specs.declared.plain.Kind.{Kind}
use Rattle.calculus.specs.declared.plain.Origin.{Origin}
use Rattle.calculus.specs.declared.plain.Rights.{Rights}
use Rattle.calculus.specs.Tree.{Label, par, row, list, tuple, set, dict, send, receive, new, match, bundle, unary, binary, method, Tree, node, Trees, none, also}
use Rattle.calculus.specs.Shape.{held, at, listed}
use Rattle.calculus.specs.CodeLaws.{IsShort}
use Rattle.calculus.specs.Variables.{binders}
use Rattle.calculus.specs.Normal.{ascending}
use Rattle.calculus.specs.Form.{term, part, all, Fits, Hold, IsClosed}
use Rattle.calculus.specs.Outcome.{Prices, Answer, gives, fails, unknown, Outcome, pure, after, in_order}
use Rattle.calculus.specs.Substitution.{put}
use Rattle.calculus.specs.Seeds.{digest_of, Split, Body}
use Rattle.calculus.specs.Values.{value, values}
use Rattle.calculus.specs.Unfolding.{opened, send_offered, receive_offered, names_made, fresh_names, cases_tried, unfold_part, parts_unfolded, unfold_in}
use Rattle.calculus.proofs.Keys.{key, equal_nodes}
use Rattle.calculus.proofs.Equivalence.{agree}
use Rattle.calculus.proofs.Results.{Gives}
use Rattle.process_laws.proofs.Values.{IsValue, part-value as part-closed, unary-small, binary-small, method-small}
use Rattle.process_laws.proofs.Outcomes.{Answers, Ends, after-ends, in_order-ends}
use Rattle.calculus.proofs.Reading.{IsRanged}
use Rattle.calculus.proofs.Ranges.{ranged_closed}
use Rattle.calculus.proofs.Formed.{Formed}
use Rattle.calculus.proofs.Tails.{length-be32}
use Rattle.process_laws.specs.ValuedLaws.{IsSameAnswer}
use Rattle.process_laws.proofs.Twins.{a_process, Twin, twin-key}
use Rattle.process_laws.proofs.Valued.{valued}
use Rattle.process_laws.proofs.Tied.{Tied}
use Rattle.process_laws.proofs.Targets.{aim, parts_tied}
use Rattle.process_laws.proofs.Lists.{ascending-every}
use Rattle.process_laws.proofs.Valuing.{IsOperator}
use Rattle.process_laws.proofs.Putting.{put-key}
use Rattle.process_laws.proofs.Sizing.{IsRoomy, cost, costs, roomy-short, names-are, put-roomy}
use Rattle.process_laws.proofs.Likeness.{AreRoomyTwins, AreSameThings, things-append, both-give, value-alike, pairs-of, opened-alike, kids-keys, first-keys}
use Rattle.process_laws.proofs.Rowing.{send-alike, receive-alike}
use Rattle.process_laws.proofs.Closing.{put-closed, names-closed}
use Rattle.process_laws.proofs.Pairing.{levels-self, pair-keys, pair-channels, fresh-self, again-charged, row-ends, binds-end}
use Rattle.process_laws.proofs.Cases.{cases-alike}

module _ (p : Prices) where
  module _ (room : ℕ) (ih : (t u : Tree) (s : List ℕ) → AreRoomyTwins t u → Ends AreSameThings (unfold_in p room t s) (unfold_in p room u s)) where
    -- what a part comes to by its value alone
    valued-alike : (o q : Outcome Tree) → Ends (λ v w. ⊤) o q → Ends AreSameThings (after o (λ v. pure [])) (after q (λ v. pure []))
    valued-alike o q h = after-ends (λ v w. ⊤) AreSameThings o q (λ v. pure []) (λ v. pure []) h (λ v w k. (refl, tt))

    any-answers : (R : Tree → Tree → Type 0) (a b : Answer Tree) → Answers R a b → Answers (λ v w. ⊤) a b
    any-answers R (gives x) (gives y) h = tt
    any-answers R (fails f) (fails g) h = h
    any-answers R unknown unknown h = tt
    any-answers R (gives x) (fails g) h = absurd h
    any-answers R (gives x) unknown h = absurd h
    any-answers R (fails f) (gives y) h = absurd h
    any-answers R (fails f) unknown h = absurd h
    any-answers R unknown (gives y) h = absurd h
    any-answers R unknown (fails g) h = absurd h

    same-value : (a b : Answer Tree) → Answers (Twin a_process) a b → IsSameAnswer a b
    same-value (gives x) (gives y) h = (agree x y).1 (twin-key a_process x y h)
    same-value (fails f) (fails g) h = h
    same-value unknown unknown h = tt
    same-value (gives x) (fails g) h = absurd h
    same-value (gives x) unknown h = absurd h
    same-value (fails f) (gives y) h = absurd h
    same-value (fails f) unknown h = absurd h
    same-value unknown (gives y) h = absurd h
    same-value unknown (fails g) h = absurd h

    -- the values of congruent parts
    part-ranged : (t : Tree) → Fits part [] t → cost t + 4 < 4294967296 → Formed IsRanged part t × IsShort t
    part-ranged t f a =
        ((ranged_closed (node par (also t none)) (tt, (f, tt)) (roomy-short (node par (also t none)) (omega (arith, a, length-be32 0)))).1.0, roomy-short t (omega (arith, a)))

    part-value : (t u : Tree) → Fits part [] t → Fits part [] u → cost t + 4 < 4294967296 → cost u + 4 < 4294967296 → key t ≡ key u → Ends (Twin a_process) (value p t) (value p u)
    part-value t u f g a b e = valued p part t u (e, part-ranged t f a, part-ranged u g b)

    collection-alike : (t u : Tree) → Fits part [] t → Fits part [] u → cost t + 4 < 4294967296 → cost u + 4 < 4294967296 → key t ≡ key u → Ends AreSameThings (after (value p t) (λ v. pure [])) (after (value p u) (λ v. pure []))
    collection-alike t u f g a b e = let h = part-value t u f g a b e in valued-alike (value p t) (value p u) (h.0, any-answers (Twin a_process) (value p t).answer (value p u).answer h.1)

    operator-gives : (l : Label) (ts : Trees) → IsOperator l → Fits part [] (node l ts) → Gives IsValue (value p (node l ts)).answer
    operator-gives (unary o) ts i f = both-give (value p (node (unary o) ts)).answer (part-closed p (node (unary o) ts) f) (unary-small p o ts)
    operator-gives (binary o) ts i f = both-give (value p (node (binary o) ts)).answer (part-closed p (node (binary o) ts) f) (binary-small p o ts)
    operator-gives (method n) ts i f = both-give (value p (node (method n) ts)).answer (part-closed p (node (method n) ts) f) (method-small p n ts)
    operator-gives _ ts i f = absurd i

    operator-alike : (l : Label) (ts us : Trees) (s : List ℕ) → IsOperator l → Fits part [] (node l ts) → Fits part [] (node l us) → cost (node l ts) + 4 < 4294967296 → cost (node l us) + 4 < 4294967296 → key (node l ts) ≡ key (node l us)
        → Ends AreSameThings (after (value p (node l ts)) (λ v. unfold_in p room v (digest_of (Body s)))) (after (value p (node l us)) (λ v. unfold_in p room v (digest_of (Body s))))
    operator-alike l ts us s i f g a b e =
        let h = part-value (node l ts) (node l us) f g a b e in
        after-ends AreRoomyTwins AreSameThings (value p (node l ts)) (value p (node l us)) (λ v. unfold_in p room v (digest_of (Body s))) (λ v. unfold_in p room v (digest_of (Body s)))
        (h.0, pairs-of (value p (node l ts)).answer (value p (node l us)).answer (operator-gives l ts i f) (operator-gives l us i g) (same-value (value p (node l ts)).answer (value p (node l us)).answer h.1))
        (λ v w k. ih v w (digest_of (Body s)) k)

    send-part : (q : Bool) (ts us : Trees) (s : List ℕ) → Fits part [] (node (send q) ts) → Fits part [] (node (send q) us) → cost (node (send q) ts) + 4 < 4294967296 → cost (node (send q) us) + 4 < 4294967296 → key (node (send q) ts) ≡ key (node (send q) us)
        → Ends AreSameThings (unfold_part p (unfold_in p room) s (node (send q) ts)) (unfold_part p (unfold_in p room) s (node (send q) us))
    send-part q (also c (also (node row xs) none)) (also d (also (node row ys) none)) s f g a b e =
        let k = kids-keys (send q) (also c (also (node row xs) none)) (also d (also (node row ys) none)) e refl in
        let x = first-keys c d (also (node row xs) none) (also (node row ys) none) k in
        let y = first-keys (node row xs) (node row ys) none none x.1 in
        let z = kids-keys row xs ys y.0 refl in
        after-ends AreRoomyTwins AreSameThings (value p c) (value p d) (λ v. after (in_order (values p xs)) (λ vs. send_offered p s q (opened v) vs)) (λ v. after (in_order (values p ys)) (λ vs. send_offered p s q (opened v) vs))
        (value-alike p c d (record { first = f.1.0; second = g.1.0; roomy = omega (arith, a); room = omega (arith, b); same = x.0 }))
        (λ v w r. after-ends (AllZip AreRoomyTwins) AreSameThings (in_order (values p xs)) (in_order (values p ys)) (λ vs. send_offered p s q (opened v) vs) (λ vs. send_offered p s q (opened w) vs)
        (in_order-ends AreRoomyTwins (values p xs) (values p ys) (row-ends p xs ys f.1.1.0.1 g.1.1.0.1 (omega (arith, a)) (omega (arith, b)) z))
        (λ vs ws m. send-alike p s q (opened v) (opened w) vs ws (opened-alike v w r) (pair-keys vs ws m)))
    send-part q none us s f g a b e = absurd f.1
    send-part q (also c none) us s f g a b e = absurd f.1.1
    send-part q (also c (also (node row xs) (also y ys))) us s f g a b e = absurd f.1.1.1
    send-part q (also c (also (node row xs) none)) none s f g a b e = absurd g.1
    send-part q (also c (also (node row xs) none)) (also d none) s f g a b e = absurd g.1.1
    send-part q (also c (also (node row xs) none)) (also d (also x (also y ys))) s f g a b e = absurd g.1.1.1
    send-part q (also c (also (node row xs) none)) (also d (also (node _ ys) none)) s f g a b e = absurd g.1.1.0.1
    send-part q (also c (also (node _ xs) none)) us s f g a b e = absurd f.1.1.0.1
    send-part q (also c (also x (also y ys))) us s f g a b e = absurd f.1.1.1

    receive-part : (x : Kind) (ts us : Trees) (s : List ℕ) → Fits part [] (node (receive x) ts) → Fits part [] (node (receive x) us) → cost (node (receive x) ts) + 4 < 4294967296 → cost (node (receive x) us) + 4 < 4294967296 → key (node (receive x) ts) ≡ key (node (receive x) us)
        → Ends AreSameThings (unfold_part p (unfold_in p room) s (node (receive x) ts)) (unfold_part p (unfold_in p room) s (node (receive x) us))
    receive-part x (also (node row bs) (also body none)) (also (node row ds) (also other none)) s f g a b e =
        let k = kids-keys (receive x) (also (node row bs) (also body none)) (also (node row ds) (also other none)) e refl in
        let y = first-keys (node row bs) (node row ds) (also body none) (also other none) k in
        let z = first-keys body other none none y.1 in
        let w = kids-keys row bs ds y.0 refl in
        let m = binds-end p bs ds f.1.0.1 g.1.0.1 (omega (arith, a)) (omega (arith, b)) w in
        after-ends (AllZip AreRoomyTwins) AreSameThings (in_order (each (λ c. value p (at 0 (held c))) (listed bs))) (in_order (each (λ c. value p (at 0 (held c))) (listed ds)))
        (λ vs. receive_offered p s x (each opened vs) (listed bs) body) (λ vs. receive_offered p s x (each opened vs) (listed ds) other)
        (in_order-ends AreRoomyTwins (each (λ c. value p (at 0 (held c))) (listed bs)) (each (λ c. value p (at 0 (held c))) (listed ds)) m.0)
        (λ vs ws r. receive-alike p s x (each opened vs) (each opened ws) (listed bs) (listed ds) (reverse (binders (receive x) (also (node row bs) (also body none))) ++ []) body other (pair-channels vs ws r) m.1 f.1.1.0 z.0)
    receive-part x none us s f g a b e = absurd f.1
    receive-part x (also c none) us s f g a b e = absurd f.1.1
    receive-part x (also (node row bs) (also y (also z zs))) us s f g a b e = absurd f.1.1.1
    receive-part x (also (node row bs) (also body none)) none s f g a b e = absurd g.1
    receive-part x (also (node row bs) (also body none)) (also d none) s f g a b e = absurd g.1.1
    receive-part x (also (node row bs) (also body none)) (also d (also y (also z zs))) s f g a b e = absurd g.1.1.1
    receive-part x (also (node row bs) (also body none)) (also (node _ ds) (also y none)) s f g a b e = absurd g.1.0.1
    receive-part x (also (node _ bs) (also y none)) us s f g a b e = absurd f.1.0.1
    receive-part x (also c (also y (also z zs))) us s f g a b e = absurd f.1.1.1

    new-part : (os : List Origin) (ts us : Trees) (s : List ℕ) → Fits part [] (node (new os) ts) → Fits part [] (node (new os) us) → cost (node (new os) ts) + 4 < 4294967296 → cost (node (new os) us) + 4 < 4294967296 → key (node (new os) ts) ≡ key (node (new os) us)
        → Ends AreSameThings (unfold_part p (unfold_in p room) s (node (new os) ts)) (unfold_part p (unfold_in p room) s (node (new os) us))
    new-part os (also body none) (also other none) s f g a b e =
        let k = kids-keys (new os) (also body none) (also other none) e refl in
        let z = first-keys body other none none k in
        let ns = names_made s 0 os in
        let n = names-are s 0 os in
        let v = reverse (binders (new os) (also body none)) ++ [] in
        again-charged (p.name * length os) _ _
        (after-ends AreSameThings AreSameThings (unfold_in p room (put ns body) (digest_of (Body s))) (unfold_in p room (put ns other) (digest_of (Body s))) (λ ts. pure (fresh_names s 0 os ++ ts)) (λ ts. pure (fresh_names s 0 os ++ ts))
        (ih (put ns body) (put ns other) (digest_of (Body s)) (record {
          first = put-closed v body ns f.1.0 (names-closed s 0 os);
          second = put-closed v other ns g.1.0 (names-closed s 0 os);
          roomy = omega (arith, a, put-roomy v body ns f.1.0 n);
          room = omega (arith, b, put-roomy v other ns g.1.0 n);
          same = put-key v body other ns ns f.1.0 z.0 (levels-self ns);
        }))
        (λ xs ys r. (refl, things-append (fresh_names s 0 os) (fresh_names s 0 os) xs ys (fresh-self s 0 os) r)))
    new-part os none us s f g a b e = absurd f.1
    new-part os (also c (also d ds)) us s f g a b e = absurd f.1.1
    new-part os (also c none) none s f g a b e = absurd g.1
    new-part os (also c none) (also d (also x xs)) s f g a b e = absurd g.1.1

    match-part : (ts us : Trees) (s : List ℕ) → Fits part [] (node match ts) → Fits part [] (node match us) → cost (node match ts) + 4 < 4294967296 → cost (node match us) + 4 < 4294967296 → key (node match ts) ≡ key (node match us)
        → Ends AreSameThings (unfold_part p (unfold_in p room) s (node match ts)) (unfold_part p (unfold_in p room) s (node match us))
    match-part (also c (also (node row cs) none)) (also d (also (node row ds) none)) s f g a b e =
        let k = kids-keys match (also c (also (node row cs) none)) (also d (also (node row ds) none)) e refl in
        let x = first-keys c d (also (node row cs) none) (also (node row ds) none) k in
        let y = first-keys (node row cs) (node row ds) none none x.1 in
        let z = kids-keys row cs ds y.0 refl in
        after-ends AreRoomyTwins AreSameThings (value p c) (value p d) (λ v. cases_tried p (unfold_in p room) (digest_of (Body s)) v (listed cs)) (λ v. cases_tried p (unfold_in p room) (digest_of (Body s)) v (listed ds))
        (value-alike p c d (record { first = f.1.0; second = g.1.0; roomy = omega (arith, a); room = omega (arith, b); same = x.0 }))
        (λ v w r. cases-alike p room ih cs ds f.1.1.0.1 g.1.1.0.1 z v w r (digest_of (Body s)))
    match-part none us s f g a b e = absurd f.1
    match-part (also c none) us s f g a b e = absurd f.1.1
    match-part (also c (also (node row xs) (also y ys))) us s f g a b e = absurd f.1.1.1
    match-part (also c (also (node row xs) none)) none s f g a b e = absurd g.1
    match-part (also c (also (node row xs) none)) (also d none) s f g a b e = absurd g.1.1
    match-part (also c (also (node row xs) none)) (also d (also x (also y ys))) s f g a b e = absurd g.1.1.1
    match-part (also c (also (node row xs) none)) (also d (also (node _ ys) none)) s f g a b e = absurd g.1.1.0.1
    match-part (also c (also (node _ xs) none)) us s f g a b e = absurd f.1.1.0.1
    match-part (also c (also x (also y ys))) us s f g a b e = absurd f.1.1.1

    bundle-part : (r : Rights) (ts us : Trees) (s : List ℕ) → Fits part [] (node (bundle r) ts) → Fits part [] (node (bundle r) us) → cost (node (bundle r) ts) + 4 < 4294967296 → cost (node (bundle r) us) + 4 < 4294967296 → key (node (bundle r) ts) ≡ key (node (bundle r) us)
        → Ends AreSameThings (unfold_part p (unfold_in p room) s (node (bundle r) ts)) (unfold_part p (unfold_in p room) s (node (bundle r) us))
    bundle-part r (also t none) (also u none) s f g a b e =
        let k = first-keys t u none none (kids-keys (bundle r) (also t none) (also u none) e refl) in
        ih t u (digest_of (Body s)) (record { first = f.1.0; second = g.1.0; roomy = omega (arith, a); room = omega (arith, b); same = k.0 })
    bundle-part r none us s f g a b e = absurd f.1
    bundle-part r (also c (also d ds)) us s f g a b e = absurd f.1.1
    bundle-part r (also c none) none s f g a b e = absurd g.1
    bundle-part r (also c none) (also d (also x xs)) s f g a b e = absurd g.1.1

    same-part : (l : Label) (ts us : Trees) (s : List ℕ) → Fits part [] (node l ts) → Fits part [] (node l us) → cost (node l ts) + 4 < 4294967296 → cost (node l us) + 4 < 4294967296 → key (node l ts) ≡ key (node l us)
        → Ends AreSameThings (unfold_part p (unfold_in p room) s (node l ts)) (unfold_part p (unfold_in p room) s (node l us))
    same-part (send q) ts us s f g a b e = send-part q ts us s f g a b e
    same-part (receive x) ts us s f g a b e = receive-part x ts us s f g a b e
    same-part (new os) ts us s f g a b e = new-part os ts us s f g a b e
    same-part match ts us s f g a b e = match-part ts us s f g a b e
    same-part (bundle r) ts us s f g a b e = bundle-part r ts us s f g a b e
    same-part (unary o) ts us s f g a b e = operator-alike (unary o) ts us s tt f g a b e
    same-part (binary o) ts us s f g a b e = operator-alike (binary o) ts us s tt f g a b e
    same-part (method o) ts us s f g a b e = operator-alike (method o) ts us s tt f g a b e
    same-part list ts us s f g a b e = collection-alike (node list ts) (node list us) f g a b e
    same-part tuple ts us s f g a b e = collection-alike (node tuple ts) (node tuple us) f g a b e
    same-part set ts us s f g a b e = collection-alike (node set ts) (node set us) f g a b e
    same-part dict ts us s f g a b e = collection-alike (node dict ts) (node dict us) f g a b e
    same-part _ ts us s f g a b e = (refl, tt)

    part-alike : (t u : Tree) (s : List ℕ) → Fits part [] t → Fits part [] u → cost t + 4 < 4294967296 → cost u + 4 < 4294967296 → key t ≡ key u → Ends AreSameThings (unfold_part p (unfold_in p room) s t) (unfold_part p (unfold_in p room) s u)
    part-alike (node l ts) (node m us) s f g a b e =
        let q : l ≡ m = (equal_nodes l m ts us e).0 in
        subst (λ (x : Label). Fits part [] (node x us) → cost (node x us) + 4 < 4294967296 → key (node l ts) ≡ key (node x us) → Ends AreSameThings (unfold_part p (unfold_in p room) s (node l ts)) (unfold_part p (unfold_in p room) s (node x us))) q
        (λ g b e. same-part l ts us s f g a b e) g b e

    parts-alike : (ts us : List Tree) → AllZip (Tied part) ts us → Every (λ t. Fits part [] t × (cost t + 4 < 4294967296)) ts → Every (λ t. Fits part [] t × (cost t + 4 < 4294967296)) us → (s : List ℕ) (i : ℕ)
        → Ends AreSameThings (parts_unfolded p (unfold_in p room) s i ts) (parts_unfolded p (unfold_in p room) s i us)
    parts-alike [] [] h k l s i = (refl, tt)
    parts-alike [] (u ∷ us) h k l s i = absurd h
    parts-alike (t ∷ ts) [] h k l s i = absurd h
    parts-alike (t ∷ ts) (u ∷ us) h k l s i =
        after-ends AreSameThings AreSameThings (unfold_part p (unfold_in p room) (digest_of (Split s i)) t) (unfold_part p (unfold_in p room) (digest_of (Split s i)) u)
        (λ rs. after (parts_unfolded p (unfold_in p room) s (suc i) ts) (λ qs. pure (rs ++ qs))) (λ rs. after (parts_unfolded p (unfold_in p room) s (suc i) us) (λ qs. pure (rs ++ qs)))
        (part-alike t u (digest_of (Split s i)) k.0.0 l.0.0 k.0.1 l.0.1 h.0.0)
        (λ rs qs r. after-ends AreSameThings AreSameThings (parts_unfolded p (unfold_in p room) s (suc i) ts) (parts_unfolded p (unfold_in p room) s (suc i) us) (λ xs. pure (rs ++ xs)) (λ xs. pure (qs ++ xs))
        (parts-alike ts us h.1 k.1 l.1 s (suc i)) (λ xs ys z. (refl, things-append rs qs xs ys r z)))

  each-part : (ts : Trees) → Hold (all part) [] [] ts → costs ts + 4 < 4294967296 → Every (λ t. Fits part [] t × (cost t + 4 < 4294967296)) (listed ts)
  each-part none h a = tt
  each-part (also t ts) h a = ((h.0, omega (arith, a)), each-part ts h.1 (omega (arith, a)))

  process-parts : (t : Tree) → IsClosed t → IsRoomy t → Every (λ t. Fits part [] t × (cost t + 4 < 4294967296)) (ascending (held t))
  process-parts (node par ts) h a = ascending-every (λ t. Fits part [] t × (cost t + 4 < 4294967296)) (listed ts) (each-part ts h.1 (omega (arith, a, length-be32 0)))
  process-parts (node _ ts) h a = absurd h.1

  tied : (t u : Tree) → AreRoomyTwins t u → Tied term t u
  tied t u h =
      let a = roomy-short t h.roomy in
      let b = roomy-short u h.room in
      (h.same, (ranged_closed t h.first a, a), (ranged_closed u h.second b, b))

  pub unfold-alike : (room : ℕ) (t u : Tree) (s : List ℕ) → AreRoomyTwins t u → Ends AreSameThings (unfold_in p room t s) (unfold_in p room u s)
  unfolding unfold_in
  unfold-alike zero t u s h = (refl, tt)
  unfold-alike (suc room) t u s h =
      parts-alike room (unfold-alike room) (ascending (held t)) (ascending (held u)) (parts_tied t u (aim term t u (tied t u h))) (process-parts t h.first h.roomy) (process-parts u h.second h.room) s 0
