-- Rows that congruent parts offer are congruent, with one code.
use Rattle.std.proofs.Common.{◌≡◌, ℕ, ◌+◌, ◌*◌, Bool, true, false, cond, ltb, ◌&&◌, ◌||◌, List, [], ◌∷◌, ◌++◌, length, map as each, refl, ap, ◌∙◌, arith}
use Rattle.std.specs.List.{AllZip}
use Rattle.calculus.specs.declared.plain.Kind.{Kind}
use Rattle.calculus.specs.declared.fault.FaultKind.TheVariants as fault
use Rattle.calculus.specs.Tree.{Label, row, bind, send, receive, Tree, node, Trees, none, also, trees}
use Rattle.calculus.specs.Shape.{held, at, two, many}
use Rattle.calculus.specs.Size.{height}
use Rattle.calculus.specs.Congruence.{is_bag, congruent}
use Rattle.calculus.specs.Order.{up_to}
use Rattle.calculus.specs.Code.{code, arranged}
use Rattle.calculus.specs.Form.{term, Scope, Fits}
use Rattle.calculus.specs.Variables.{bound}
use Rattle.calculus.specs.Normal.{placed_by, by_code}
use Rattle.calculus.specs.Substitution.{renumber}
use Rattle.calculus.specs.Outcome.{Prices, Answer, gives, fails}
use Rattle.calculus.specs.Operators.{is_among}
use Rattle.calculus.specs.Rows.{Row, coded_part, row_length, row_code}
use Rattle.calculus.specs.Unfolding.{Product, a_row, Channel, row_limits, offered, send_offered, receive_offered, sorted_receive, sorted_binds, placed_from, Placed, from_on, all_places, new_index, on_channels, has_twins, all_readable}
use Rattle.calculus.proofs.Keys.{key, key_all, equal_keys}
use Rattle.calculus.proofs.Equivalence.{agree, heights_equal}
use Rattle.process_laws.proofs.Targets.{same_answer}
use Rattle.process_laws.proofs.Kept.{code-kept}
use Rattle.process_laws.proofs.Outcomes.{Answers, Ends, answers-cond}
use Rattle.process_laws.proofs.Tallies.{same-binds}
use Rattle.process_laws.proofs.Putting.{renumber-key}
use Rattle.process_laws.proofs.Likeness.{AreSameThings, AreSameChannels}

-- lists with equal keys
abbrev pub HaveSameKeys : List Tree → List Tree → Type 0
HaveSameKeys ts us = AllZip (λ t u. key t ≡ key u) ts us

pub keyed-trees : (ts us : List Tree) → HaveSameKeys ts us → key_all (trees ts) ≡ key_all (trees us)
keyed-trees [] [] h = refl
keyed-trees [] (u ∷ us) h = absurd h
keyed-trees (t ∷ ts) [] h = absurd h
keyed-trees (t ∷ ts) (u ∷ us) h = both h.0 (keyed-trees ts us h.1)
  where
    both : key t ≡ key u → key_all (trees ts) ≡ key_all (trees us) → key t ∷ key_all (trees ts) ≡ key u ∷ key_all (trees us)
    both x y = cc (x, y)

pub form-key : (l : Label) (ts us : Trees) → key_all ts ≡ key_all us → key (node l ts) ≡ key (node l us)
form-key l ts us e = equal_keys l l ts us refl (ap (λ x. arranged (is_bag l) x) e)

two-key : (l : Label) (t u v w : Tree) → key t ≡ key v → key u ≡ key w → key (two l t u) ≡ key (two l v w)
two-key l t u v w e f = form-key l (also t (also u none)) (also v (also w none)) (keyed-trees (t ∷ u ∷ []) (v ∷ w ∷ []) (e, (f, tt)))

-- rows with one id
module _ (p : ℕ) (byte : ℕ) (r q : Row) (id : r.id ≡ q.id) (same : key r.part ≡ key q.part) (coded : (i : List ℕ) → coded_part i r.part ≡ coded_part i q.part) where
  lengths : row_length r ≡ row_length q
  lengths = ap (λ c. 32 + length c) (coded [])

  code-same : row_code r ≡ row_code q
  code-same = coded r.id ∙ ap (λ i. coded_part i q.part) id

  pub limits-alike : Answers AreSameThings (row_limits r) (row_limits q)
  limits-alike =
      let c = (agree r.part q.part).1 same in
      answers-cond AreSameThings (ltb 400 (height r.part)) (ltb 400 (height q.part)) (fails fault.TooDeep) (cond (ltb 1048576 (row_length r)) (fails fault.TooBig) (gives (a_row r ∷ []))) (fails fault.TooDeep)
      (cond (ltb 1048576 (row_length q)) (fails fault.TooBig) (gives (a_row q ∷ []))) (ap (ltb 400) (heights_equal r.part q.part c)) refl
      (answers-cond AreSameThings (ltb 1048576 (row_length r)) (ltb 1048576 (row_length q)) (fails fault.TooBig) (gives (a_row r ∷ [])) (fails fault.TooBig) (gives (a_row q ∷ [])) (ap (ltb 1048576) lengths) refl ((id, c, code-same), tt))

  pub offered-alike : (a b : Answer (List Product)) → Answers AreSameThings a b → Ends AreSameThings (offered p byte r a) (offered p byte q b)
  offered-alike a b h = (ap (λ n. p + byte * n + 0) lengths, h)

-- sends
pub send-alike : (p : Prices) (s : List ℕ) (x : Bool) (c d : Channel) (vs ws : List Tree) → AreSameChannels c d → HaveSameKeys vs ws → Ends AreSameThings (send_offered p s x c vs) (send_offered p s x d ws)
send-alike p s x c d vs ws h k =
    let m : key (many row vs) ≡ key (many row ws) = form-key row (trees vs) (trees ws) (keyed-trees vs ws k) in
    let r : Row = record { id = s; part = two (send x) c.name (many row vs) } in
    let q : Row = record { id = s; part = two (send x) d.name (many row ws) } in
    let e : key r.part ≡ key q.part = two-key (send x) c.name (many row vs) d.name (many row ws) h.name m in
    let coded : (i : List ℕ) → coded_part i r.part ≡ coded_part i q.part = λ i. (let a = code-kept c.name d.name h.name in let b = code-kept (many row vs) (many row ws) m in rw (a, b) refl) in
    offered-alike p.send p.byte r q refl e coded (cond c.writable (row_limits r) (fails fault.NotWritable)) (cond d.writable (row_limits q) (fails fault.NotWritable))
    (answers-cond AreSameThings c.writable d.writable (row_limits r) (fails fault.NotWritable) (row_limits q) (fails fault.NotWritable) h.writable (limits-alike p.send p.byte r q refl e coded) refl)

-- binds with equal keys, of which the channels have equal keys too
abbrev pub AreSameBinds : Tree → Tree → Type 0
AreSameBinds b d = (key b ≡ key d) × (key (at 0 (held b)) ≡ key (at 0 (held d)))

-- binds with their places
abbrev AreSamePlaced : Placed → Placed → Type 0
AreSamePlaced x y = AreSameBinds x.0 y.0 × (x.1 ≡ y.1)

-- the same beside one code
abbrev AreSameCoded : List ℕ × Placed → List ℕ × Placed → Type 0
AreSameCoded x y = (x.0 ≡ y.0) × AreSamePlaced x.1 y.1

placed-beside : (x y : List ℕ × Placed) (xs ys : List (List ℕ × Placed)) → AreSameCoded x y → AllZip AreSameCoded xs ys → AllZip AreSameCoded (placed_by x xs) (placed_by y ys)
unfolding placed_by
placed-beside x y [] [] h k = (h, tt)
placed-beside x y [] (z ∷ zs) h k = absurd k
placed-beside x y (w ∷ ws) [] h k = absurd k
placed-beside x y (w ∷ ws) (z ∷ zs) h k = go (up_to x.0 w.0) (up_to y.0 z.0) same (placed-beside x y ws zs h k.1)
  where
    same : up_to x.0 w.0 ≡ up_to y.0 z.0
    same = ap (λ c. up_to c w.0) h.0 ∙ ap (λ c. up_to y.0 c) k.0.0

    go : (a b : Bool) → a ≡ b → AllZip AreSameCoded (placed_by x ws) (placed_by y zs) → AllZip AreSameCoded (cond a (x ∷ w ∷ ws) (w ∷ placed_by x ws)) (cond b (y ∷ z ∷ zs) (z ∷ placed_by y zs))
    go true true e r = (h, k)
    go false false e r = (k.0, r)
    go true false e r = absurd (off e)
      where
        off : true ≡ false → ⊥
        off e = cc
    go false true e r = absurd (off e)
      where
        off : false ≡ true → ⊥
        off e = cc

code-beside : (xs ys : List (List ℕ × Placed)) → AllZip AreSameCoded xs ys → AllZip AreSameCoded (by_code xs) (by_code ys)
unfolding by_code
code-beside [] [] h = tt
code-beside [] (y ∷ ys) h = absurd h
code-beside (x ∷ xs) [] h = absurd h
code-beside (x ∷ xs) (y ∷ ys) h = placed-beside x y (by_code xs) (by_code ys) h.0 (code-beside xs ys h.1)

with-codes : (xs ys : List Placed) → AllZip AreSamePlaced xs ys → AllZip AreSameCoded (each (λ b. (code (at 0 (held b.0)), b)) xs) (each (λ b. (code (at 0 (held b.0)), b)) ys)
with-codes [] [] h = tt
with-codes [] (y ∷ ys) h = absurd h
with-codes (x ∷ xs) [] h = absurd h
with-codes (x ∷ xs) (y ∷ ys) h = ((code-kept (at 0 (held x.0)) (at 0 (held y.0)) h.0.0.1, h.0), with-codes xs ys h.1)

without-codes : (xs ys : List (List ℕ × Placed)) → AllZip AreSameCoded xs ys → AllZip AreSamePlaced (each (λ x. x.1) xs) (each (λ x. x.1) ys)
without-codes [] [] h = tt
without-codes [] (y ∷ ys) h = absurd h
without-codes (x ∷ xs) [] h = absurd h
without-codes (x ∷ xs) (y ∷ ys) h = (h.0.1, without-codes xs ys h.1)

placed-alike : (i j : ℕ) (bs ds : List Tree) → i ≡ j → AllZip AreSameBinds bs ds → AllZip AreSamePlaced (placed_from i bs) (placed_from j ds)
placed-alike i j [] [] e h = tt
placed-alike i j [] (d ∷ ds) e h = absurd h
placed-alike i j (b ∷ bs) [] e h = absurd h
placed-alike i j (b ∷ bs) (d ∷ ds) e h =
    let n : length (bound b) ≡ length (bound d) = same-binds b d h.0.0 in
    ((h.0, ap (λ k. from_on k (length (bound b))) e ∙ ap (λ k. from_on j k) n), placed-alike (i + length (bound b)) (j + length (bound d)) bs ds (omega (arith, e, n)) h.1)

sorted-alike : (bs ds : List Tree) → AllZip AreSameBinds bs ds → AllZip AreSamePlaced (sorted_binds bs) (sorted_binds ds)
sorted-alike bs ds h = without-codes _ _ (code-beside _ _ (with-codes (placed_from 0 bs) (placed_from 0 ds) (placed-alike 0 0 bs ds refl h)))

places-same : (xs ys : List Placed) → AllZip AreSamePlaced xs ys → all_places xs ≡ all_places ys
places-same [] [] h = refl
places-same [] (y ∷ ys) h = absurd h
places-same (x ∷ xs) [] h = absurd h
places-same (x ∷ xs) (y ∷ ys) h = ap (λ zs. zs ++ all_places xs) h.0.1 ∙ ap (λ zs. y.1 ++ zs) (places-same xs ys h.1)

binds-keyed : (xs ys : List Placed) → AllZip AreSamePlaced xs ys → HaveSameKeys (each (λ b. b.0) xs) (each (λ b. b.0) ys)
binds-keyed [] [] h = tt
binds-keyed [] (y ∷ ys) h = absurd h
binds-keyed (x ∷ xs) [] h = absurd h
binds-keyed (x ∷ xs) (y ∷ ys) h = (h.0.0.0, binds-keyed xs ys h.1)

-- what a receive keeps of its binds
abbrev pub KeepSame : Tree → Tree → Type 0
KeepSame b d = (key (at 1 (held b)) ≡ key (at 1 (held d))) × (key (at 2 (held b)) ≡ key (at 2 (held d)))

on-alike : (cs ds : List Channel) (bs es : List Tree) → AllZip AreSameChannels cs ds → AllZip KeepSame bs es → AllZip AreSameBinds (on_channels cs bs) (on_channels ds es)
on-alike [] [] bs es h k = tt
on-alike [] (d ∷ ds) bs es h k = absurd h
on-alike (c ∷ cs) [] bs es h k = absurd h
on-alike (c ∷ cs) (d ∷ ds) [] [] h k = tt
on-alike (c ∷ cs) (d ∷ ds) [] (e ∷ es) h k = absurd k
on-alike (c ∷ cs) (d ∷ ds) (b ∷ bs) [] h k = absurd k
on-alike (c ∷ cs) (d ∷ ds) (b ∷ bs) (e ∷ es) h k = (
  (form-key bind (trees (c.name ∷ at 1 (held b) ∷ at 2 (held b) ∷ [])) (trees (d.name ∷ at 1 (held e) ∷ at 2 (held e) ∷ [])) (keyed-trees (c.name ∷ at 1 (held b) ∷ at 2 (held b) ∷ []) (d.name ∷ at 1 (held e) ∷ at 2 (held e) ∷ []) (h.0.name, (k.0.0, (k.0.1, tt)))), h.0.name),
  on-alike cs ds bs es h.1 k.1,
)

readable-same : (cs ds : List Channel) → AllZip AreSameChannels cs ds → all_readable cs ≡ all_readable ds
readable-same [] [] h = refl
readable-same [] (d ∷ ds) h = absurd h
readable-same (c ∷ cs) [] h = absurd h
readable-same (c ∷ cs) (d ∷ ds) h = ap (λ b. b && all_readable cs) h.0.readable ∙ ap (λ b. d.readable && b) (readable-same cs ds h.1)

among-same : (t u : Tree) (ts us : List Tree) → key t ≡ key u → HaveSameKeys ts us → is_among t ts ≡ is_among u us
among-same t u [] [] e h = refl
among-same t u [] (w ∷ us) e h = absurd h
among-same t u (v ∷ ts) [] e h = absurd h
among-same t u (v ∷ ts) (w ∷ us) e h = ap (λ b. b || is_among t ts) (same_answer t u v w e h.0) ∙ ap (λ b. congruent u w || b) (among-same t u ts us e h.1)

twins-same : (ts us : List Tree) → HaveSameKeys ts us → has_twins ts ≡ has_twins us
twins-same [] [] h = refl
twins-same [] (u ∷ us) h = absurd h
twins-same (t ∷ ts) [] h = absurd h
twins-same (t ∷ ts) (u ∷ us) h = ap (λ b. b || has_twins ts) (among-same t u ts us h.0 h.1) ∙ ap (λ b. is_among u us || b) (twins-same ts us h.1)

names-keyed : (cs ds : List Channel) → AllZip AreSameChannels cs ds → HaveSameKeys (each (λ c. c.name) cs) (each (λ c. c.name) ds)
names-keyed [] [] h = tt
names-keyed [] (d ∷ ds) h = absurd h
names-keyed (c ∷ cs) [] h = absurd h
names-keyed (c ∷ cs) (d ∷ ds) h = (h.0.name, names-keyed cs ds h.1)

receive-coded : (x : Kind) (t u v w : Tree) → key t ≡ key v → key u ≡ key w → (i : List ℕ) → coded_part i (two (receive x) t u) ≡ coded_part i (two (receive x) v w)
receive-coded x t u v w e f i = let m = code-kept t v e in let n = code-kept u w f in rw (m, n) refl

-- receives
pub receive-alike : (p : Prices) (s : List ℕ) (x : Kind) (cs ds : List Channel) (bs es : List Tree) (v : Scope) (body other : Tree) → AllZip AreSameChannels cs ds → AllZip KeepSame bs es → Fits term v body → key body ≡ key other
    → Ends AreSameThings (receive_offered p s x cs bs body) (receive_offered p s x ds es other)
receive-alike p s x cs ds bs es v body other h k f e =
    let a = sorted-alike (on_channels cs bs) (on_channels ds es) (on-alike cs ds bs es h k) in
    let b : key (many row (each (λ y. y.0) (sorted_binds (on_channels cs bs)))) ≡ key (many row (each (λ y. y.0) (sorted_binds (on_channels ds es)))) =
    form-key row (trees (each (λ y. y.0) (sorted_binds (on_channels cs bs)))) (trees (each (λ y. y.0) (sorted_binds (on_channels ds es)))) (keyed-trees _ _ (binds-keyed (sorted_binds (on_channels cs bs)) (sorted_binds (on_channels ds es)) a))
    in
    let q = places-same (sorted_binds (on_channels cs bs)) (sorted_binds (on_channels ds es)) a in
    let g : key (renumber (new_index (all_places (sorted_binds (on_channels cs bs)))) body) ≡ key (renumber (new_index (all_places (sorted_binds (on_channels ds es)))) other) =
    renumber-key v (new_index (all_places (sorted_binds (on_channels cs bs)))) body other f e ∙ ap (λ zs. key (renumber (new_index zs) other)) q
    in
    rest p s x cs ds (on_channels cs bs) (on_channels ds es) body other h b g
  where
    rest : (p : Prices) (s : List ℕ) (x : Kind) (cs ds : List Channel) (bs es : List Tree) (body other : Tree) → AllZip AreSameChannels cs ds
        → key (many row (each (λ y. y.0) (sorted_binds bs))) ≡ key (many row (each (λ y. y.0) (sorted_binds es))) → key (renumber (new_index (all_places (sorted_binds bs))) body) ≡ key (renumber (new_index (all_places (sorted_binds es))) other)
        → Ends AreSameThings (offered p.receive p.byte (record { id = s; part = sorted_receive x bs body }) (cond (all_readable cs) (cond (has_twins (each (λ c. c.name) cs)) (fails fault.SameChannel) (row_limits (record { id = s; part = sorted_receive x bs body }))) (fails fault.NotReadable)))
        (offered p.receive p.byte (record { id = s; part = sorted_receive x es other }) (cond (all_readable ds) (cond (has_twins (each (λ c. c.name) ds)) (fails fault.SameChannel) (row_limits (record { id = s; part = sorted_receive x es other }))) (fails fault.NotReadable)))
    rest p s x cs ds bs es body other h b g =
        let r : Row = record { id = s; part = sorted_receive x bs body } in
        let q : Row = record { id = s; part = sorted_receive x es other } in
        let e : key r.part ≡ key q.part = two-key (receive x) (many row (each (λ y. y.0) (sorted_binds bs))) (renumber (new_index (all_places (sorted_binds bs))) body) (many row (each (λ y. y.0) (sorted_binds es))) (renumber (new_index (all_places (sorted_binds es))) other) b g in
        let coded : (i : List ℕ) → coded_part i r.part ≡ coded_part i q.part = receive-coded x (many row (each (λ y. y.0) (sorted_binds bs))) (renumber (new_index (all_places (sorted_binds bs))) body) (many row (each (λ y. y.0) (sorted_binds es))) (renumber (new_index (all_places (sorted_binds es))) other) b g in
        offered-alike p.receive p.byte r q refl e coded (cond (all_readable cs) (cond (has_twins (each (λ c. c.name) cs)) (fails fault.SameChannel) (row_limits r)) (fails fault.NotReadable))
        (cond (all_readable ds) (cond (has_twins (each (λ c. c.name) ds)) (fails fault.SameChannel) (row_limits q)) (fails fault.NotReadable))
        (answers-cond AreSameThings (all_readable cs) (all_readable ds) (cond (has_twins (each (λ c. c.name) cs)) (fails fault.SameChannel) (row_limits r)) (fails fault.NotReadable) (cond (has_twins (each (λ c. c.name) ds)) (fails fault.SameChannel) (row_limits q)) (fails fault.NotReadable) (readable-same cs ds h)
        (answers-cond AreSameThings (has_twins (each (λ c. c.name) cs)) (has_twins (each (λ c. c.name) ds)) (fails fault.SameChannel) (row_limits r) (fails fault.SameChannel) (row_limits q) (twins-same _ _ (names-keyed cs ds h)) refl (limits-alike p.receive p.byte r q refl e coded)) refl)
